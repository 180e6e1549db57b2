-- A scan that stands behind a row, or in a gap, goes on as a scan that begins there.
use Prim.Native.Nat.{ℕ, suc}
use native.Mathlib.Nat.{add-zero}
use native.Mathlib.Numerals.{add-one}
use mathlib.Core.List.{List, [], ◌∷◌, ◌++◌}
use mathlib.Core.Path.{◌≡◌, refl, ap, sym, ◌∙◌}
use lib.ListN.{drop}
use lib.Seq.{drop-drop}
use Rattle.rules.specs.Text.{place_at}
use Rattle.rules.specs.Rows.{Row, eof_row}
use Rattle.rules.specs.Scan.{Reading, put, ends, read_rows, read_ending}
use Rattle.theory_machine.specs.Machine.{gap, begin, passed, after, move, close, run}
use Rattle.theory_edits.proofs.Steps.{step_gap, finish_gap}

-- the text T from offset n on is s
pub record At (T s : List ℕ) (n : ℕ) : Type 0 where
  pub text : drop n T ≡ s

pub at_next : {T s : List ℕ} {n m b : ℕ} → At T (b ∷ s) n → m ≡ suc n → At T s m
at_next {T} {s} {n} {m} {b} h e =
    record { text = ap (λ (i : ℕ). drop i T) (e ∙ sym (add-one n)) ∙ sym (drop-drop 1 n T) ∙ ap (drop 1) h.text }

pub at_same : {T s : List ℕ} {n m : ℕ} → At T s n → m ≡ n → At T s m
at_same {T} h e = record { text = ap (λ (i : ℕ). drop i T) e ∙ h.text }

-- the scan of T from n on, behind a row or in a gap of which c comments stand before n
unfoldable pub rest : List ℕ → (c n : ℕ) → Reading
rest T c n = run (place_at T) (drop n T) c n 0 gap

pub rest_at : {T s : List ℕ} {n : ℕ} (c : ℕ) → At T s n → rest T c n ≡ run (place_at T) s c n 0 gap
unfolding rest
rest_at c h = rw h.text

pub rest_begin : {T s : List ℕ} {n b : ℕ} (c : ℕ) → At T (b ∷ s) n → rest T c n ≡ after (place_at T) (run (place_at T) s) c n 0 (begin b)
unfolding rest run move passed
rest_begin c h = rw (h.text, run, step_gap, move, add-zero)

pub rest_end : {T : List ℕ} {n : ℕ} (c : ℕ) → At T [] n → rest T c n ≡ put (eof_row (place_at T n) c) ends
unfolding rest run close passed
rest_end c h = rw (h.text, run, finish_gap, close, add-zero)

-- rows before a reading
unfoldable pub puts : List Row → Reading → Reading
puts [] l = l
puts (r ∷ rs) l = put r (puts rs l)

pub puts_rows : (rs : List Row) (l : Reading) → read_rows (puts rs l) ≡ rs ++ read_rows l
unfolding puts read_rows
puts_rows [] l = refl
puts_rows (r ∷ rs) l = ap (λ (x : List Row). r ∷ x) (puts_rows rs l)

pub puts_ending : (rs : List Row) (l : Reading) → read_ending (puts rs l) ≡ read_ending l
unfolding puts read_ending
puts_ending [] l = refl
puts_ending (r ∷ rs) l = puts_ending rs l
