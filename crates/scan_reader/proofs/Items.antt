-- Laws of the item at an index: by the class of its byte, what is told of it.
use mathlib.Core.Path.{◌≡◌, refl, sym, ap, ◌∙◌}
use mathlib.Core.Bool.{Bool, true, false, cond, not, ◌&&◌, ◌||◌}
use mathlib.Core.List.{List, [], ◌∷◌}
use Prim.Native.Nat.{ℕ, suc, ◌+◌, ◌-◌, ◌≤◌, ◌<◌}
use native.Mathlib.Nat.{add-zero}
use native.Mathlib.Decide.{dec_lt}
use native.Mathlib.Omega.{arith}
use lib.ListN.{length, drop, get_or, length-drop, drop_of_length-le}
use lib.Dec.{eqb, ltb}
use borrow.Author.Tests.{eq-eqb, ne_eqb, eqb-true, ltb-true, not-true, lt-ltb, le-ltb}
use Rattle.rules.specs.Text.{is_blank}
use Rattle.rules.specs.Kinds.{Eof, signs, same_bytes, kind_in}
use Rattle.rules.specs.Lex.{Piece, blank, decided_at, is_letter, is_digit, is_lone, maybe_two, word, number, slashed, dashed, string, sign, single, beginning, piece, known, unknown, item}
use Rattle.rules.specs.declared.Lexical.TheVariants.{NoRowBegins}
use Rattle.laws.specs.Tests.{all_below}
use Rattle.laws.proofs.Tests.{both_true, below}
use Rattle.scan_words.specs.Class as class
use Rattle.scan_words.specs.Class.{class_of, Classes}
use Rattle.scan_words.proofs.Marks.{class_test, class_byte, one_sign, alone}
use Rattle.scan_reader.specs.declared.Brief.{Brief}
use Rattle.scan_reader.specs.Brief.{Blank, End, Rare, refusal_code, told, settled}
use Rattle.scan_reader.proofs.Settled.{nothing, settled_inside}
use Rattle.scan_reader.proofs.Signs.{byte_here, single_decided}

-- ---- the piece that a class begins

unfoldable pub chosen : ℕ → List ℕ → Piece
chosen k s =
    cond (eqb k class.Blank) blank
    (cond (eqb k class.Letter) (word s)
    (cond (eqb k class.Digit) (number false 0 s)
    (cond (eqb k class.Slash) (slashed s)
    (cond (eqb k class.Dash) (dashed s)
    (cond (eqb k class.Quote) (string false 1 (drop 1 s)) (cond (eqb k class.Double) (sign s) (single (get_or s 0 0) 0)))))))

sign_single : (s : List ℕ) → maybe_two (get_or s 0 0) ≡ false → sign s ≡ single (get_or s 0 0) 0
unfolding sign
sign_single s e = rw e

piece_chosen : (s : List ℕ) → piece s ≡ chosen (class_of (get_or s 0 0)) s
unfolding piece beginning class_of chosen
piece_chosen s =
    let b = get_or s 0 0 in
    pick (is_blank b) (eqb b 47) (is_letter b) (is_digit b) (eqb b 45) (eqb b 34) (maybe_two b) (eqb (kind_in signs Eof (b ∷ [])) Eof) (sign_single s)
  where
    pick : (p q r u v w x y : Bool) → (x ≡ false → sign s ≡ single (get_or s 0 0) 0) →
        cond p blank (cond q (slashed s) (cond r (word s) (cond u (number false 0 s) (cond v (dashed s) (cond w (string false 1 (drop 1 s)) (sign s))))))
        ≡ chosen (cond p class.Blank (cond q class.Slash (cond r class.Letter (cond u class.Digit
        (cond v class.Dash (cond w class.Quote (cond x class.Double (cond y class.Nothing class.Sign)))))))) s
    pick true q r u v w x y e = refl
    pick false true r u v w x y e = refl
    pick false false true u v w x y e = refl
    pick false false false true v w x y e = refl
    pick false false false false true w x y e = refl
    pick false false false false false true x y e = refl
    pick false false false false false false true y e = refl
    pick false false false false false false false true e = e refl
    pick false false false false false false false false e = e refl

-- ---- the item

item_cons : (whole : Bool) (u : List ℕ) → 0 < length u → item whole u ≡ cond (whole || ltb (decided_at (piece u)) (length u)) (known (piece u)) unknown
unfolding item
item_cons whole [] h = absurd (none h)
  where
    none : 0 < 0 → ⊥
    none h = omega arith
item_cons whole (b ∷ u) h = refl

shifted : (a d n m : ℕ) → a + m ≡ n → ltb d m ≡ ltb (a + d) n
shifted a d n m e = pick (dec_lt d m)
  where
    pick : Dec (d < m) → ltb d m ≡ ltb (a + d) n
    pick (yes h) = lt-ltb d m h ∙ sym (lt-ltb (a + d) n (omega arith))
    pick (no h) = le-ltb d m (omega arith) ∙ sym (le-ltb (a + d) n (omega arith))

-- at an index, by the class of the byte there
pub item_at : (whole : Bool) (t : List ℕ) (a : ℕ) → a < length t → (k : ℕ) → class_of (get_or t a 0) ≡ k →
    item whole (drop a t) ≡ cond (whole || ltb (a + decided_at (chosen k (drop a t))) (length t)) (known (chosen k (drop a t))) unknown
item_at whole t a h k e =
    let u = drop a t in
    let p : piece u ≡ chosen k u = piece_chosen u ∙ ap (λ (x : ℕ). chosen x u) (ap class_of (byte_here t a) ∙ e) in
    item_cons whole u (omega (arith, length-drop a t))
    ∙ ap (λ (x : Piece). cond (whole || ltb (decided_at x) (length u)) (known x) unknown) p
    ∙ ap (λ (x : Bool). cond (whole || x) (known (chosen k u)) unknown) (shifted a (decided_at (chosen k u)) (length t) (length u) (omega (arith, length-drop a t)))

least_test : ℕ → Bool
least_test b = ltb (class_of b) 9

least : all_below least_test 256 ≡ true
unfolding least_test class_of is_blank is_letter is_digit maybe_two kind_in signs same_bytes
least = refl

lower : (n k : ℕ) → k < suc n → (k ≡ n → ⊥) → k < n
lower n k l e = omega arith

only : (k : ℕ) → k < 3 → (k ≡ class.Letter → ⊥) → (k ≡ class.Digit → ⊥) → k ≡ class.Nothing
only k l no_letter no_digit = omega arith

-- a class that is none of the others is that of no beginning
pub class_none : (b : ℕ) → b < 256 → (k : ℕ) → class_of b ≡ k → Rare k →
    (k ≡ class.Blank → ⊥) → (k ≡ class.Slash → ⊥) → (k ≡ class.Dash → ⊥) → (k ≡ class.Quote → ⊥) → class_of b ≡ class.Nothing
unfolding least_test
class_none b h k e r no_blank no_slash no_dash no_quote =
    let l : k < 9 = rw e at (ltb-true (class_of b) 9 (below least_test 256 least b h)) in
    let m : k < 5 = lower 5 k (lower 6 k (lower 7 k (lower 8 k l r.no_sign) r.no_double) no_quote) no_dash in
    e ∙ only k (lower 3 k (lower 4 k m no_slash) no_blank) r.no_word r.no_number

-- ---- what is told of the item

none_test : ℕ → Bool
none_test b = not (is_lone b) && eqb (one_sign b) Eof

-- a byte that begins nothing
nothing_begins : (b : ℕ) → b < 256 → class_of b ≡ class.Nothing → (is_lone b ≡ false) × (one_sign b ≡ Eof)
unfolding none_test class_test class_of is_blank is_letter is_digit maybe_two kind_in signs same_bytes
nothing_begins b h e =
    let x = both_true (not (is_lone b)) (eqb (one_sign b) Eof) (class_byte class.Nothing none_test refl b h e) in
    (not-true _ x.0, eqb-true _ _ x.1)

told_cond : (s : List ℕ) (x : Piece) (p : Bool) → told s (cond p (known x) unknown) ≡ cond p (told s (known x)) (told s unknown)
told_cond s x true = refl
told_cond s x false = refl

module _ (whole : Bool) (t : List ℕ) (a : ℕ) where
  -- what is told at the index
  abbrev pub here : Brief
  here = told (drop a t) (item whole (drop a t))

  pub told_end : length t ≤ a → whole ≡ true → here ≡ record { size = 0; kind = End; bits = 0 }
  unfolding item told
  told_end h w = rw (drop_of_length-le t h, w)

  pub told_short : length t ≤ a → whole ≡ false → here ≡ nothing
  unfolding item told
  told_short h w = rw (drop_of_length-le t h, w)

  module _ (h : a < length t) where
    -- by the class of the byte
    pub told_class : (k : ℕ) → class_of (get_or t a 0) ≡ k → settled whole t a (chosen k (drop a t)) ≡ here
    unfolding settled
    told_class k e =
        let p = chosen k (drop a t) in
        sym (ap (told (drop a t)) (item_at whole t a h k e) ∙ told_cond (drop a t) p (whole || ltb (a + decided_at p) (length t)))

    pub told_blank : class_of (get_or t a 0) ≡ class.Blank → here ≡ record { size = 1; kind = Blank; bits = 0 }
    unfolding chosen decided_at told
    told_blank e = sym (told_class class.Blank e) ∙ settled_inside whole t a blank (rw add-zero h)

    -- a class that begins a sign of one byte, or nothing
    told_single : (k : ℕ) → class_of (get_or t a 0) ≡ k → chosen k (drop a t) ≡ single (get_or (drop a t) 0 0) 0 → here ≡ told (drop a t) (known (single (get_or t a 0) 0))
    told_single k e c =
        let b = get_or t a 0 in
        sym (told_class k e)
        ∙ ap (settled whole t a) (c ∙ ap (λ (x : ℕ). single x 0) (byte_here t a))
        ∙ settled_inside whole t a (single b 0) (rw (single_decided b 0) (rw add-zero h))

    pub told_sign : {cl : List ℕ} (r : Classes cl) → get_or t a 0 < 256 → 32 < get_or cl (get_or t a 0) 0 → here ≡ record { size = 1; kind = get_or cl (get_or t a 0) 0 - 32; bits = 0 }
    unfolding chosen single told
    told_sign r b l =
        let n = alone r (get_or t a 0) b l in
        told_single class.Sign n.class refl ∙ rw (n.plain, ne_eqb _ _ n.some, n.kind)

    pub told_none : get_or t a 0 < 256 → class_of (get_or t a 0) ≡ class.Nothing → here ≡ record { size = 0; kind = refusal_code NoRowBegins; bits = 0 }
    unfolding chosen single told
    told_none b e =
        let n = nothing_begins (get_or t a 0) b e in
        told_single class.Nothing e refl ∙ rw (n.0, eq-eqb _ _ n.1)
