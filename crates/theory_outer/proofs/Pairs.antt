-- Two edits of one text, as the outer face's calls are made: either order tells and leaves the same words, and in a row as
-- one edit that covers both; and several on both sides. The theorems are `either_order`, `in_a_row`, `either_order_rows`,
-- `in_a_row_rows`, `consoles_end_alike`, `consoles_end_alike_rows`, `last_not_2` and `table_exactly`.
use Prim.Native.Nat.{ℕ, ◌*◌, ◌≤◌}
use native.Mathlib.Omega.{arith}
use mathlib.Core.Bool.{true, true≢false}
use mathlib.Core.List.{List, ◌++◌}
use mathlib.Core.Logic.{◌↔◌}
use mathlib.Core.Path.{◌≡◌, refl, ap, sym, subst, ◌∙◌}
use lib.ListN.{length, take, drop, get_or}
use lib.Seq.{take_at}
use Rattle.rules.specs.Outcomes.{Ending, halt, Told}
use Rattle.std.specs.declared.option.Option.TheVariants.{None, Some}
use Rattle.rules.specs.declared.Lexical.{Lexical}
use Rattle.rules.specs.declared.Cursor.{Cursor}
use Rattle.rules.specs.declared.Lexical.TheVariants as lexical
use Rattle.rules.specs.declared.Table.{Table}
use Rattle.std.specs.declared.result.Result.TheVariants.{Ok}
use Rattle.rules.specs.Text.{valid}
use Rattle.rules.specs.Rows.{words_of}
use Rattle.rules.specs.Scan.{read_rows, scan, room_of, scan_told, scan_leaves}
use Rattle.rules_pairs.specs.Pairs.{Edit, Lies, after, put, Pair, adjusted, both, in_turn, Covers}
use Rattle.rules_pairs.specs.Merges.{after_all, AllLie, none, next, across_all, AllClear}
use Rattle.laws.proofs.Rows.{words_length}
use Rattle.theory_calls.proofs.Answers.{scan_rows}
use Rattle.theory_edits.specs.Scanned as scanned
use Rattle.theory_edits.specs.Change.{old_text, starts}
use Rattle.theory_edits.proofs.Whole.{whole_window, whole_not_due}
use Rattle.theory_pairs.specs.Turns.{Premises, start_of, Ends, ends_1, ends_4, ends_rows}
use Rattle.theory_pairs.proofs.Texts.{same_text, byte_between, adjusted_lies, turned, covered, covers_lies}
use Rattle.theory_pairs.proofs.Made.{change_by, of_change, of_old}
use Rattle.theory_pairs.proofs.Turns.{valid_ends}
use Rattle.theory_pairs.proofs.Merges.{consoles_alike, here_lie, there_lie}
use Rattle.answers.specs.Layout.{ending_words, told_words, is_ending, table_of}
use Rattle.spoonharbor.specs.OuterChange.{OuterTable}
use Rattle.spoonharbor.specs.OuterParse.{OuterLent}
use Rattle.theory_outer.specs.Calls.{ScanCall, EditCall, ChangeCall}
use Rattle.theory_outer.specs.Said.{Edited, short, fresh}
use Rattle.theory_outer.specs.Pairs.{Applied, by_edit, by_change, Once, Turns, Made, last, more, Alike, AlikeRows}
use Rattle.theory_outer.proofs.Lent.{scan_lends, lent_room, lent_words, lent_is, lent_scanned, lent_valid}
use Rattle.theory_outer.proofs.Edits.{edit_fresh, change_fresh, restart_place}

-- What a scan left and told is held, where its words are a table's.
pub scan_held : {t lent answer rows : List ℕ} → ScanCall t lent answer rows → is_ending (get_or answer 0 0) ≡ true → OuterTable t rows answer
scan_held {lent = lent} s h = record { lent = lent; scanned = scan_lends s; table = h }

-- ---- one edit made by a call

old_lent : {t : List ℕ} {e : Edit} → Lies e t → {rows table : List ℕ} (g : OuterTable t rows table)
    → OuterLent (old_text (change_by t e)) g.lent rows table
old_lent h {rows} {table} g = of_old h (λ s. OuterLent s g.lent rows table) g.scanned

module _ {t : List ℕ} {e : Edit} (h : Lies e t) {rows table : List ℕ} (g : OuterTable t rows table) {lent answer new : List ℕ} where
  made_edit : EditCall rows table e.from e.to (put e) (start_of t e) (drop (start_of t e) (after t e)) lent answer new
      → OuterLent (after t e) lent new answer
  made_edit c =
      by (edit_fresh (change_by t e) (old_lent h g) g.table (whole_window (change_by t e))
      (of_change h (λ a b k. EditCall rows table a b (put e) k (drop k (after t e)) lent answer new) c))
    where
      by : Edited (change_by t e) (drop (starts (change_by t e)) (after t e)) lent answer new → OuterLent (after t e) lent new answer
      by (short d r) = absurd (whole_not_due (change_by t e) d)
      by (fresh d r) = r

  -- A call that makes the edit tells and leaves what a scan of the text after it does.
  pub made : Applied t e rows table lent answer new → OuterLent (after t e) lent new answer
  made (by_edit place r c) =
      let l : e.from ≤ length t = omega (arith, h.order, h.inside) in
      let k : get_or place 1 0 ≡ start_of t e = ap (λ (ws : List ℕ). get_or ws 1 0) (restart_place g.scanned g.table r l) in
      made_edit (subst (λ (k : ℕ). EditCall rows table e.from e.to (put e) k (drop k (after t e)) lent answer new) k c)
  made (by_change c) =
      change_fresh (change_by t e) (old_lent h g) g.table
      (of_change h (λ a b k. ChangeCall rows table a b (put e) (after t e) lent answer new) c)

-- a table's number is 0 or 11 to 17
ending_is : (k n : ℕ) (e : Ending) → is_ending (get_or (ending_words k n e) 0 0) ≡ true
unfolding is_ending
ending_is k n None = refl
ending_is k n (Some z) = case z.why z.at
  where
    case : (why : Lexical) (p : Cursor) → is_ending (get_or (ending_words k n (Some (halt why p))) 0 0) ≡ true
    case lexical.NoRowBegins p = refl
    case lexical.LoneSign p = refl
    case lexical.NoHexDigit p = refl
    case lexical.OpenComment p = refl
    case lexical.OpenString p = refl
    case lexical.BadEscape p = refl
    case lexical.NumberTooLarge p = refl

table_is : (table : Table) → is_ending (get_or (told_words (Ok table)) 0 0) ≡ true
table_is table = ending_is table.count table.length table.ending

-- what is told of a valid text is not 2
not_2 : {t room : List ℕ} {x : Told} → Ends t room x → get_or (told_words x) 0 0 ≡ 2 → ⊥
unfolding is_ending
not_2 (ends_1 l) q = omega arith
not_2 (ends_4 l k) q = omega arith
not_2 {t} (ends_rows p) q = true≢false (sym (table_is (scanned.table_of t)) ∙ ap is_ending q)

-- Its words are a table's exactly if demand 3's premises hold of that text.
pub table_exactly : {t lent new answer : List ℕ} → OuterLent t lent new answer → (is_ending (get_or answer 0 0) ≡ true) ↔ Premises t lent
table_exactly {t} {lent} {new} {answer} g = (
  λ h. record { fits = (lent_scanned g h).fits; good = lent_valid g h; room = lent_room g h },
  λ p.
      let f : answer ≡ told_words (Ok (scanned.table_of t))
      = g.told ∙ ap (λ (x : Told). told_words x) (scan_rows t (room_of lent) (record { fits = p.fits; good = p.good }) p.room) in
      ap (λ (ws : List ℕ). is_ending (get_or ws 0 0)) f ∙ table_is (scanned.table_of t),
)

once_lends : {t : List ℕ} {e : Edit} {room answer new : List ℕ} → Lies e t → Once t e room answer new
    → OuterLent (after t e) room new answer
once_lends h o = made h o.held o.call

-- the text after the first edit is held
pub between_held : {t : List ℕ} {e f : Edit} {room answer new : List ℕ} → Lies e t → (w : Turns t e f room answer new)
    → OuterTable (after t e) w.rows w.told
between_held h w = record { lent = w.lent; scanned = once_lends h w.first; table = w.table }

pub turns_lend : {t : List ℕ} {e f : Edit} {room answer new : List ℕ} → Lies e t → Lies f (after t e) → Turns t e f room answer new
    → OuterLent (in_turn t e f) room new answer
turns_lend h i w = made i (between_held h w) w.second

-- ---- calls that tell and leave what a scan of the same text does

alike : {t u room answer answer' new new' : List ℕ} → OuterLent t room new answer → OuterLent u room new' answer' → t ≡ u
    → Alike answer answer' new new'
alike {room = room} x y e = record {
  told = x.told ∙ ap (λ (s : List ℕ). told_words (scan_told s (room_of room))) e ∙ sym y.told;
  left = x.left ∙ ap (λ (s : List ℕ). scan_leaves s room) e ∙ sym y.left;
}

lent_rows : {t lent new answer : List ℕ} (g : OuterLent t lent new answer) → is_ending (get_or answer 0 0) ≡ true
    → take (8 * get_or answer 6 0) new ≡ words_of (read_rows (scan t))
lent_rows {t} {lent} {new} {answer} g h =
    let s = lent_scanned g h in
    ap (λ (k : Table). take (8 * k.count) new) (lent_is g h) ∙ ap (take (8 * length (read_rows (scan t)))) s.words
    ∙ take_at (words_of (read_rows (scan t))) s.spare (8 * length (read_rows (scan t))) (words_length (read_rows (scan t)))

alike_rows : {t u room room' answer answer' new new' : List ℕ} → OuterLent t room new answer → OuterLent u room' new' answer' → t ≡ u
    → is_ending (get_or answer 0 0) ≡ true → is_ending (get_or answer' 0 0) ≡ true → AlikeRows answer answer' new new'
alike_rows {t} {u} {room} {room'} {answer} {answer'} {new} {new'} x y e h k =
    let z : OuterLent t room' new' answer' = rw e y in
    let f : answer ≡ answer' = lent_words x h ∙ sym (lent_words z k) in
    record { told = f; rows = lent_rows x h ∙ sym (lent_rows z k) ∙ ap (λ (ws : List ℕ). take (8 * get_or ws 6 0) new') (sym f) }

-- ---- either order

module _ {t : List ℕ} {e f : Edit} (p : Pair t e f) where
  one_way : {room answer new : List ℕ} → Turns t e (adjusted e f) room answer new → OuterLent (both t e f) room new answer
  one_way w = turns_lend p.one (adjusted_lies p) w

  other_way : {room answer new : List ℕ} → Turns t f (adjusted f e) room answer new → OuterLent (both t f e) room new answer
  other_way w = turns_lend p.other (adjusted_lies (turned p)) w

  -- Either order, lent the same words for the last call: it tells and leaves the same words.
  pub either_order : {room answer answer' new new' : List ℕ} → Turns t e (adjusted e f) room answer new
      → Turns t f (adjusted f e) room answer' new'
      → Alike answer answer' new new'
  either_order v w = alike (one_way v) (other_way w) (same_text p)

  -- Either order at two consoles, each with memory of its own and room enough: the same eight words, and the same rows.
  pub either_order_rows : {room room' answer answer' new new' : List ℕ} → Turns t e (adjusted e f) room answer new
      → Turns t f (adjusted f e) room' answer' new' → is_ending (get_or answer 0 0) ≡ true → is_ending (get_or answer' 0 0) ≡ true
      → AlikeRows answer answer' new new'
  either_order_rows v w h k = alike_rows (one_way v) (other_way w) (same_text p) h k

  -- The last text needs no premise: it is valid, so the last call never says 2.
  pub last_not_2 : {room answer new : List ℕ} → Turns t e (adjusted e f) room answer new → valid (after t f) ≡ true
      → get_or answer 0 0 ≡ 2
      → ⊥
  last_not_2 {room} {answer} w g q =
      let o = w.first.held in
      let v : valid (both t e f) ≡ true
      = byte_between p (lent_valid o.scanned o.table) (lent_valid (once_lends p.one w.first) w.table) g in
      not_2 (valid_ends (both t e f) room v) (ap (λ (ws : List ℕ). get_or ws 0 0) (sym (one_way w).told) ∙ q)

-- ---- several on both sides

-- Edits one after the other tell and leave at last what a scan of the last text does.
pub made_all : {t : List ℕ} {es : List Edit} {rows table room answer new : List ℕ} → AllLie t es → OuterTable t rows table
    → Made t es rows table room answer new
    → OuterLent (after_all t es) room new answer
made_all none g m = elim m [ ]
made_all (next h i) g (last c) = made h g c
made_all (next h i) g (more {lent = lent} c k m) = made_all i (record { lent = lent; scanned = made h g c; table = k }) m

-- Two consoles with a common text make their own edits, and then the other's across these, where each pair on the way is
-- apart.
module _ {t : List ℕ} {ours theirs : List Edit} (h : AllClear t ours theirs) where
  -- Lent the same words, the last calls tell and leave the same words.
  pub consoles_end_alike : {rows table room answer new : List ℕ} → OuterTable t rows table
      → Made t (ours ++ across_all ours theirs) rows table room answer new
      → {rows' table' answer' new' : List ℕ} → OuterTable t rows' table'
      → Made t (theirs ++ across_all theirs ours) rows' table' room answer' new'
      → Alike answer answer' new new'
  consoles_end_alike g v k w = alike (made_all (here_lie h) g v) (made_all (there_lie h) k w) (consoles_alike h)

  -- Each in memory of its own, with room enough, they tell the same eight words and leave the same rows.
  pub consoles_end_alike_rows : {rows table room answer new : List ℕ} → OuterTable t rows table
      → Made t (ours ++ across_all ours theirs) rows table room answer new
      → {rows' table' room' answer' new' : List ℕ} → OuterTable t rows' table'
      → Made t (theirs ++ across_all theirs ours) rows' table' room' answer' new'
      → is_ending (get_or answer 0 0) ≡ true → is_ending (get_or answer' 0 0) ≡ true
      → AlikeRows answer answer' new new'
  consoles_end_alike_rows g v k w = alike_rows (made_all (here_lie h) g v) (made_all (there_lie h) k w) (consoles_alike h)

-- ---- in a row

module _ {t : List ℕ} {e f : Edit} (h : Lies e t) (i : Lies f (after t e)) (g : Edit) (c : Covers t e f g) where
  -- Two edits in a row, and one that covers both, lent the same words for the last call: it tells and leaves the same words.
  pub in_a_row : {room answer answer' new new' : List ℕ} → Turns t e f room answer new → Once t g room answer' new'
      → Alike answer answer' new new'
  in_a_row w o = alike (turns_lend h i w) (once_lends (covers_lies h i g c) o) (sym (covered h i g c))

  -- Each in memory of its own, with room enough.
  pub in_a_row_rows : {room room' answer answer' new new' : List ℕ} → Turns t e f room answer new → Once t g room' answer' new'
      → is_ending (get_or answer 0 0) ≡ true → is_ending (get_or answer' 0 0) ≡ true
      → AlikeRows answer answer' new new'
  in_a_row_rows w o k l = alike_rows (turns_lend h i w) (once_lends (covers_lies h i g c) o) (sym (covered h i g c)) k l
