-- The scan call, and what the calls over its rows tell of them: the table test and spelling.
use Prim.Native.Nat.{ℕ, zero, suc, ◌+◌, ◌-◌, ◌*◌, ◌/◌, ◌≤◌, ◌<◌}
use native.Mathlib.Nat.{not-le_of_lt}
use native.Mathlib.Omega.{arith}
use mathlib.Core.Bool.{Bool, true, false, cond, true≢false}
use mathlib.Core.List.{List}
use mathlib.Core.Logic.{◌⊎◌, inl, inr, ◌↔◌}
use mathlib.Core.Path.{◌≡◌, refl, ap, sym, ◌∙◌}
use lib.Dec.{ltb}
use lib.ListN.{length, take, drop, get_or}
use borrow.Author.Tests.{ltb-true, ltb-false}
use Rattle.rules.specs.Outcomes.{Ending, halt, Judged, Told, unread}
use Rattle.std.specs.declared.option.Option.TheVariants.{None, Some}
use Rattle.std.specs.declared.result.Result.TheVariants.{Ok, Err}
use Rattle.rules.specs.declared.Lexical.{Lexical}
use Rattle.rules.specs.declared.Cursor.{Cursor}
use Rattle.rules.specs.declared.Lexical.TheVariants as lexical
use Rattle.rules.specs.declared.Outer.TheVariants.{TextTooLong, BadByte, NoRowRoom}
use Rattle.rules.specs.declared.Table.{Table}
use Rattle.rules.specs.Text.{most_bytes, valid_bytes, valid, place_at, start_place}
use Rattle.rules.specs.Rows.{Row, row_no, rows_in, well_formed, spelling}
use Rattle.rules.specs.Scan.{Reading, read_rows, read_ending, scan, room_of, scan_told}
use Rattle.rules.specs.Calls.{judged, spelling_judged}
use Rattle.laws.proofs.Rows.{few_rows, rows_at, start_word, end_word}
use Rattle.theory_bytes.specs.Octets.{Octets}
use Rattle.theory_bytes.proofs.Octets.{valid_exactly, longest}
use Rattle.theory_calls.specs.Demand2.{rows_of}
use Rattle.theory_calls.proofs.Answers.{scan_too_long, scan_bad_byte, scan_rows, scan_few_rows}
use Rattle.theory_comments.specs.Comments.{comments_in, counted}
use Rattle.theory_comments.proofs.Comments.{counts_add_up}
use Rattle.theory_edits.specs.Scanned as scanned
use Rattle.theory_edits.proofs.Low.{Between, Parts, part, parts_end, parts_stop, rows_between}
use Rattle.theory_edits.proofs.WellFormed.{scanned_rows, scanned_well_formed}
use Rattle.answers.specs.Layout.{words, ending_words, told_words, is_ending, table_of, nowhere}
use Rattle.answers.proofs.Table.{no_table}
use Rattle.theory_outer.specs.Calls.{ScanCall, WellFormedCall, SpellingCall}
use Rattle.theory_outer.specs.Said.{Part, Spells, spells, beyond, unread as told_unread}
use Rattle.theory_outer.proofs.Calls.{scan_says, well_says, spelling_says}
use Rattle.theory_outer.proofs.Lent.{scan_lends, lent_words, lent_is, lent_scanned, lent_valid}

-- ---- the ways in which a scan ends

data Tells (t : List ℕ) (m : ℕ) : Told → Type 0 where
  tells_1 : Tells t m (Err (unread TextTooLong start_place 0))
  tells_2 : valid t ≡ false → Tells t m (Err (unread BadByte (place_at t (valid_bytes t)) 0))
  tells_4 : length t ≤ most_bytes → m < length (rows_of t) → Tells t m (Err (unread NoRowRoom start_place m))
  tells_rows : Tells t m (Ok (scanned.table_of t))

tells : (t : List ℕ) (m : ℕ) → Tells t m (scan_told t m)
tells t m = by (ltb most_bytes (length t)) refl (valid t) refl (ltb m (length (rows_of t))) refl
  where
    by : (x : Bool) → ltb most_bytes (length t) ≡ x → (y : Bool) → valid t ≡ y → (z : Bool) → ltb m (length (rows_of t)) ≡ z
        → Tells t m (scan_told t m)
    by true x y v z r = rw (scan_too_long t m (ltb-true _ _ x)) tells_1
    by false x false v z r = rw (scan_bad_byte t m (ltb-false _ _ x) v) (tells_2 v)
    by false x true v true r =
        let l = ltb-false _ _ x in
        let f = ltb-true _ _ r in rw (scan_few_rows t m (record { fits = l; good = v }) f) (tells_4 l f)
    by false x true v false r =
        rw (scan_rows t m (record { fits = ltb-false _ _ x; good = v }) (ltb-false _ _ r)) tells_rows

-- a table's number is none of 1 to 7
ending_number : (k n : ℕ) (e : Ending) → 0 < get_or (ending_words k n e) 0 0 → 7 < get_or (ending_words k n e) 0 0
ending_number k n None f = omega arith
ending_number k n (Some z) f = case z.why z.at f
  where
    case : (why : Lexical) (p : Cursor) → 0 < get_or (ending_words k n (Some (halt why p))) 0 0 → 7 < get_or (ending_words k n (Some (halt why p))) 0 0
    case lexical.NoRowBegins p f = omega arith
    case lexical.LoneSign p f = omega arith
    case lexical.NoHexDigit p f = omega arith
    case lexical.OpenComment p f = omega arith
    case lexical.OpenString p f = omega arith
    case lexical.BadEscape p f = omega arith
    case lexical.NumberTooLarge p f = omega arith

rows_number : (t : Table) → 0 < get_or (told_words (Ok t)) 0 0 → 7 < get_or (told_words (Ok t)) 0 0
rows_number t h = ending_number t.count t.length t.ending h

not_4 : {t : List ℕ} {m : ℕ} {x : Told} → Tells t m x → (length t ≤ most_bytes → length (rows_of t) ≤ m) → get_or (told_words x) 0 0 ≡ 4 → ⊥
not_4 tells_1 room e = omega arith
not_4 (tells_2 v) room e = omega arith
not_4 (tells_4 l f) room e = not-le_of_lt f (room l)
not_4 {t} tells_rows room e = let l = rows_number (scanned.table_of t) (omega (arith, e)) in omega (arith, e)

not_2 : {t : List ℕ} {m : ℕ} {x : Told} → Tells t m x → valid t ≡ true → get_or (told_words x) 0 0 ≡ 2 → ⊥
not_2 tells_1 v e = omega arith
not_2 (tells_2 f) v e = true≢false (sym v ∙ f)
not_2 (tells_4 l f) v e = omega arith
not_2 {t} tells_rows v e = let l = rows_number (scanned.table_of t) (omega (arith, e)) in omega (arith, e)

-- nor is a scan's number 7
pub not_7 : (t : List ℕ) (m : ℕ) → get_or (told_words (scan_told t m)) 0 0 ≡ 7 → ⊥
not_7 t m e = by (tells t m) e
  where
    by : {x : Told} → Tells t m x → get_or (told_words x) 0 0 ≡ 7 → ⊥
    by tells_1 e = omega arith
    by (tells_2 f) e = omega arith
    by (tells_4 l f) e = omega arith
    by tells_rows e = let l = rows_number (scanned.table_of t) (omega (arith, e)) in omega (arith, e)

-- the place of 2
at_2 : {t : List ℕ} {m : ℕ} {x : Told} {answer : List ℕ} → Tells t m x → answer ≡ told_words x → get_or (told_words x) 0 0 ≡ 2
    → get_or answer 1 0 ≡ valid_bytes t
unfolding place_at
at_2 tells_1 q e = absurd (omega arith)
at_2 (tells_2 f) q e = rw q
at_2 (tells_4 l f) q e = absurd (omega arith)
at_2 {t} tells_rows q e = let l = rows_number (scanned.table_of t) (omega (arith, e)) in absurd (omega (arith, e))

-- a table whose number is 0 ends the text
none_told : (k n : ℕ) (e : Ending) → get_or (ending_words k n e) 0 0 ≡ 0 → e ≡ None
none_told k n None f = refl
none_told k n (Some z) f = case z.why z.at f
  where
    case : (why : Lexical) (p : Cursor) → get_or (ending_words k n (Some (halt why p))) 0 0 ≡ 0 → Some (halt why p) ≡ None
    case lexical.NoRowBegins p f = absurd (omega arith)
    case lexical.LoneSign p f = absurd (omega arith)
    case lexical.NoHexDigit p f = absurd (omega arith)
    case lexical.OpenComment p f = absurd (omega arith)
    case lexical.OpenString p f = absurd (omega arith)
    case lexical.BadEscape p f = absurd (omega arith)
    case lexical.NumberTooLarge p f = absurd (omega arith)

-- each row of a reading whose rows start and end between characters
part_at : (t : List ℕ) (v : valid t ≡ true) (d : Row) {l : Reading} → Parts t v l → (k : ℕ) → k < length (read_rows l)
    → Between t (get_or (read_rows l) k d).start × Between t (get_or (read_rows l) k d).end
unfolding read_rows
part_at t v d (part f g p) zero h = (f, g)
part_at t v d (part f g p) (suc k) h = part_at t v d p k (omega arith)
part_at t v d parts_end k h = absurd (omega arith)
part_at t v d parts_stop k h = absurd (omega arith)

-- ---- room is enough

module _ {text lent answer rows : List ℕ} (s : ScanCall text lent answer rows) where
  its_number : {k : ℕ} → get_or answer 0 0 ≡ k → get_or (told_words (scan_told text (room_of lent))) 0 0 ≡ k
  its_number e = ap (λ (ws : List ℕ). get_or ws 0 0) (sym (scan_says s).0) ∙ e

  -- A scan of n bytes that is lent eight words for each of n + 1 rows does not say 4.
  pub row_room : (length text + 1) * 8 ≤ length lent → get_or answer 0 0 ≡ 4 → ⊥
  unfolding scan room_of
  row_room h e = not_4 (tells text (room_of lent)) (λ l. omega (arith, few_rows (place_at text) 0 0 0 text)) (its_number e)

  -- One that is lent eight words for each of 65,537 rows never does, whatever the text.
  pub row_room_always : 65537 * 8 ≤ length lent → get_or answer 0 0 ≡ 4 → ⊥
  unfolding scan room_of
  row_room_always h e = not_4 (tells text (room_of lent)) (λ l. omega (arith, few_rows (place_at text) 0 0 0 text)) (its_number e)

  -- ---- 2

  -- A scan that is not too long says 2 exactly if the text is not what RFC 3629 derives.
  pub bad_byte_exactly : length text ≤ most_bytes → (get_or answer 0 0 ≡ 2) ↔ (Octets text → ⊥)
  bad_byte_exactly l = (λ e o. not_2 (tells text (room_of lent)) ((valid_exactly text).1 o) (its_number e), λ h. by (valid text) refl h)
    where
      by : (y : Bool) → valid text ≡ y → (Octets text → ⊥) → get_or answer 0 0 ≡ 2
      by true v h = absurd (h ((valid_exactly text).0 v))
      by false v h = rw ((scan_says s).0, scan_bad_byte text (room_of lent) l v)

  -- It stands behind the longest beginning that RFC 3629 derives.
  pub bad_byte_place : get_or answer 0 0 ≡ 2 → Octets (take (get_or answer 1 0) text)
      × ((k : ℕ) → k ≤ length text → Octets (take k text) → k ≤ get_or answer 1 0)
  bad_byte_place e = rw (at_2 (tells text (room_of lent)) (scan_says s).0 (its_number e)) (longest text)

  -- ---- a table

  module _ (h : is_ending (get_or answer 0 0) ≡ true) where
    -- Its rows start and end between two characters.
    pub rows_split : (k : ℕ) → k < get_or answer 6 0 → Between text (row_no rows k).start × Between text (row_no rows k).end
    rows_split k l =
        let w = lent_scanned (scan_lends s) h in
        let c : get_or answer 6 0 ≡ length (rows_of text) = ap (λ (t : Table). t.count) (lent_is (scan_lends s) h) in
        let f : k < length (rows_of text) = omega arith in
        let e : get_or (rows_of text) k (row_no rows k) ≡ row_no rows k =
        ap (λ (rs : List Row). get_or rs k (row_no rows k)) (sym (scanned_rows w)) ∙ rows_at (length (rows_of text)) rows (row_no rows k) k f in
        rw e at (part_at text (lent_valid (scan_lends s) h) (row_no rows k) (rows_between text (lent_valid (scan_lends s) h)) k f)

    -- What a scan left and told is well formed.
    pub scan_then_test : {r : ℕ} → WellFormedCall rows answer r → r ≡ 1
    scan_then_test w = well_says w ∙ rw (lent_is (scan_lends s) h, scanned_well_formed (lent_scanned (scan_lends s) h))

  -- Where a text is read to its end, the comments that its rows count add up to the text's comments.
  pub comments_add_up : get_or answer 0 0 ≡ 0 → counted (rows_in (get_or answer 6 0) rows) ≡ comments_in text
  unfolding is_ending
  comments_add_up e =
      let h : is_ending (get_or answer 0 0) ≡ true = rw e in
      let f : get_or (told_words (Ok (scanned.table_of text))) 0 0 ≡ 0
      = ap (λ (ws : List ℕ). get_or ws 0 0) (sym (lent_words (scan_lends s) h)) ∙ e in
      let d = none_told (scanned.table_of text).count (scanned.table_of text).length (read_ending (scan text)) f in
      ap (λ (t : Table). counted (rows_in t.count rows)) (lent_is (scan_lends s) h)
      ∙ ap counted (scanned_rows (lent_scanned (scan_lends s) h))
      ∙ counts_add_up text d

-- ---- the table test

-- 1 of a table that is well formed, and else 0
pub tested_exactly : {rows table : List ℕ} {r : ℕ} → WellFormedCall rows table r
    → ((r ≡ 1) × (well_formed rows (table_of table) ≡ true)) ⊎ ((r ≡ 0) × (well_formed rows (table_of table) ≡ false))
tested_exactly {rows} {table} {r} w = by (well_formed rows (table_of table)) refl
  where
    by : (x : Bool) → well_formed rows (table_of table) ≡ x
        → ((r ≡ 1) × (well_formed rows (table_of table) ≡ true)) ⊎ ((r ≡ 0) × (well_formed rows (table_of table) ≡ false))
    by true e = inl (well_says w ∙ rw e, e)
    by false e = inr (well_says w ∙ rw e, e)

-- 0 of words that tell no table
pub no_table_tested : {rows table : List ℕ} {r : ℕ} → WellFormedCall rows table r → is_ending (get_or table 0 0) ≡ false → r ≡ 0
no_table_tested {rows} {table} w h = well_says w ∙ rw (no_table rows table h)

-- ---- spelling

-- Row k's start and end, of the text that was scanned: the part between them is the row's spelling. Else 1, 2 or 3.
pub spelled : {text rows table : List ℕ} {k : ℕ} {answer : List ℕ} → SpellingCall text rows table k answer
    → Spells text rows (table_of table) k answer
unfolding spelling_judged spelling
spelled {text} {rows} {table} {k} {answer} s = by (judged text rows (table_of table)) refl (ltb k (table_of table).count) refl
  where
    by : (v : Judged) → judged text rows (table_of table) ≡ v → (x : Bool) → ltb k (table_of table).count ≡ x
        → Spells text rows (table_of table) k answer
    by (Ok _) e true x =
        let t : answer ≡ words 0 nowhere (row_no rows k).start (row_no rows k).end 0 0
        = spelling_says s ∙ rw (spelling_judged, e, x, start_word rows k, end_word rows k) in
        spells e (ltb-true _ _ x) (record { told = t; part = rw t })
    by (Ok _) e false x = beyond e (ltb-false _ _ x) (spelling_says s ∙ rw (spelling_judged, e, x))
    by (Err refusal) e x f = told_unread refusal.why refusal.at e (spelling_says s ∙ rw (spelling_judged, e))
