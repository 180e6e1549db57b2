-- What a scan into a scratch with room for every text says of the table that is held against it.
use mathlib.Core.Path.{◌≡◌, refl, sym, ap, ◌∙◌}
use mathlib.Core.Bool.{Bool, true, false, ◌&&◌}
use mathlib.Core.List.{List, ◌++◌}
use Prim.Native.Nat.{ℕ, ◌*◌, ◌≤◌}
use native.Mathlib.Omega.{arith}
use lib.Dec.{eqb}
use lib.ListN.{length, take, length-append}
use lib.Seq.{take-append_seam}
use Rattle.rules.specs.declared.Cursor.{Cursor}
use Rattle.rules.specs.Outcomes.{Judged, unfit, Told, unread}
use Rattle.std.specs.declared.result.Result.TheVariants.{Ok, Err}
use Rattle.rules.specs.declared.Outer.{Outer}
use Rattle.rules.specs.declared.Table.{Table}
use Rattle.rules.specs.Text.{place_at, text_judged, most_bytes}
use Rattle.rules.specs.Kinds.{same_bytes}
use Rattle.rules.specs.Rows.{words_of}
use Rattle.rules.specs.Scan.{scan, read_rows, read_ending, room_of, scan_told, scan_leaves}
use Rattle.rules_layout.specs.Layout.{is_whole, begins, is_scan, is_scanned}
use Rattle.laws.proofs.Rows.{few_rows, words_length, scan_told_lem, told_all}
use Rattle.laws.proofs.Valid.{fine_text, text_fine}
use Rattle.theory_edits.specs.Scanned.{table_of, Scanned}
use Rattle.theory_edits.proofs.WellFormed.{scan_valid, scan_scanned}
use Rattle.layout_judge.specs.Judging.{same_table}

both_both : (x y z : Bool) → x && (y && z) ≡ (x && y) && z
both_both true y z = refl
both_both false y z = refl

-- a text's rows always have room
enough : (t m : List ℕ) → length m ≡ 524296 → text_judged t ≡ Ok tt → length (read_rows (scan t)) ≤ room_of m
unfolding room_of scan
enough t m h e = omega (arith, few_rows (place_at t) 0 0 0 t, (fine_text t e).0)

module _ (t ws : List ℕ) (tbl : Table) where
  -- what is no text has no table
  no_text : (why : Outer) (p : Cursor) → text_judged t ≡ Err (unfit why p) → false ≡ is_scanned t ws tbl
  unfolding is_scanned
  no_text why p e = rw (is_scanned, e)

  pub of_text : text_judged t ≡ Ok tt → is_scanned t ws tbl ≡ is_scan t ws tbl
  unfolding is_scanned
  of_text e = rw (is_scanned, e)

  tests : is_scan t ws tbl ≡ (same_table (table_of t) tbl && begins (words_of (read_rows (scan t))) ws)
  unfolding is_scan same_table
  tests = both_both (is_whole (read_ending (scan t)) && is_whole tbl.ending) (eqb tbl.count (length (read_rows (scan t))) && eqb tbl.length (length t)) (begins (words_of (read_rows (scan t))) ws)

  -- a refusal is told of what is no text
  pub scan_refused : (m : List ℕ) → length m ≡ 524296 → {why : Outer} {p : Cursor} {n : ℕ} → scan_told t (room_of m) ≡ Err (unread why p n) → false ≡ is_scanned t ws tbl
  scan_refused m h {why} {p} {n} e = by (text_judged t) refl
    where
      by : (j : Judged) → text_judged t ≡ j → false ≡ is_scanned t ws tbl
      by (Ok _) d =
          let r = scan_told_lem t d (room_of m) ∙ told_all (length t) (room_of m) (read_rows (scan t)) (read_ending (scan t)) (enough t m h d) in
          let z : ◌≡◌ {A = ℕ} 0 1 = cc (sym r ∙ e) in
          absurd (let y : ⊥ = omega arith in y)
      by (Err e) d = no_text e.why e.at d

  -- rows are told of a text
  module _ (m : List ℕ) (f : Table) (e : scan_told t (room_of m) ≡ Ok f) where
    held : Scanned t (scan_leaves t m) f
    held = scan_scanned t m f e

    held_tests : is_scanned t ws tbl ≡ (same_table f tbl && begins (words_of (read_rows (scan t))) ws)
    held_tests =
        of_text (text_fine t held.fits (scan_valid t (room_of m) f e)) ∙ tests
        ∙ ap (λ (x : Table). same_table x tbl && begins (words_of (read_rows (scan t))) ws) (sym held.told)

    pub other_table : same_table f tbl ≡ false → false ≡ is_scanned t ws tbl
    other_table d = sym (held_tests ∙ ap (λ (b : Bool). b && begins (words_of (read_rows (scan t))) ws) d)

    long : f.count * 8 ≡ length (words_of (read_rows (scan t)))
    long =
        let c : f.count ≡ length (read_rows (scan t)) = ap (λ (x : Table). x.count) held.told in
        omega (arith, c, words_length (read_rows (scan t)))

    -- the text's rows stand first in the scratch
    front : take (f.count * 8) (scan_leaves t m) ≡ words_of (read_rows (scan t))
    front =
        ap (λ (k : ℕ). take k (scan_leaves t m)) long ∙ ap (λ (l : List ℕ). take (length (words_of (read_rows (scan t)))) l) held.words
        ∙ take-append_seam (words_of (read_rows (scan t))) held.spare

    module _ (m' : List ℕ) (left : m' ≡ scan_leaves t m) where
      pub rows_inside : f.count * 8 ≤ length m'
      rows_inside =
          let n : length m' ≡ length (words_of (read_rows (scan t)) ++ held.spare) = ap length (left ∙ held.words) in
          omega (arith, long, n, length-append (words_of (read_rows (scan t))) held.spare)

      pub same_rows : {x : Bool} → same_table f tbl ≡ true → x ≡ same_bytes (take (f.count * 8) m') (take (f.count * 8) ws) → x ≡ is_scanned t ws tbl
      same_rows d q =
          q ∙ ap (λ (l : List ℕ). same_bytes l (take (f.count * 8) ws)) (ap (take (f.count * 8)) left ∙ front)
          ∙ ap (λ (k : ℕ). same_bytes (words_of (read_rows (scan t))) (take k ws)) long
          ∙ sym (held_tests ∙ ap (λ (b : Bool). b && begins (words_of (read_rows (scan t))) ws) d)
