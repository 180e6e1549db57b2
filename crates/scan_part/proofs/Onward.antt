-- Part behind part: what a caller who has read some rows of a reading knows of it behind the next part.
use mathlib.Core.Path.{◌≡◌, sym, ap, ◌∙◌}
use mathlib.Core.List.{List, ◌++◌}
use Prim.Native.Nat.{ℕ, ◌≤◌}
use native.Mathlib.Omega.{arith}
use lib.ListN.{length-take}
use Rattle.rules.specs.Outcomes.{Ending}
use Rattle.rules.specs.Rows.{Row}
use Rattle.rules.specs.Scan.{Reading, read_rows, read_ending}
use Rattle.scan_reader.specs.declared.Spot.{Spot}
use Rattle.scan_part.specs.declared.Next.TheVariants.{On, Over}
use Rattle.scan_part.specs.declared.Part.{Part}
use Rattle.scan_part.specs.Part.{read_from, put_all, part_rows, PartOf}
use Rattle.scan_part.proofs.Readings.{put_rows, put_ending, put_append}

module _ {t : List ℕ} {k most : ℕ} {r : Part} (p : PartOf t k most r) where
  -- a part has no more rows than were asked for
  pub count_most : r.count ≤ most
  unfolding part_rows
  count_most = rw (p.counted, length-take) (omega arith)

  -- the rows `done` of a reading stand in front of the part
  module _ (done : List Row) {l : Reading} (e : l ≡ put_all done (read_from t k)) where
    -- and the part's behind them, in front of where it goes on
    pub on_more : {s : Spot} → r.next ≡ On s → l ≡ put_all (done ++ part_rows t k most) (read_from t s.at)
    on_more {s} f = e ∙ ap (put_all done) (p.on s f).1 ∙ sym (put_append done (part_rows t k most) (read_from t s.at))

    -- and the part's are the last
    pub over_rows : {x : Ending} → r.next ≡ Over x → read_rows l ≡ done ++ part_rows t k most
    over_rows {x} f = ap read_rows e ∙ put_rows done (read_from t k) ∙ ap (◌++◌ done) (p.over x f).0

    -- and its ending is the reading's
    pub over_ending : {x : Ending} → r.next ≡ Over x → read_ending l ≡ x
    over_ending {x} f = ap read_ending e ∙ put_ending done (read_from t k) ∙ (p.over x f).1
