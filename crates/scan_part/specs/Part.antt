-- The rows of a text, so many at a time: where a part begins, its rows, and what comes behind them.
use Rattle.std.specs.Prelude.{◌≡◌, List, [], ◌∷◌, ℕ, ◌≤◌, ◌<◌, length, take, drop}
use Rattle.rules.specs.Outcomes.{Ending}
use Rattle.rules.specs.Text.{most_bytes, place_at}
use Rattle.rules.specs.Rows.{Row}
use Rattle.rules.specs.Scan.{Reading, put, read, read_rows, read_ending}
use Rattle.scan_reader.specs.declared.Spot.{Spot}
use Rattle.scan_part.specs.declared.Next.TheVariants.{On, Over}
use Rattle.scan_part.specs.declared.Part.{Part}

-- the reading of a text from an offset on, in front of which nothing is open
unfoldable pub read_from : List ℕ → ℕ → Reading
read_from t k = read (place_at t) 0 0 k (drop k t)

-- rows put in front of a reading
unfoldable pub put_all : List Row → Reading → Reading
put_all [] l = l
put_all (r ∷ rs) l = put r (put_all rs l)

-- so many rows of a text from an offset on, or as many as there are
unfoldable pub part_rows : List ℕ → (k most : ℕ) → List Row
part_rows t k most = take most (read_rows (read_from t k))

-- a reading can begin at a spot: it lies in the text, which is not too long, and has its place
pub record Begun (t : List ℕ) (s : Spot) : Type 0 where
  pub inside : s.at ≤ length t
  pub cursor : s.cursor ≡ place_at t s.at
  pub few : length t ≤ most_bytes

-- what is told of a part: how many rows it has; a spot from which the reading goes on has all that were asked for in front of it;
-- an ending is that of the text, and no row is left
pub record PartOf (t : List ℕ) (k most : ℕ) (r : Part) : Type 0 where
  pub counted : r.count ≡ length (part_rows t k most)
  pub on : (s : Spot) → r.next ≡ On s →
      ((Begun t s × (k < s.at)) × (r.count ≡ most)) × (read_from t k ≡ put_all (part_rows t k most) (read_from t s.at))
  pub over : (e : Ending) → r.next ≡ Over e → (read_rows (read_from t k) ≡ part_rows t k most) × (read_ending (read_from t k) ≡ e)
