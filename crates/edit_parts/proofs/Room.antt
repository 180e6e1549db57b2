-- What fits behind something.
use mathlib.Core.Path.{◌≡◌}
use Prim.Native.Nat.{ℕ, ◌+◌, ◌-◌, ◌≤◌}
use native.Mathlib.Decide.{dec_le}
use native.Mathlib.Omega.{arith}
use lib.Dec.{leb}
use borrow.Author.Tests.{le-leb, lt-leb}

-- x more behind s, within m
pub leb_behind : (s x m : ℕ) → s ≤ m → leb x (m - s) ≡ leb (s + x) m
leb_behind s x m h = pick (dec_le (s + x) m)
  where
    pick : Dec (s + x ≤ m) → leb x (m - s) ≡ leb (s + x) m
    pick (yes p) = rw (le-leb (s + x) m p, le-leb x (m - s) (omega arith))
    pick (no p) = rw (lt-leb (s + x) m (omega arith), lt-leb x (m - s) (omega arith))
