-- The cursor stands behind the bytes that were passed, with room for those that are left.
use Rattle.std.proofs.Common.{◌≡◌, ◌≤◌, ◌-◌, take}
use Rattle.rules.specs.Text.{over, Roomy}
use Rattle.scan_place.proofs.pass.Given as goal

abbrev pub invariant-loop-b : goal.invariant-loop-b
invariant-loop-b l = record {
  within : l.b-index ≤ l.n;
  roomy : Roomy (l.n - l.b-index) l.here;
  passed : l.here ≡ over l.fn.from (take l.b-index l.text);
}
