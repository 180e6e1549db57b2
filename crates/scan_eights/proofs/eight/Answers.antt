-- The bytes are the digits of the number.
use Rattle.std.proofs.Common.{◌≡◌, take, drop, arith}
use lib.Seq.{take_all}
use Rattle.scan_eights.specs.Eights.{number_of}
use Rattle.scan_eights.proofs.Numbers.{eight_is}
use Rattle.scan_eights.proofs.eight.Goals as goal

pub returns : goal.returns
returns c =
    let s = c.args.bytes.now in
    let e : number_of (take 8 (drop 0 s)) ≡ number_of s = rw (take_all 8 s (omega arith)) in
    omega (
      arith,
      eight_is s 0 (omega arith),
      e,
      c.from.ensures,
      c.from-2.ensures,
      c.from-3.ensures,
      c.from-4.ensures,
      c.from-5.ensures,
      c.from-6.ensures,
      c.from-7.ensures,
      c.from-8.ensures,
    )
