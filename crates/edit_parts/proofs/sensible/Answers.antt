-- Test by test.
use Rattle.std.proofs.Common.{◌+◌, arith, le-leb, eq-eqb, ne_eqb}
use borrow.Author.Tests.{lt-leb}
use Rattle.rules.specs.Edit.{new_length}
use Rattle.edit_parts.specs.Parts.{sensible_at}
use Rattle.edit_parts.proofs.Room.{leb_behind}
use Rattle.edit_parts.proofs.sensible.Goals as goal

pub returns-then-b-a : goal.returns-then-b-a
unfolding sensible_at
returns-then-b-a c = rw (lt-leb c.args.a c.args.b c.if-b-a.true)

pub returns-then-length-b : goal.returns-then-length-b
unfolding sensible_at
returns-then-length-b c = rw (le-leb c.args.a c.args.b c.if-b-a.false, lt-leb c.args.b c.args.length c.if-length-b.true)

pub returns-then-start-begin : goal.returns-then-start-begin
unfolding sensible_at
returns-then-start-begin c =
    let a = c.args in
    rw (le-leb a.a a.b c.if-b-a.false, le-leb a.b a.length c.if-length-b.false, ne_eqb a.start a.begin c.if-start-begin.true)

pub returns-then-from-most : goal.returns-then-from-most
unfolding sensible_at
returns-then-from-most c =
    let a = c.args in
    rw (
      le-leb a.a a.b c.if-b-a.false,
      le-leb a.b a.length c.if-length-b.false,
      eq-eqb a.start a.begin c.if-start-begin.false,
      ← c.new_length-most.ensures,
      ← c.from-from.ensures,
    )
    (leb_behind c.from-from.result a.size c.new_length-most.result c.if-from-most.true)

pub returns-else-from-most : goal.returns-else-from-most
unfolding sensible_at
returns-else-from-most c =
    let a = c.args in
    let e = c.new_length-most.ensures in
    let f = c.from-from.ensures in
    rw (
      le-leb a.a a.b c.if-b-a.false,
      le-leb a.b a.length c.if-length-b.false,
      eq-eqb a.start a.begin c.if-start-begin.false,
      lt-leb (a.start + a.size) (new_length a.length a.a a.b a.n) (omega (arith, c.if-from-most.false, e, f)),
      lt-leb c.from-from.result c.new_length-most.result c.if-from-most.false,
    )
