-- `is_parse` meets its contract: a parse into room for every text, and what it leaves held against what is lent.
use mathlib.Core.Path.{sym, ◌∙◌}
use Rattle.layout_judge.proofs.Read.{parse_refused, other_count, nodes_inside, same_nodes}
use borrow.Author.Rules.{rules}
use Rattle.layout_judge.proofs.is_parse.Statement.{statement}
use Rattle.layout_judge.proofs.is_parse.Tie as tie

-- src/lib.rt:101:31
parse_requires : tie.Need-parse-requires
parse_requires c κs = search rules

-- src/lib.rt:101:23
enum_known_made : tie.Need-enum_known-made
enum_known_made c = search rules

-- src/lib.rt:102:9
enum_told : tie.Need-enum_told-1
enum_told c = search rules

-- src/lib.rt:102:9
returns : tie.Need-returns-in_default
returns c =
    let k = c.before in
    let a = k.before.before.before.before.before.args in (
      parse_refused a.text.now a.rows.now a.table a.nodes.now a.count a.scratch.now k.before.parse-arg-1.given.0.1
          (sym k.parse.ensures.0 ∙ c.in_default.is),
      k.parse.ensures.1,
    )

-- src/lib.rt:105:9
returns_2 : tie.Need-returns-then-made-count
returns_2 c =
    let q = c.before in
    let k = q.before in
    let a = k.before.before.before.before.before.args in (
      other_count a.text.now a.rows.now a.table a.nodes.now a.count a.scratch.now k.before.parse-arg-1.given.0.1
          q.in-Ok.made (sym k.parse.ensures.0 ∙ q.in-Ok.is) c.if-made-count.true,
      k.parse.ensures.1,
    )

-- src/lib.rt:107:34
cast_begins_with : tie.Need-overflow_cast-made
cast_begins_with c = search rules

-- src/lib.rt:107:33
mul_begins_with : tie.Need-overflow_mul-made
mul_begins_with c = search rules

-- src/lib.rt:107:5
begins_with_requires : tie.Need-begins_with-requires
begins_with_requires c κs =
    let q = c.before.before.before in
    let k = q.before in
    let a = k.before.before.before.before.before.args in
    nodes_inside a.text.now a.rows.now a.table a.nodes.now a.count a.scratch.now k.before.parse-arg-1.given.0.1
    q.in-Ok.made (sym k.parse.ensures.0 ∙ q.in-Ok.is) _ k.parse.ensures.1

-- src/lib.rt:90:1
returns_3 : tie.Need-returns
returns_3 c =
    let l = c.before.before.before in
    let q = l.before in
    let k = q.before in
    let a = k.before.before.before.before.before.args in (
      same_nodes a.text.now a.rows.now a.table a.nodes.now a.count a.scratch.now k.before.parse-arg-1.given.0.1
          q.in-Ok.made (sym k.parse.ensures.0 ∙ q.in-Ok.is) _ k.parse.ensures.1
          l.if-made-count.false c.begins_with.ensures,
      k.parse.ensures.1,
    )

pub is_parse_spec : {M : Type 1} → statement M
is_parse_spec =
    tie.close
    (tie.spec
    parse_requires
    enum_known_made
    enum_told
    returns
    returns_2
    cast_begins_with
    mul_begins_with
    begins_with_requires
    returns_3)
