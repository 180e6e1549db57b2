-- A section or a licence, from its string and its `;`.
use Rattle.std.proofs.Common.{◌≡◌, ◌+◌, ◌<◌, false, eqb, refl}
use Rattle.rules.specs.Kinds.{KeywordSection, KeywordLicense, StringLiteral, Eof}
use Rattle.theory_grammar.proofs.Laws.{either_kind}
use Rattle.parse_pass_expr.specs.Seen.{kind_in}
use Rattle.parse_pass_units.proofs.Parts.{past, texts}
use Rattle.parse_pass_units.proofs.text.Goals as goal

pub returns : goal.returns
returns c =
    let p = c.requires.0 in
    let k = kind_in c.args.rows.now c.args.row in
    let s = c.in_ok-end.ensures in
    let lead = either_kind (λ x. eqb x Eof ≡ false) k KeywordSection KeywordLicense c.requires.1 refl refl in
    let string : c.args.row + 1 < c.args.count = past p c.args.row k p.inside refl refl lead in
    texts _ _ p.closed 64 c.args.row c.in_ok-end.end _ s.1 (past p (c.args.row + 1) StringLiteral string s.0 s.1 refl)
    c.requires.1 s.0 c.behind-2.ensures
