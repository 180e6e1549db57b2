-- `guard`, `(`, a name, `)` and `{` behind `if`.
use Rattle.std.proofs.Common.{◌≡◌, ◌+◌, ℕ, List, sym, ap, refl, ◌∙◌, arith}
use Rattle.std.proofs.lemmas.Result.{err_from_is_err_and}
use Rattle.rules.specs.Parse
use Rattle.parse_nodes.proofs.Rows.{tells_kind, word_here}
use Rattle.rules.specs.Kinds.{KeywordGuard, LParen, RParen, LBrace, Identifier}
use Rattle.rules.specs.Parse.{Out, P, then, branching, tok_at}
use Rattle.rules.specs.Tree.{Tok, spelling_of}
use Rattle.theory_grammar.proofs.Cases.{need_yes, need_no, branching_is, bodies_is, then_no}
use Rattle.parse_nodes.specs.Post.{kind_word, Tells}
use Rattle.parse_nodes.proofs.Seen.{want_met, want_unmet, named_met, named_unmet}
use Rattle.parse_stmt.specs.Bodies.{else_at}
use Rattle.parse_stmt.proofs.head.Goals as goal

-- the parser's answer behind each of the rows, with d constructs left and p for bodies
module _ (ts : List Tok) (ws : List ℕ) (n : ℕ) (tl : Tells ts ws n) (i d : ℕ) (p : P) where
  abbrev rest : P
  rest = Parse.named ts (λ w. Parse.want ts RParen (Parse.bodies ts d p w))

  abbrev name : List ℕ
  name = spelling_of (tok_at ts (i + 1 + 1 + 1))

  module _ (g : kind_word ws n (i + 1) ≡ KeywordGuard) where
    guard_read : Parse.stmt_by ts d p branching i ≡ Parse.want ts LParen rest (i + 1 + 1)
    guard_read = branching_is ts d p i ∙ want_met ts ws n tl (i + 1) _ refl KeywordGuard _ g

    module _ (o : kind_word ws n (i + 1 + 1) ≡ LParen) where
      open_read : Parse.stmt_by ts d p branching i ≡ rest (i + 1 + 1 + 1)
      open_read = guard_read ∙ want_met ts ws n tl (i + 1 + 1) _ refl LParen rest o

      module _ (w : kind_word ws n (i + 1 + 1 + 1) ≡ Identifier) where
        name_read : Parse.stmt_by ts d p branching i ≡ Parse.want ts RParen (Parse.bodies ts d p name) (i + 1 + 1 + 1 + 1)
        name_read = open_read ∙ named_met ts ws n tl (i + 1 + 1 + 1) _ refl _ w

        close_read : kind_word ws n (i + 1 + 1 + 1 + 1) ≡ RParen
            → Parse.stmt_by ts d p branching i ≡ Parse.bodies ts d p name (i + 1 + 1 + 1 + 1 + 1)
        close_read c = name_read ∙ want_met ts ws n tl (i + 1 + 1 + 1 + 1) _ refl RParen _ c

pub returns-in_err-want : goal.returns-in_err-want
returns-in_err-want c =
    let a = c.args in
    let w = c.in_err-want.ensures.err in
    let q = err_from_is_err_and c.from_residual.result c.from_residual.ensures.1 in
    rw (q.1, q.2, w.1) (λ ts tl d p. branching_is ts d p a.row ∙ want_unmet ts _ _ tl (a.row + 1) _ refl KeywordGuard _ w.0)

pub returns-in_err-want-2 : goal.returns-in_err-want-2
returns-in_err-want-2 c =
    let a = c.args in
    let w = c.in_err-want-2.ensures.err in
    let q = err_from_is_err_and c.from_residual-in_err-want-2.result c.from_residual-in_err-want-2.ensures.1 in
    rw (q.1, q.2, w.1) (λ ts tl d p. guard_read ts _ _ tl a.row d p c.in_ok-want.ensures.ok ∙ want_unmet ts _ _ tl (a.row + 1 + 1) _ refl LParen _ w.0)

pub returns-in_err-want-3 : goal.returns-in_err-want-3
returns-in_err-want-3 c =
    let a = c.args in
    let w = c.in_err-want-3.ensures.err in
    let q = err_from_is_err_and c.from_residual-in_err-want-3.result c.from_residual-in_err-want-3.ensures.1 in
    rw (q.1, q.2, w.1) (λ ts tl d p. open_read ts _ _ tl a.row d p c.in_ok-want.ensures.ok c.in_ok-want-2.ensures.ok
    ∙ named_unmet ts _ _ tl (a.row + 1 + 1 + 1) _ refl _ w.0)

pub returns-in_err-want-4 : goal.returns-in_err-want-4
returns-in_err-want-4 c =
    let a = c.args in
    let w = c.in_err-want-4.ensures.err in
    let q = err_from_is_err_and c.from_residual-in_err-want-4.result c.from_residual-in_err-want-4.ensures.1 in
    rw (q.1, q.2, w.1) (λ ts tl d p. name_read ts _ _ tl a.row d p c.in_ok-want.ensures.ok c.in_ok-want-2.ensures.ok c.in_ok-want-3.ensures.ok
    ∙ want_unmet ts _ _ tl (a.row + 1 + 1 + 1 + 1) _ refl RParen _ w.0)

pub returns-in_err-want-5 : goal.returns-in_err-want-5
returns-in_err-want-5 c =
    let a = c.args in
    let w = c.in_err-want-5.ensures.err in
    let o : ℕ = a.row + 1 + 1 + 1 + 1 + 1 in
    let q = err_from_is_err_and c.from_residual-in_err-want-5.result c.from_residual-in_err-want-5.ensures.1 in
    rw (q.1, q.2, w.1) (λ ts tl d p.
    close_read ts _ _ tl a.row d p c.in_ok-want.ensures.ok c.in_ok-want-2.ensures.ok c.in_ok-want-3.ensures.ok c.in_ok-want-4.ensures.ok
    ∙ bodies_is ts d p _ o ∙ then_no _ _ _ _ (need_no ts LBrace p o (λ f. w.0 (tells_kind ts _ _ tl o ∙ f))))

pub returns : goal.returns
returns c =
    let a = c.args in
    let o : ℕ = a.row + 1 + 1 + 1 + 1 + 1 in
    let three : a.row + 1 + 1 + 1 ≡ a.row + 3 = omega arith in
    let four : a.row + 4 ≡ a.row + 1 + 1 + 1 + 1 = omega arith in (
      omega arith,
      word_here a.rows.now a.count o LBrace c.in_ok-want-5.ensures.ok refl,
      ap (kind_word a.rows.now a.count) four ∙ c.in_ok-want-4.ensures.ok,
      λ ts tl d p.
          close_read ts _ _ tl a.row d p c.in_ok-want.ensures.ok c.in_ok-want-2.ensures.ok c.in_ok-want-3.ensures.ok c.in_ok-want-4.ensures.ok
          ∙ bodies_is ts d p _ o
          ∙ ap (λ (x : Out). then x (λ l j. else_at ts d p (spelling_of (tok_at ts (a.row + 1 + 1 + 1))) l j))
          (need_yes ts LBrace p o (sym (tells_kind ts _ _ tl o) ∙ c.in_ok-want-5.ensures.ok))
          ∙ ap (λ (x : ℕ). then (p o) (λ l j. else_at ts d p (spelling_of (tok_at ts x)) l j)) three,
    )
