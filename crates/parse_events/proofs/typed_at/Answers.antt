-- A type with a length, or with none.
use mathlib.Core.Path.{◌≡◌, refl, sym, ap, ◌∙◌, subst}
use mathlib.Core.List.{List}
use Prim.Native.Nat.{ℕ, ◌+◌}
use native.Mathlib.Omega.{arith}
use Rattle.rules.specs.Kinds.{LBracket, Semicolon}
use Rattle.rules.specs.Tree.{Tok, plain_field, array_field, type_number}
use Rattle.rules.specs.Parse.{kind_at}
use Rattle.theory_grammar.proofs.Cases.{array_yes, array_no, want_in_yes, want_in_no}
use Rattle.parse_nodes.specs.Post.{kind_word, Tells}
use Rattle.parse_nodes.proofs.Rows.{word_here}
use Rattle.parse_nodes.proofs.Seen.{seen}
use Rattle.parse_events.specs.Shapes.{Shows, plain, array}
use Rattle.parse_events.proofs.Nodes.{found_ok, found_err, found_as}
use Rattle.parse_events.proofs.typed_at.Goals as goal

-- what holds of the number of the kind that is told holds of the number x that was asked for
element : {ts : List Tok} {ws : List ℕ} {n : ℕ} (h : Tells ts ws n) (i kind x : ℕ) → kind ≡ kind_word ws n i → x ≡ type_number kind
    → (C : ℕ → Type 0) → C (type_number (kind_at ts i)) → C x
element {ts} {ws} {n} h i kind x e q C p =
    subst C (sym (q ∙ ap (λ (y : ℕ). type_number y) (seen ts ws n h i kind e))) p

pub length_at-requires : goal.length_at-requires
length_at-requires c =
    let a = c.args in
    let p = c.requires.at in
    let h = word_here a.rows.now a.count (a.row + 1) LBracket (sym c.kind_at.ensures ∙ c.in-33.is) refl in
    record { lent = p.lent; inside = omega arith; few = omega arith; short = p.short; nest = p.nest }

pub returns-in-33 : goal.returns-in-33
returns-in-33 c ts h w =
    let a = c.args in
    let k : ℕ = kind_at ts a.row in
    let next = seen ts a.rows.now a.count h (a.row + 1) _ c.kind_at.ensures in
    found_as _ _ _ (array_yes ts w a.row (sym next ∙ c.in-33.is))
    (c.length_at.ensures ts h (λ v. array_field w k v)
    (λ v. element h a.row a.kind _ c.requires.word c.type_number-element.ensures (λ (x : ℕ). Shows (array_field w k v) 3 x v) (array w k v)))

pub returns-in-32 : goal.returns-in-32
returns-in-32 c ts h w =
    let a = c.args in
    let k : ℕ = kind_at ts a.row in
    let next = seen ts a.rows.now a.count h (a.row + 1) _ c.kind_at.ensures in
    found_ok _ (plain_field w k) _ _ _ _
    (array_no ts w a.row (λ e. let z : ◌≡◌ {A = ℕ} 33 32 = cc (next, e, c.in-32.is) in absurd (omega arith))
    ∙ want_in_yes ts _ Semicolon _ (a.row + 1) (sym next ∙ c.in-32.is))
    (element h a.row a.kind _ c.requires.word c.type_number-element.ensures (λ (x : ℕ). Shows (plain_field w k) 1 x 0) (plain w k))

pub returns-in_default : goal.returns-in_default
returns-in_default c ts h w =
    let a = c.args in
    let next = seen ts a.rows.now a.count h (a.row + 1) _ c.kind_at.ensures in
    found_err _ _ _ _ _
    (array_no ts w a.row (λ e. absurd (omega (arith, next, e)))
    ∙ want_in_no ts _ Semicolon _ (a.row + 1) (λ e. absurd (omega (arith, next, e))))
    c.wrong.ensures c.new.ensures
