-- Rows that begin nothing: what each function of the parser answers at a row of a kind that begins none of its things.
use mathlib.Core.Path.{◌≡◌, ◌∙◌}
use mathlib.Core.Bool.{Bool, false, ◌||◌}
use mathlib.Core.List.{List}
use Prim.Native.Nat.{ℕ, suc, ◌+◌}
use lib.Dec.{eqb}
use borrow.Author.Tests.{eqb-false}
use Rattle.laws.proofs.Tests.{neither}
use Rattle.rules.specs.declared.Syntax.TheVariants.{NotMapField, NotTopLevel}
use Rattle.rules.specs.Kinds.{KeywordUnit, KeywordReturn, KeywordMap, KeywordType, KeywordMax, KeywordIf, KeywordEvent, LParen, Star, Identifier, Number}
use Rattle.rules.specs.Fits.{only, operands, wrong}
use Rattle.rules.specs.Tree.{Tok}
use Rattle.rules.specs.Parse
use Rattle.rules.specs.Parse.{no, P, is_declaring, is_text, is_typed, Sort, whole, kind_at}
use Rattle.theory_grammar.proofs.Cases
use Rattle.theory_grammar.proofs.Complete.{is_basic, is_start}

-- ---- what begins a thing

-- a statement
abbrev pub is_stmt : ℕ → Bool
is_stmt k = ((is_declaring k || eqb k KeywordReturn) || eqb k KeywordIf) || is_start k

-- what a unit holds
abbrev pub is_item : ℕ → Bool
is_item k = is_text k || is_stmt k

-- a field of a map
abbrev pub is_field : ℕ → Bool
is_field k = (eqb k KeywordType || is_typed k) || eqb k KeywordMax

-- a declaration
abbrev pub is_top : ℕ → Bool
is_top k = (eqb k KeywordMap || eqb k KeywordUnit) || eqb k KeywordEvent

no_start : (k : ℕ) → is_start k ≡ false → (is_basic k ≡ false) × (eqb k Star ≡ false)
no_start k b = neither (is_basic k) (eqb k Star) b

no_basic : (k : ℕ) → is_basic k ≡ false → (eqb k Number ≡ false) × (eqb k Identifier ≡ false) × (eqb k LParen ≡ false)
no_basic k b =
    let x : (eqb k Number || eqb k Identifier ≡ false) × (eqb k LParen ≡ false) =
    neither (eqb k Number || eqb k Identifier) (eqb k LParen) b in
    let y : (eqb k Number ≡ false) × (eqb k Identifier ≡ false) = neither (eqb k Number) (eqb k Identifier) x.0 in
    (y.0, y.1, x.1)

module _ (ts : List Tok) where
  -- ---- expressions

  module _ (g : Sort → P) (i : ℕ) where
    atom_unread : is_basic (kind_at ts i) ≡ false → Parse.atom ts g i ≡ no (wrong operands) i
    atom_unread b =
        let x : (eqb (kind_at ts i) Number ≡ false) × (eqb (kind_at ts i) Identifier ≡ false) × (eqb (kind_at ts i) LParen ≡ false) =
        no_basic (kind_at ts i) b in
        Cases.atom_else ts g i (eqb-false (kind_at ts i) Number x.0) (eqb-false (kind_at ts i) LParen x.2)
        (eqb-false (kind_at ts i) Identifier x.1)

    pub unary_unread : is_start (kind_at ts i) ≡ false → Parse.unary ts g i ≡ no (wrong operands) i
    unfolding Parse.prim
    unary_unread b =
        let x : (is_basic (kind_at ts i) ≡ false) × (eqb (kind_at ts i) Star ≡ false) = no_start (kind_at ts i) b in
        Cases.unary_else ts g i (eqb-false (kind_at ts i) Star x.1) ∙ Cases.then_no (Parse.atom ts g i) _ (wrong operands) i
        (atom_unread x.0)

    pub mul_unread : is_start (kind_at ts i) ≡ false → Parse.mul ts g i ≡ no (wrong operands) i
    unfolding Parse.mul
    mul_unread b = Cases.then_no (Parse.unary ts g i) _ (wrong operands) i (unary_unread b)

    shift_unread : is_start (kind_at ts i) ≡ false → Parse.shift ts g i ≡ no (wrong operands) i
    unfolding Parse.shift
    shift_unread b = Cases.then_no (Parse.mul ts g i) _ (wrong operands) i (mul_unread b)

    pub add_unread : is_start (kind_at ts i) ≡ false → Parse.add ts g i ≡ no (wrong operands) i
    unfolding Parse.add
    add_unread b = Cases.then_no (Parse.shift ts g i) _ (wrong operands) i (shift_unread b)

  -- behind an opening row
  pub whole_unread : (d o : ℕ) → is_start (kind_at ts (o + 1)) ≡ false → Parse.inner ts (suc d) whole o ≡ no (wrong operands) (o + 1)
  unfolding Parse.inner
  whole_unread d o b = add_unread (Parse.inner ts d) (o + 1) b

  expr_unread : (d i : ℕ) → is_start (kind_at ts i) ≡ false → Parse.expr ts d i ≡ no (wrong operands) i
  unfolding Parse.expr
  expr_unread d i b = add_unread (Parse.inner ts d) i b

  -- ---- statements and what a unit holds

  pub stmt_unread : (d : ℕ) (p : P) (i : ℕ) → is_stmt (kind_at ts i) ≡ false → Parse.stmt ts d p i ≡ no (wrong operands) i
  stmt_unread d p i b =
      let k : ℕ = kind_at ts i in
      let x : ((is_declaring k || eqb k KeywordReturn) || eqb k KeywordIf ≡ false) × (is_start k ≡ false) = neither _ (is_start k) b in
      let y : (is_declaring k || eqb k KeywordReturn ≡ false) × (eqb k KeywordIf ≡ false) = neither _ (eqb k KeywordIf) x.0 in
      let z : (is_declaring k ≡ false) × (eqb k KeywordReturn ≡ false) = neither (is_declaring k) (eqb k KeywordReturn) y.0 in
      Cases.stmt_expression ts d p i z.0 (eqb-false k KeywordReturn z.1) (eqb-false k KeywordIf y.1)
      ∙ Cases.then_no (Parse.expr ts d i) _ (wrong operands) i (expr_unread d i x.1)

  pub item_unread : (i : ℕ) → is_item (kind_at ts i) ≡ false → Parse.item ts i ≡ no (wrong operands) i
  item_unread i b =
      let x : (is_text (kind_at ts i) ≡ false) × (is_stmt (kind_at ts i) ≡ false) = neither (is_text (kind_at ts i)) (is_stmt (kind_at ts i)) b in
      Cases.item_stmt ts i x.0 ∙ stmt_unread 64 (Parse.body ts 64) i x.1

  -- ---- fields and declarations

  pub event_field_unread : (i : ℕ) → eqb (kind_at ts i) Identifier ≡ false → Parse.event_field ts i ≡ no (wrong (only Identifier)) i
  unfolding Parse.event_field
  event_field_unread i b = Cases.named_no ts _ i (eqb-false (kind_at ts i) Identifier b)

  pub map_field_unread : (i : ℕ) → is_field (kind_at ts i) ≡ false → Parse.map_field ts i ≡ no NotMapField i
  map_field_unread i b =
      let k : ℕ = kind_at ts i in
      let x : (eqb k KeywordType || is_typed k ≡ false) × (eqb k KeywordMax ≡ false) = neither _ (eqb k KeywordMax) b in
      let y : (eqb k KeywordType ≡ false) × (is_typed k ≡ false) = neither (eqb k KeywordType) (is_typed k) x.0 in
      Cases.field_nothing ts i (eqb-false k KeywordType y.0) y.1 (eqb-false k KeywordMax x.1)

  pub top_unread : (i : ℕ) → is_top (kind_at ts i) ≡ false → Parse.top ts i ≡ no NotTopLevel i
  top_unread i b =
      let k : ℕ = kind_at ts i in
      let x : (eqb k KeywordMap || eqb k KeywordUnit ≡ false) × (eqb k KeywordEvent ≡ false) = neither _ (eqb k KeywordEvent) b in
      let y : (eqb k KeywordMap ≡ false) × (eqb k KeywordUnit ≡ false) = neither (eqb k KeywordMap) (eqb k KeywordUnit) x.0 in
      Cases.top_other ts i (eqb-false k KeywordMap y.0) (eqb-false k KeywordUnit y.1) (eqb-false k KeywordEvent x.1)
