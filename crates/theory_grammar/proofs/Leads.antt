-- Rows by what they begin or join: what a kind is, where the parser goes by it.
use mathlib.Core.Path.{◌≡◌, refl}
use mathlib.Core.Bool.{Bool, true, false, cond, and-eq-true_iff}
use Prim.Native.Nat.{ℕ, ◌≤◌}
use native.Mathlib.Omega.{arith}
use lib.Dec.{eqb, leb}
use borrow.Author.Tests.{eqb-true, ne_eqb, leb-true}
use Rattle.rules.specs.Kinds.{KeywordUnit, KeywordSection, KeywordLicense, KeywordReturn, KeywordReg, KeywordImm, KeywordMap, KeywordType, KeywordKey, KeywordValue, KeywordMax, KeywordIf, KeywordHeap, KeywordEvent, LParen, Equals, PlusEquals, Plus, Minus, Star, Slash, Percent, Shr, Shl, Identifier, StringLiteral, Number, KeywordBytes, Eof}
use Rattle.rules.specs.Parse.{is_add, is_shift, is_mul, is_assign, is_declaring, is_text, is_type, is_typed, Lead, number, identifier, paren, other, lead, StmtLead, declaring, returning, branching, expression, stmt_lead, FieldLead, typing, keying, limiting, nothing, field_lead, EventLead, type_lead, bytes_lead, no_lead, event_lead, TopLead, map_lead, unit_lead, event_top, no_top, top_lead}
use Rattle.theory_grammar.proofs.Laws.{either_kind, three_kinds}
use Rattle.theory_grammar.proofs.Runs.{is_mark}

-- ---- kinds that join or begin say all of their row, and are not Eof

pub add_mark : (k : ℕ) → is_add k ≡ true → is_mark k ≡ true
add_mark k b = either_kind (λ x. is_mark x ≡ true) k Plus Minus b refl refl

pub shift_mark : (k : ℕ) → is_shift k ≡ true → is_mark k ≡ true
shift_mark k b = either_kind (λ x. is_mark x ≡ true) k Shl Shr b refl refl

pub mul_mark : (k : ℕ) → is_mul k ≡ true → is_mark k ≡ true
mul_mark k b = three_kinds (λ x. is_mark x ≡ true) k Star Slash Percent b refl refl refl

pub assign_mark : (k : ℕ) → is_assign k ≡ true → is_mark k ≡ true
assign_mark k b = either_kind (λ x. is_mark x ≡ true) k Equals PlusEquals b refl refl

pub declaring_mark : (k : ℕ) → is_declaring k ≡ true → is_mark k ≡ true
declaring_mark k b = three_kinds (λ x. is_mark x ≡ true) k KeywordReg KeywordImm KeywordHeap b refl refl refl

pub text_mark : (k : ℕ) → is_text k ≡ true → is_mark k ≡ true
text_mark k b = either_kind (λ x. is_mark x ≡ true) k KeywordSection KeywordLicense b refl refl

pub typed_mark : (k : ℕ) → is_typed k ≡ true → is_mark k ≡ true
typed_mark k b = either_kind (λ x. is_mark x ≡ true) k KeywordKey KeywordValue b refl refl

pub type_mark : (k : ℕ) → is_type k ≡ true → is_mark k ≡ true
type_mark k b =
    let h : (leb 21 k ≡ true) × (leb k 24 ≡ true) = (and-eq-true_iff (leb 21 k) (leb k 24)).0 b in
    let l : k ≤ 24 = leb-true k 24 h.1 in
    rw (ne_eqb k Identifier (λ e. omega arith), ne_eqb k StringLiteral (λ e. omega arith), ne_eqb k Number (λ e. omega arith), ne_eqb k Eof (λ e. omega arith))

-- ---- what a lead says of the kind

abbrev pub LeadIs : ℕ → Lead → Type 0
LeadIs k number = k ≡ Number
LeadIs k identifier = k ≡ Identifier
LeadIs k paren = k ≡ LParen
LeadIs k other = Unit {0}

pub lead_is : (k : ℕ) → LeadIs k (lead k)
unfolding lead
lead_is k = go (eqb k Number) (eqb k LParen) (eqb k Identifier) refl refl refl
  where
    go : (a b c : Bool) → eqb k Number ≡ a → eqb k LParen ≡ b → eqb k Identifier ≡ c → LeadIs k (cond a number (cond b paren (cond c identifier other)))
    go true b c p q r = eqb-true k Number p
    go false true c p q r = eqb-true k LParen q
    go false false true p q r = eqb-true k Identifier r
    go false false false p q r = tt

abbrev pub StmtIs : ℕ → StmtLead → Type 0
StmtIs k declaring = is_declaring k ≡ true
StmtIs k returning = k ≡ KeywordReturn
StmtIs k branching = k ≡ KeywordIf
StmtIs k expression = Unit {0}

pub stmt_is : (k : ℕ) → StmtIs k (stmt_lead k)
unfolding stmt_lead
stmt_is k = go (is_declaring k) (eqb k KeywordReturn) (eqb k KeywordIf) refl refl refl
  where
    go : (a b c : Bool) → is_declaring k ≡ a → eqb k KeywordReturn ≡ b → eqb k KeywordIf ≡ c
        → StmtIs k (cond a declaring (cond b returning (cond c branching expression)))
    go true b c p q r = p
    go false true c p q r = eqb-true k KeywordReturn q
    go false false true p q r = eqb-true k KeywordIf r
    go false false false p q r = tt

abbrev pub FieldIs : ℕ → FieldLead → Type 0
FieldIs k typing = k ≡ KeywordType
FieldIs k keying = is_typed k ≡ true
FieldIs k limiting = k ≡ KeywordMax
FieldIs k nothing = Unit {0}

pub field_is : (k : ℕ) → FieldIs k (field_lead k)
unfolding field_lead
field_is k = go (eqb k KeywordType) (is_typed k) (eqb k KeywordMax) refl refl refl
  where
    go : (a b c : Bool) → eqb k KeywordType ≡ a → is_typed k ≡ b → eqb k KeywordMax ≡ c
        → FieldIs k (cond a typing (cond b keying (cond c limiting nothing)))
    go true b c p q r = eqb-true k KeywordType p
    go false true c p q r = q
    go false false true p q r = eqb-true k KeywordMax r
    go false false false p q r = tt

abbrev pub EventIs : ℕ → EventLead → Type 0
EventIs k type_lead = is_type k ≡ true
EventIs k bytes_lead = k ≡ KeywordBytes
EventIs k no_lead = Unit {0}

pub event_is : (k : ℕ) → EventIs k (event_lead k)
unfolding event_lead
event_is k = go (is_type k) (eqb k KeywordBytes) refl refl
  where
    go : (a b : Bool) → is_type k ≡ a → eqb k KeywordBytes ≡ b → EventIs k (cond a type_lead (cond b bytes_lead no_lead))
    go true b p q = p
    go false true p q = eqb-true k KeywordBytes q
    go false false p q = tt

abbrev pub TopIs : ℕ → TopLead → Type 0
TopIs k map_lead = k ≡ KeywordMap
TopIs k unit_lead = k ≡ KeywordUnit
TopIs k event_top = k ≡ KeywordEvent
TopIs k no_top = Unit {0}

pub top_is : (k : ℕ) → TopIs k (top_lead k)
unfolding top_lead
top_is k = go (eqb k KeywordMap) (eqb k KeywordUnit) (eqb k KeywordEvent) refl refl refl
  where
    go : (a b c : Bool) → eqb k KeywordMap ≡ a → eqb k KeywordUnit ≡ b → eqb k KeywordEvent ≡ c
        → TopIs k (cond a map_lead (cond b unit_lead (cond c event_top no_top)))
    go true b c p q r = eqb-true k KeywordMap p
    go false true c p q r = eqb-true k KeywordUnit q
    go false false true p q r = eqb-true k KeywordEvent r
    go false false false p q r = tt
