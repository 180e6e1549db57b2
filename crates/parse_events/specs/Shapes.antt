-- What an event's fields say: the facts of a field's node, and the answers of the functions that find them.
use Rattle.std.specs.Prelude.{◌≡◌, true, List, ℕ, ◌+◌, ◌<◌, eqb, Result, Ok}
use Rattle.rules.specs.Kinds.{RBrace, LBracket}
use Rattle.rules.specs.Fits.{event_fields}
use Rattle.rules.specs.Tree.{Tok, Tree, plain_field, bytes_field, array_field, event, type_number}
use Rattle.rules.specs.Nodes.{FormPlain, FormBytes, FormArray}
use Rattle.rules.specs.Parse
use Rattle.rules.specs.Parse.{Out, ok, no, then, kind_at, is_type}
use Rattle.parse_nodes.specs.Post.{kind_word, state_at, refused_at, Tells, Asks, AsksOpen, Met}
use Rattle.parse_nodes.specs.declared.At.{At}
use Rattle.parse_nodes.specs.declared.Refusal.{Refusal}
use Rattle.parse_events.specs.declared.Shape.{Shape}

-- The form, the element's type and the length of a field.
pub data Shows : Tree → (form element length : ℕ) → Type 0 where
  plain : (w : List ℕ) (k : ℕ) → Shows (plain_field w k) FormPlain (type_number k) 0
  bytes : (w : List ℕ) (v : ℕ) → Shows (bytes_field w v) FormBytes 0 v
  array : (w : List ℕ) (k v : ℕ) → Shows (array_field w k v) FormArray (type_number k) v

-- What was found is what the parser finds.
abbrev pub Found : Out → Result Shape Refusal → Type 0
Found (ok t j) r = (a : ℕ) × (b : ℕ) × (v : ℕ) × Shows t a b v × (r ≡ Ok (record { row = j; form = a; element = b; length = v }))
Found (no why p) r = r ≡ refused_at why p

-- a length and its end at row i, of fields of a form and an element
abbrev pub LengthFound : List ℕ → ℕ → ℕ → ℕ → ℕ → Result Shape Refusal → Type 0
LengthFound ws n i form element r =
    (ts : List Tok) → Tells ts ws n → (f : ℕ → Tree) → ((v : ℕ) → Shows (f v) form element v) → Found (Parse.length_at ts f i) r

-- a field whose type is at row i
abbrev pub TypeFound : List ℕ → ℕ → ℕ → Result Shape Refusal → Type 0
TypeFound ws n i r = (ts : List Tok) → Tells ts ws n → (w : List ℕ) → Found (Parse.array_by ts (eqb (kind_at ts (i + 1)) LBracket) w i) r

-- what stands behind a field's colon, at row i
abbrev pub ShapeFound : List ℕ → ℕ → ℕ → Result Shape Refusal → Type 0
ShapeFound ws n i r = (ts : List Tok) → Tells ts ws n → (w : List ℕ) → Found (Parse.event_type_by ts (Parse.event_lead (kind_at ts i)) w i) r

-- row i, of the kind k, is a type
pub record AsksType (ws : List ℕ) (n i k : ℕ) : Type 0 where
  pub at : Asks ws n i 0 0
  pub word : k ≡ kind_word ws n i
  pub type : is_type k ≡ true

-- the fields and the end of the event whose word is at row i
abbrev pub fields_of : List Tok → List ℕ → ℕ → Out
fields_of ts w i = then (Parse.list_to ts RBrace event_fields (Parse.event_field ts) (i + 1 + 1 + 1)) (λ l k. ok (event w l) (k + 1))

-- what is asked at the first field's row
pub record AsksFields (ws : List ℕ) (n i : ℕ) (s : At) : Type 0 where
  pub at : AsksOpen ws n i s.node 0
  pub inside : i + 1 + 1 < n
  pub first : s ≡ state_at (i + 1 + 1 + 1) s.node (i + 1 + 1 + 1)

-- what the event is, whatever its name
abbrev pub FieldsMet : List ℕ → ℕ → ℕ → ℕ → List ℕ → List ℕ → Result At Refusal → Type 0
FieldsMet ws n i nd m m' r = (ts : List Tok) → Tells ts ws n → (w : List ℕ) → Met (fields_of ts w i) i nd m m' r
