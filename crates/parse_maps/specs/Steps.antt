-- What a map's fields give: the answers of the functions that read them, and what these ask.
use Rattle.std.specs.Prelude.{◌≡◌, cond, List, ℕ, ◌+◌, ◌-◌, ◌*◌, ◌^◌, eqb, get_or, Option, Some, None, Result, Ok}
use Rattle.std.specs.Option.{unwrap_or}
use Rattle.std.proofs.lemmas.List.Edits.{sets}
use Rattle.rules.specs.Rows.{at_high, at_low, words_per_row}
use Rattle.rules.specs.Kinds.{KeywordKey, KeywordValue, RBrace}
use Rattle.rules.specs.Fits.{map_fields}
use Rattle.rules.specs.Tree.{Tok, Tree, max_bits, type_of, typed_by, limit_of, lacking}
use Rattle.rules.specs.Nodes.{NodeMap, fact_node, node_words}
use Rattle.rules.specs.Parse
use Rattle.rules.specs.Parse.{Out, ok, no}
use Rattle.parse_nodes.specs.Post.{kind_word, refused_at, Tells, Asks, Met}
use Rattle.parse_nodes.specs.Names.{Names}
use Rattle.parse_nodes.specs.declared.At.{At}
use Rattle.parse_nodes.specs.declared.Refusal.{Refusal}
use Rattle.parse_maps.specs.declared.Facts.{Facts}
use Rattle.parse_maps.specs.declared.Sum.{Sum}

-- ---- rows

-- the value's bits of row i
abbrev pub bits_at : List ℕ → ℕ → ℕ
bits_at ws i = get_or ws (i * words_per_row + at_high) 0 * 2 ^ 32 + get_or ws (i * words_per_row + at_low) 0

-- row i is of the kind k
pub record AsksRow (ws : List ℕ) (n i k : ℕ) : Type 0 where
  pub at : Asks ws n i 0 0
  pub word : k ≡ kind_word ws n i

-- ---- answers

-- what a function answers that is to read what o reads: a value of the tree and of the row behind it, or the refusal
abbrev pub Answer : {X : Type 0} → (Tree → ℕ → X) → Out → Result X Refusal → Type 0
Answer value (ok t j) r = r ≡ Ok (value t j)
Answer value (no why p) r = r ≡ refused_at why p

-- ---- max

abbrev pub sum_of : Tree → ℕ → Sum
sum_of c j = record { row = j; bits = max_bits c }

abbrev pub Adds : Out → Result Sum Refusal → Type 0
Adds = Answer sum_of

-- one shift more, of what has the sum's bits
abbrev pub ShiftFound : List ℕ → ℕ → Sum → Result Sum Refusal → Type 0
ShiftFound ws n s r = (ts : List Tok) → Tells ts ws n → (c : Tree) → max_bits c ≡ s.bits → Adds (Parse.chain_step ts c s.row) r

abbrev pub ChainFound : List ℕ → ℕ → ℕ → Result Sum Refusal → Type 0
ChainFound ws n i r = (ts : List Tok) → Tells ts ws n → Adds (Parse.chain ts i) r

-- ---- fields

-- what a number tells that is 0 for nothing, and one that is one more than what it tells
abbrev pub told : ℕ → Option ℕ
told n = cond (eqb n 0) None (Some n)

abbrev pub told_less : ℕ → Option ℕ
told_less n = cond (eqb n 0) None (Some (n - 1))

-- the last of two facts that is told
abbrev pub later : Option ℕ → Option ℕ → Option ℕ
later x None = x
later x (Some y) = Some y

-- what holds behind one field more: of each fact the last
abbrev pub over : Facts → Tree → ℕ → Facts
over f t j = record {
  row = j;
  maptype = later f.maptype (told (type_of t));
  key = later f.key (told (typed_by KeywordKey t));
  value = later f.value (told (typed_by KeywordValue t));
  max = later f.max (told_less (limit_of t));
}

abbrev pub Steps : Facts → Out → Result Facts Refusal → Type 0
Steps f = Answer (over f)

-- the field at the facts' row, which the rows alone decide
abbrev pub RowsFound : List ℕ → ℕ → Facts → Result Facts Refusal → Type 0
RowsFound ws n f r = (ts : List Tok) → Tells ts ws n → Steps f (Parse.map_field ts f.row) r

-- the same with the text
abbrev pub FieldFound : List ℕ → List ℕ → ℕ → Facts → Result Facts Refusal → Type 0
FieldFound t ws n f r = (ts : List Tok) → Names ts t ws n → Steps f (Parse.map_field ts f.row) r

-- the fields from row i on
abbrev pub listed : List Tok → ℕ → Out
listed ts i = Parse.list_to ts RBrace map_fields (Parse.map_field ts) i

-- what a list of fields gives
abbrev pub facts_of : Tree → ℕ → Facts
facts_of l j = record {
  row = j;
  maptype = told (type_of l);
  key = told (typed_by KeywordKey l);
  value = told (typed_by KeywordValue l);
  max = told_less (limit_of l);
}

abbrev pub Gives : Out → Result Facts Refusal → Type 0
Gives = Answer facts_of

abbrev pub FieldsFound : List ℕ → List ℕ → ℕ → ℕ → Result Facts Refusal → Type 0
FieldsFound t ws n i r = (ts : List Tok) → Names ts t ws n → Gives (listed ts i) r

-- ---- a map

-- the field that a map lacks whose fields give these facts
abbrev pub Lacks : Facts → Option ℕ → Type 0
Lacks f r =
    (type key val lim : ℕ) → f.maptype ≡ told type → f.key ≡ told key → f.value ≡ told val → f.max ≡ told_less lim
    → r ≡ told (lacking type key val lim)

-- node memory with a map's node at n, whose name is at a row
abbrev pub map_written : (name n : ℕ) → List ℕ → Facts → List ℕ
map_written name n m f =
    sets m (8 * n) (node_words (fact_node NodeMap name name 0 (unwrap_or f.maptype 0) (unwrap_or f.key 0) (unwrap_or f.value 0) (unwrap_or f.max 0)))

abbrev pub MapMet : List ℕ → List ℕ → ℕ → ℕ → ℕ → List ℕ → List ℕ → Result At Refusal → Type 0
MapMet t ws n i nd m m' r = (ts : List Tok) → Names ts t ws n → Met (Parse.map_at ts i) i nd m m' r
