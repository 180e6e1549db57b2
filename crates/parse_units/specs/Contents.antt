-- What a unit's contents give: the kind and the licence so far, and the answers of the functions that read them.
use Rattle.std.specs.Prelude.{◌≡◌, true, false, Result, Ok, List, ℕ, ◌+◌, ◌*◌, ◌≤◌}
use Rattle.std.proofs.lemmas.List.Edits.{sets}
use Rattle.rules.specs.Kinds.{RBrace}
use Rattle.rules.specs.Fits.{unit_things}
use Rattle.rules.specs.Tree.{Tok, Tree, text, is_sum, hangs, sections_of}
use Rattle.rules.specs.Nodes.{size, licence_row, tree_words}
use Rattle.rules.specs.Parse
use Rattle.rules.specs.Parse.{Out, ok, no, is_text}
use Rattle.parse_nodes.specs.Post.{kind_word, state_at, behind, refused_at, Asks, Met}
use Rattle.parse_nodes.specs.declared.At.{At}
use Rattle.parse_nodes.specs.Names.{Names, Spans}
use Rattle.parse_nodes.specs.declared.Refusal.{Refusal}
use Rattle.parse_sections.specs.Sections.{kind_from, first_of, row_told, last_row, spelt, AsksString}
use Rattle.parse_units.specs.declared.Contents.{Contents}

-- ---- one thing more

-- the state behind the contents u and one thing more, which ends at row j
abbrev pub over_at : Contents → Tree → ℕ → At
over_at u t j = record {
  row = j;
  node = u.at.node + size t;
  place = u.at.place;
  things = u.at.things + 1;
  variable = false;
  summed = is_sum t;
  hanging = hangs t;
}

-- what holds behind them
abbrev pub over : Contents → Tree → ℕ → Contents
over u t j = record {
  at = over_at u t j;
  kind = first_of u.kind (kind_from (sections_of t));
  licence = last_row u.licence (row_told (licence_row u.at.row t));
}

-- the state behind them and a section or a licence
abbrev pub text_at : Contents → At
text_at u = record {
  row = u.at.row + 1 + 1 + 1;
  node = u.at.node + 1;
  place = u.at.place;
  things = u.at.things + 1;
  variable = false;
  summed = false;
  hanging = false;
}

abbrev pub Adds : Contents → Out → List ℕ → List ℕ → Result Contents Refusal → Type 0
Adds u (ok t j) m m' r = (r ≡ Ok (over u t j)) × (m' ≡ sets m (8 * u.at.node) (tree_words u.at.row t))
Adds u (no why p) m m' r = r ≡ refused_at why p

-- the thing at the contents' row
abbrev pub ItemMet : List ℕ → List ℕ → ℕ → Contents → List ℕ → List ℕ → Result Contents Refusal → Type 0
ItemMet t ws n u m m' r = (ts : List Tok) → Names ts t ws n → Adds u (Parse.item ts u.at.row) m m' r

-- what is asked there
pub record AsksItem (t ws : List ℕ) (n : ℕ) (u : Contents) : Type 0 where
  pub at : Asks ws n u.at.row u.at.node 64
  pub things : u.at.things ≤ u.at.row
  pub spans : Spans t ws n

-- what is asked at the first thing's row
pub record AsksItems (t ws : List ℕ) (n : ℕ) (s : At) : Type 0 where
  pub at : Asks ws n s.row s.node 64
  pub first : s ≡ state_at s.row s.node s.row
  pub spans : Spans t ws n

-- the contents' row has the kind k, a section's or a licence's
pub record AsksText (t ws : List ℕ) (n : ℕ) (u : Contents) (k : ℕ) : Type 0 where
  pub at : AsksItem t ws n u
  pub word : k ≡ kind_word ws n u.at.row
  pub text : is_text k ≡ true

-- the same with its string behind it
pub record AsksQuoted (t ws : List ℕ) (u : Contents) (k : ℕ) : Type 0 where
  pub string : AsksString t ws (u.at.row + 1)
  pub text : is_text k ≡ true
  pub inside : u.at.row ≤ 65534
  pub few : u.at.node ≤ 65537
  pub things : u.at.things ≤ 65537

-- a section or a licence more
abbrev pub Texted : List ℕ → List ℕ → Contents → ℕ → List ℕ → List ℕ → Contents → Type 0
Texted t ws u k m m' v = Adds u (ok (text k (spelt t ws (u.at.row + 1))) (u.at.row + 1 + 1 + 1)) m m' (Ok v)

-- ---- all of them

-- the things from row i on, up to a brace
abbrev pub things_from : List Tok → ℕ → Out
things_from ts i = Parse.list_to ts RBrace unit_things (Parse.item ts) i

-- what holds behind the list l of things, which begins at row i and ends at row j, its first node at n
abbrev pub contents_of : ℕ → ℕ → Tree → ℕ → Contents
contents_of i n l j = record {
  at = behind i n l j;
  kind = kind_from (sections_of l);
  licence = row_told (licence_row i l);
}

abbrev pub Holds : Out → ℕ → ℕ → List ℕ → List ℕ → Result Contents Refusal → Type 0
Holds (ok l j) i n m m' r = (r ≡ Ok (contents_of i n l j)) × (m' ≡ sets m (8 * n) (tree_words i l))
Holds (no why p) i n m m' r = r ≡ refused_at why p

-- the same from the state s on
abbrev pub ItemsMet : List ℕ → List ℕ → ℕ → At → List ℕ → List ℕ → Result Contents Refusal → Type 0
ItemsMet t ws n s m m' r = (ts : List Tok) → Names ts t ws n → Holds (things_from ts s.row) s.row s.node m m' r

-- the unit whose word is at row i
abbrev pub UnitMet : List ℕ → List ℕ → ℕ → ℕ → ℕ → List ℕ → List ℕ → Result At Refusal → Type 0
UnitMet t ws n i nd m m' r = (ts : List Tok) → Names ts t ws n → Met (Parse.unit_at ts i) i nd m m' r
