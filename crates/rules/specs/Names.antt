-- The numbers that the code has names for too, in the order in which it lists them: each module of names in `src/` has a function `all`
-- that promises one of these, or `Kinds.row_kinds`, or `Nodes.node_kinds`.
use Rattle.std.specs.Prelude.{◌≡◌, List, [], ◌∷◌, ◌++◌, map, ℕ, ◌-◌, ◌^◌, get_or}
use Rattle.rules.specs.Text.{most_bytes}
use Rattle.rules.specs.Kinds.{TypeU32, TypeU64, TypeI32, TypeI64}
use Rattle.rules.specs.Fits.{operands, statements, texts, ons, shifts, assigns, first_arguments, body_things, unit_things, event_fields, tops, map_fields, types, event_types}
use Rattle.rules.specs.Rows.{Row, row_words, words_per_row}
use Rattle.rules.specs.Lex.{largest}
use Rattle.rules.specs.Edit.{judging}
use Rattle.rules.specs.Sets.{program_kinds}
use Rattle.rules.specs.Tree.{type_number, map_type_numbers, map_field_numbers}
use Rattle.rules.specs.Nodes.{Node, node_words, words_per_node, missing, event_forms}
use Rattle.rules.specs.Parse.{most32, most_open, most_shift}

abbrev pub type_numbers : List ℕ
type_numbers = map (λ k. type_number k) (TypeU32 ∷ TypeU64 ∷ TypeI32 ∷ TypeI64 ∷ [])

abbrev pub facts : List ℕ
facts = map_type_numbers ++ (type_numbers ++ (event_forms ++ (map_field_numbers ++ program_kinds)))

-- a text's bytes as an index, a word and a wider number; then the rest
abbrev pub limits : List ℕ
limits =
    most_bytes ∷ most_bytes ∷ most_bytes ∷ judging ∷ most_open ∷ most_shift ∷ most32 ∷ (2 ^ 32) ∷ largest ∷ (2 ^ 63) ∷ (2 ^ 64 - 1)
    ∷ missing ∷ words_per_node ∷ words_per_row ∷ []

-- the pieces of sets
abbrev pub pieces : List ℕ
pieces =
    operands ∷ statements ∷ texts ∷ ons ∷ shifts ∷ assigns ∷ first_arguments ∷ body_things ∷ unit_things ∷ event_fields ∷ tops ∷ map_fields ∷ types ∷ event_types ∷ []

-- the words at so many indices
unfoldable pub words_at : List ℕ → List ℕ → List ℕ
words_at ws is = map (λ i. get_or ws i 0) is

-- the indices of a row's words, and of a node's
pub record RowIndices (is : List ℕ) : Type 0 where
  pub words : (r : Row) → words_at (row_words r) is ≡ r.kind ∷ r.start ∷ r.end ∷ r.line ∷ r.column ∷ r.low ∷ r.high ∷ r.comments ∷ []

pub record NodeIndices (is : List ℕ) : Type 0 where
  pub words : (n : Node) → words_at (node_words n) is ≡ n.kind ∷ n.place ∷ n.name ∷ n.children ∷ n.fact0 ∷ n.fact1 ∷ n.fact2 ∷ n.fact3 ∷ []
