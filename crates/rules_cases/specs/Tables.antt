-- Well-formed tables: both sides of the bound on a row's comments, which is half of its gap's length. One table under one theorem.
use Rattle.std.specs.Prelude.{◌≡◌, refl, Bool, true, false, List, [], ◌∷◌, ◌++◌, map, ℕ, None}
use Rattle.rules.specs.Kinds
use Rattle.rules.specs.Rows
use Rattle.rules.specs.Rows.{well_formed}

-- a table of so many rows in words, without an ending, over so many bytes, and whether it is well formed
pub record Case : Type 0 where
  pub words : List ℕ
  pub count : ℕ
  pub length : ℕ
  pub fits : Bool

pub judged : Case → Case
judged c = record {
  words = c.words;
  count = c.count;
  length = c.length;
  fits = well_formed c.words (record { count = c.count; length = c.length; ending = None });
}

abbrev pub cases : List Case
cases =
    -- `//`: a gap of 2 has one comment at most
    record { words = 52 ∷ 2 ∷ 2 ∷ 1 ∷ 3 ∷ 0 ∷ 0 ∷ 1 ∷ []; count = 1; length = 2; fits = true }
    ∷ record { words = 52 ∷ 2 ∷ 2 ∷ 1 ∷ 3 ∷ 0 ∷ 0 ∷ 2 ∷ []; count = 1; length = 2; fits = false }
    -- a table from before comments were counted, all of whose counts are 0, is well formed
    ∷ record { words = 52 ∷ 2 ∷ 2 ∷ 1 ∷ 3 ∷ 0 ∷ 0 ∷ 0 ∷ []; count = 1; length = 2; fits = true }
    -- half is rounded down: a gap of 1 has none, of 3 one, of 5 two
    ∷ record { words = 52 ∷ 1 ∷ 1 ∷ 1 ∷ 2 ∷ 0 ∷ 0 ∷ 1 ∷ []; count = 1; length = 1; fits = false }
    ∷ record { words = 52 ∷ 3 ∷ 3 ∷ 1 ∷ 4 ∷ 0 ∷ 0 ∷ 1 ∷ []; count = 1; length = 3; fits = true }
    ∷ record { words = 52 ∷ 3 ∷ 3 ∷ 1 ∷ 4 ∷ 0 ∷ 0 ∷ 2 ∷ []; count = 1; length = 3; fits = false }
    ∷ record { words = 52 ∷ 5 ∷ 5 ∷ 2 ∷ 3 ∷ 0 ∷ 0 ∷ 2 ∷ []; count = 1; length = 5; fits = true }
    ∷ record { words = 52 ∷ 5 ∷ 5 ∷ 2 ∷ 3 ∷ 0 ∷ 0 ∷ 3 ∷ []; count = 1; length = 5; fits = false }
    -- the first row's gap begins at 0: a word at 2 to 3
    ∷ record { words = (48 ∷ 2 ∷ 3 ∷ 1 ∷ 3 ∷ 0 ∷ 0 ∷ 1 ∷ []) ++ (52 ∷ 3 ∷ 3 ∷ 1 ∷ 4 ∷ 0 ∷ 0 ∷ 0 ∷ []); count = 2; length = 3; fits = true }
    ∷ record { words = (48 ∷ 2 ∷ 3 ∷ 1 ∷ 3 ∷ 0 ∷ 0 ∷ 2 ∷ []) ++ (52 ∷ 3 ∷ 3 ∷ 1 ∷ 4 ∷ 0 ∷ 0 ∷ 0 ∷ []); count = 2; length = 3; fits = false }
    -- any other row's where the row before it ends: Eof at 5 behind a word at 2 to 3
    ∷ record { words = (48 ∷ 2 ∷ 3 ∷ 1 ∷ 3 ∷ 0 ∷ 0 ∷ 1 ∷ []) ++ (52 ∷ 5 ∷ 5 ∷ 1 ∷ 6 ∷ 0 ∷ 0 ∷ 1 ∷ []); count = 2; length = 5; fits = true }
    ∷ record { words = (48 ∷ 2 ∷ 3 ∷ 1 ∷ 3 ∷ 0 ∷ 0 ∷ 1 ∷ []) ++ (52 ∷ 5 ∷ 5 ∷ 1 ∷ 6 ∷ 0 ∷ 0 ∷ 2 ∷ []); count = 2; length = 5; fits = false }
    ∷ []

pub right : map judged cases ≡ cases
unfolding judged Kinds.is_made Kinds.reserved Kinds.signs Kinds.length_in Rows.row_in Rows.rows_in Rows.value_bits Rows.row_place Rows.every Rows.chained Rows.length_fits Rows.spans_fit Rows.value_fits Rows.place_fits Rows.lines_fit Rows.row_fits Rows.follows Rows.gap_fits Rows.gaps_fit Rows.is_eof Rows.eof_last Rows.ending_fits Rows.rows_fit Rows.well_formed
right = refl
