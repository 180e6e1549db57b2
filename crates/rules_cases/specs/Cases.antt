-- "Both sides of each edge": the worked cases as one table under one theorem, which the checker computes from the rules.
-- [P]: a case that LANGUAGE.md 12 lists as proved.
use Rattle.std.specs.Prelude.{◌≡◌, refl, List, [], ◌∷◌, ◌++◌, map, ℕ, None, Some}
use Rattle.rules.specs.declared.Cursor.{Cursor}
use Rattle.rules.specs.Outcomes.{Ending}
use Rattle.rules.specs.Text
use Rattle.rules.specs.Text.{bytes}
use Rattle.rules.specs.Kinds
use Rattle.rules.specs.Fits
use Rattle.rules.specs.Refusals.{lexical_number, syntax_number, first_told, second_told, found_told}
use Rattle.rules.specs.Rows
use Rattle.rules.specs.Rows.{Row, row_no, row_words, row_place, words_of}
use Rattle.rules.specs.Lex
use Rattle.rules.specs.Scan
use Rattle.rules.specs.Scan.{scan, read_rows, read_ending}
use Rattle.rules.specs.Sets
use Rattle.rules.specs.Tree
use Rattle.rules.specs.Nodes
use Rattle.rules.specs.Nodes.{node_words, nodes_of}
use Rattle.rules.specs.Parse
use Rattle.rules.specs.Parse.{Out, ok, no, parse}
use Rattle.rules.specs.Calls
use Rattle.rules.specs.Calls.{tokens, place_of_row}

-- A text, its rows, its refusal (number, offset, line, column, and what it tells; none if the text is a program), and its nodes.
pub record Case : Type 0 where
  pub text : List ℕ
  pub rows : List (List ℕ)
  pub refusal : List ℕ
  pub nodes : List (List ℕ)

pub place_words : Cursor → List ℕ → List ℕ
place_words p more = p.offset.0 ∷ p.line.0 ∷ p.column.0 ∷ more

pub refusal_of : List ℕ → Ending → Out → List ℕ
refusal_of ws (Some e) o = lexical_number e.why ∷ place_words e.at []
refusal_of ws None (ok t j) = []
refusal_of ws None (no why r) =
    syntax_number why ∷ place_words (place_of_row ws r) (first_told why ∷ second_told why ∷ found_told why (row_no ws r).kind ∷ [])

pub tree_of : Ending → Out → List (List ℕ)
tree_of (Some e) o = []
tree_of None (ok t j) = map node_words (nodes_of 0 t)
tree_of None (no why r) = []

pub answer : List ℕ → Case
answer t =
    let rows : List Row = read_rows (scan t) in
    let o : Out = parse (tokens t rows) in
    record { text = t; rows = map row_words rows; refusal = refusal_of (words_of rows) (read_ending (scan t)) o; nodes = tree_of (read_ending (scan t)) o }

abbrev e_acute : List ℕ
e_acute = 0xC3 ∷ 0xA9 ∷ []

abbrev pub cases : List Case
cases =
    -- [P] the empty text: Eof at 0, 1:1
    record {
      text = [];
      rows =
          (52 ∷ 0 ∷ 0 ∷ 1 ∷ 1 ∷ 0 ∷ 0 ∷ 0 ∷ []) ∷ [];
      refusal = [];
      nodes =
          (29 ∷ 0 ∷ 4294967295 ∷ 0 ∷ 0 ∷ 0 ∷ 0 ∷ 0 ∷ []) ∷ [];
    }
    -- [P] `a << 1 + b` is (a<<1)+b
    ∷ record {
      text = bytes "unit u{a << 1 + b;}";
      rows =
          (0 ∷ 0 ∷ 4 ∷ 1 ∷ 1 ∷ 0 ∷ 0 ∷ 0 ∷ []) ∷
          (48 ∷ 5 ∷ 6 ∷ 1 ∷ 6 ∷ 0 ∷ 0 ∷ 0 ∷ []) ∷
          (25 ∷ 6 ∷ 7 ∷ 1 ∷ 7 ∷ 0 ∷ 0 ∷ 0 ∷ []) ∷
          (48 ∷ 7 ∷ 8 ∷ 1 ∷ 8 ∷ 0 ∷ 0 ∷ 0 ∷ []) ∷
          (47 ∷ 9 ∷ 11 ∷ 1 ∷ 10 ∷ 0 ∷ 0 ∷ 0 ∷ []) ∷
          (50 ∷ 12 ∷ 13 ∷ 1 ∷ 13 ∷ 1 ∷ 0 ∷ 0 ∷ []) ∷
          (41 ∷ 14 ∷ 15 ∷ 1 ∷ 15 ∷ 0 ∷ 0 ∷ 0 ∷ []) ∷
          (48 ∷ 16 ∷ 17 ∷ 1 ∷ 17 ∷ 0 ∷ 0 ∷ 0 ∷ []) ∷
          (32 ∷ 17 ∷ 18 ∷ 1 ∷ 18 ∷ 0 ∷ 0 ∷ 0 ∷ []) ∷
          (26 ∷ 18 ∷ 19 ∷ 1 ∷ 19 ∷ 0 ∷ 0 ∷ 0 ∷ []) ∷
          (52 ∷ 19 ∷ 19 ∷ 1 ∷ 20 ∷ 0 ∷ 0 ∷ 0 ∷ []) ∷ [];
      refusal = [];
      nodes =
          (1 ∷ 3 ∷ 3 ∷ 0 ∷ 0 ∷ 0 ∷ 0 ∷ 0 ∷ []) ∷
          (2 ∷ 5 ∷ 4294967295 ∷ 0 ∷ 1 ∷ 0 ∷ 0 ∷ 0 ∷ []) ∷
          (9 ∷ 3 ∷ 4294967295 ∷ 2 ∷ 0 ∷ 0 ∷ 0 ∷ 0 ∷ []) ∷
          (1 ∷ 7 ∷ 7 ∷ 0 ∷ 0 ∷ 0 ∷ 0 ∷ 0 ∷ []) ∷
          (4 ∷ 3 ∷ 4294967295 ∷ 2 ∷ 0 ∷ 0 ∷ 0 ∷ 0 ∷ []) ∷
          (13 ∷ 3 ∷ 4294967295 ∷ 1 ∷ 0 ∷ 0 ∷ 0 ∷ 0 ∷ []) ∷
          (25 ∷ 0 ∷ 1 ∷ 1 ∷ 10 ∷ 4294967295 ∷ 0 ∷ 0 ∷ []) ∷
          (29 ∷ 10 ∷ 4294967295 ∷ 1 ∷ 0 ∷ 0 ∷ 0 ∷ 0 ∷ []) ∷ [];
    }
    -- [P] `a + b << 1;` 21 at `<<`
    ∷ record {
      text = bytes "unit u{a + b << 1;}";
      rows =
          (0 ∷ 0 ∷ 4 ∷ 1 ∷ 1 ∷ 0 ∷ 0 ∷ 0 ∷ []) ∷
          (48 ∷ 5 ∷ 6 ∷ 1 ∷ 6 ∷ 0 ∷ 0 ∷ 0 ∷ []) ∷
          (25 ∷ 6 ∷ 7 ∷ 1 ∷ 7 ∷ 0 ∷ 0 ∷ 0 ∷ []) ∷
          (48 ∷ 7 ∷ 8 ∷ 1 ∷ 8 ∷ 0 ∷ 0 ∷ 0 ∷ []) ∷
          (41 ∷ 9 ∷ 10 ∷ 1 ∷ 10 ∷ 0 ∷ 0 ∷ 0 ∷ []) ∷
          (48 ∷ 11 ∷ 12 ∷ 1 ∷ 12 ∷ 0 ∷ 0 ∷ 0 ∷ []) ∷
          (47 ∷ 13 ∷ 15 ∷ 1 ∷ 14 ∷ 0 ∷ 0 ∷ 0 ∷ []) ∷
          (50 ∷ 16 ∷ 17 ∷ 1 ∷ 17 ∷ 1 ∷ 0 ∷ 0 ∷ []) ∷
          (32 ∷ 17 ∷ 18 ∷ 1 ∷ 18 ∷ 0 ∷ 0 ∷ 0 ∷ []) ∷
          (26 ∷ 18 ∷ 19 ∷ 1 ∷ 19 ∷ 0 ∷ 0 ∷ 0 ∷ []) ∷
          (52 ∷ 19 ∷ 19 ∷ 1 ∷ 20 ∷ 0 ∷ 0 ∷ 0 ∷ []) ∷ [];
      refusal = 21 ∷ 13 ∷ 1 ∷ 14 ∷ 0x40000000 ∷ 0x3E19 ∷ 47 ∷ [];
      nodes = [];
    }
    -- [P] `x -1;` 21
    ∷ record {
      text = bytes "unit u{x -1;}";
      rows =
          (0 ∷ 0 ∷ 4 ∷ 1 ∷ 1 ∷ 0 ∷ 0 ∷ 0 ∷ []) ∷
          (48 ∷ 5 ∷ 6 ∷ 1 ∷ 6 ∷ 0 ∷ 0 ∷ 0 ∷ []) ∷
          (25 ∷ 6 ∷ 7 ∷ 1 ∷ 7 ∷ 0 ∷ 0 ∷ 0 ∷ []) ∷
          (48 ∷ 7 ∷ 8 ∷ 1 ∷ 8 ∷ 0 ∷ 0 ∷ 0 ∷ []) ∷
          (50 ∷ 9 ∷ 11 ∷ 1 ∷ 10 ∷ 4294967295 ∷ 4294967295 ∷ 0 ∷ []) ∷
          (32 ∷ 11 ∷ 12 ∷ 1 ∷ 12 ∷ 0 ∷ 0 ∷ 0 ∷ []) ∷
          (26 ∷ 12 ∷ 13 ∷ 1 ∷ 13 ∷ 0 ∷ 0 ∷ 0 ∷ []) ∷
          (52 ∷ 13 ∷ 13 ∷ 1 ∷ 14 ∷ 0 ∷ 0 ∷ 0 ∷ []) ∷ [];
      refusal = 21 ∷ 9 ∷ 1 ∷ 10 ∷ 0x40000000 ∷ 0xFE19 ∷ 50 ∷ [];
      nodes = [];
    }
    -- `a--1` is a minus -1
    ∷ record {
      text = bytes "unit u{a--1;}";
      rows =
          (0 ∷ 0 ∷ 4 ∷ 1 ∷ 1 ∷ 0 ∷ 0 ∷ 0 ∷ []) ∷
          (48 ∷ 5 ∷ 6 ∷ 1 ∷ 6 ∷ 0 ∷ 0 ∷ 0 ∷ []) ∷
          (25 ∷ 6 ∷ 7 ∷ 1 ∷ 7 ∷ 0 ∷ 0 ∷ 0 ∷ []) ∷
          (48 ∷ 7 ∷ 8 ∷ 1 ∷ 8 ∷ 0 ∷ 0 ∷ 0 ∷ []) ∷
          (42 ∷ 8 ∷ 9 ∷ 1 ∷ 9 ∷ 0 ∷ 0 ∷ 0 ∷ []) ∷
          (50 ∷ 9 ∷ 11 ∷ 1 ∷ 10 ∷ 4294967295 ∷ 4294967295 ∷ 0 ∷ []) ∷
          (32 ∷ 11 ∷ 12 ∷ 1 ∷ 12 ∷ 0 ∷ 0 ∷ 0 ∷ []) ∷
          (26 ∷ 12 ∷ 13 ∷ 1 ∷ 13 ∷ 0 ∷ 0 ∷ 0 ∷ []) ∷
          (52 ∷ 13 ∷ 13 ∷ 1 ∷ 14 ∷ 0 ∷ 0 ∷ 0 ∷ []) ∷ [];
      refusal = [];
      nodes =
          (1 ∷ 3 ∷ 3 ∷ 0 ∷ 0 ∷ 0 ∷ 0 ∷ 0 ∷ []) ∷
          (2 ∷ 5 ∷ 4294967295 ∷ 0 ∷ 4294967295 ∷ 4294967295 ∷ 0 ∷ 0 ∷ []) ∷
          (5 ∷ 3 ∷ 4294967295 ∷ 2 ∷ 0 ∷ 0 ∷ 0 ∷ 0 ∷ []) ∷
          (13 ∷ 3 ∷ 4294967295 ∷ 1 ∷ 0 ∷ 0 ∷ 0 ∷ 0 ∷ []) ∷
          (25 ∷ 0 ∷ 1 ∷ 1 ∷ 10 ∷ 4294967295 ∷ 0 ∷ 0 ∷ []) ∷
          (29 ∷ 8 ∷ 4294967295 ∷ 1 ∷ 0 ∷ 0 ∷ 0 ∷ 0 ∷ []) ∷ [];
    }
    -- [P] `0x` 17 at 2
    ∷ record {
      text = bytes "0x";
      rows = [];
      refusal = 17 ∷ 2 ∷ 1 ∷ 3 ∷ [];
      nodes = [];
    }
    -- `-0x` 17 at 3
    ∷ record {
      text = bytes "-0x";
      rows = [];
      refusal = 17 ∷ 3 ∷ 1 ∷ 4 ∷ [];
      nodes = [];
    }
    -- `0x<` 17 at 2, in front of a lone sign
    ∷ record {
      text = bytes "0x<";
      rows = [];
      refusal = 17 ∷ 2 ∷ 1 ∷ 3 ∷ [];
      nodes = [];
    }
    -- `<=` 16 at 0
    ∷ record {
      text = bytes "<=";
      rows = [];
      refusal = 16 ∷ 0 ∷ 1 ∷ 1 ∷ [];
      nodes = [];
    }
    -- `<` at the end 16
    ∷ record {
      text = bytes "<";
      rows = [];
      refusal = 16 ∷ 0 ∷ 1 ∷ 1 ∷ [];
      nodes = [];
    }
    -- `>@` 16 at 0
    ∷ record {
      text = bytes ">@";
      rows = [];
      refusal = 16 ∷ 0 ∷ 1 ∷ 1 ∷ [];
      nodes = [];
    }
    -- `@>` 11 at 0
    ∷ record {
      text = bytes "@>";
      rows = [];
      refusal = 11 ∷ 0 ∷ 1 ∷ 1 ∷ [];
      nodes = [];
    }
    -- [P] `0X10`: 0, then X10
    ∷ record {
      text = bytes "0X10";
      rows =
          (50 ∷ 0 ∷ 1 ∷ 1 ∷ 1 ∷ 0 ∷ 0 ∷ 0 ∷ []) ∷
          (48 ∷ 1 ∷ 4 ∷ 1 ∷ 2 ∷ 0 ∷ 0 ∷ 0 ∷ []) ∷
          (52 ∷ 4 ∷ 4 ∷ 1 ∷ 5 ∷ 0 ∷ 0 ∷ 0 ∷ []) ∷ [];
      refusal = 22 ∷ 0 ∷ 1 ∷ 1 ∷ 0x8041 ∷ 0x100000 ∷ 0 ∷ [];
      nodes = [];
    }
    -- [P] `/*/` 12 at 2
    ∷ record {
      text = bytes "/*/";
      rows = [];
      refusal = 12 ∷ 2 ∷ 1 ∷ 3 ∷ [];
      nodes = [];
    }
    -- 9223372036854775807 is fine
    ∷ record {
      text = bytes "9223372036854775807";
      rows =
          (50 ∷ 0 ∷ 19 ∷ 1 ∷ 1 ∷ 4294967295 ∷ 2147483647 ∷ 0 ∷ []) ∷
          (52 ∷ 19 ∷ 19 ∷ 1 ∷ 20 ∷ 0 ∷ 0 ∷ 0 ∷ []) ∷ [];
      refusal = 22 ∷ 0 ∷ 1 ∷ 1 ∷ 0x8041 ∷ 0x100000 ∷ 0 ∷ [];
      nodes = [];
    }
    -- [P] with `-` before ..808 still 15
    ∷ record {
      text = bytes "-9223372036854775808";
      rows = [];
      refusal = 15 ∷ 0 ∷ 1 ∷ 1 ∷ [];
      nodes = [];
    }
    -- max: 4294967295 is fine
    ∷ record {
      text = bytes "map m{type:.hash;key:u32;value:u64;max:4294967295;}";
      rows =
          (6 ∷ 0 ∷ 3 ∷ 1 ∷ 1 ∷ 0 ∷ 0 ∷ 0 ∷ []) ∷
          (48 ∷ 4 ∷ 5 ∷ 1 ∷ 5 ∷ 0 ∷ 0 ∷ 0 ∷ []) ∷
          (25 ∷ 5 ∷ 6 ∷ 1 ∷ 6 ∷ 0 ∷ 0 ∷ 0 ∷ []) ∷
          (7 ∷ 6 ∷ 10 ∷ 1 ∷ 7 ∷ 0 ∷ 0 ∷ 0 ∷ []) ∷
          (29 ∷ 10 ∷ 11 ∷ 1 ∷ 11 ∷ 0 ∷ 0 ∷ 0 ∷ []) ∷
          (30 ∷ 11 ∷ 12 ∷ 1 ∷ 12 ∷ 0 ∷ 0 ∷ 0 ∷ []) ∷
          (48 ∷ 12 ∷ 16 ∷ 1 ∷ 13 ∷ 0 ∷ 0 ∷ 0 ∷ []) ∷
          (32 ∷ 16 ∷ 17 ∷ 1 ∷ 17 ∷ 0 ∷ 0 ∷ 0 ∷ []) ∷
          (8 ∷ 17 ∷ 20 ∷ 1 ∷ 18 ∷ 0 ∷ 0 ∷ 0 ∷ []) ∷
          (29 ∷ 20 ∷ 21 ∷ 1 ∷ 21 ∷ 0 ∷ 0 ∷ 0 ∷ []) ∷
          (21 ∷ 21 ∷ 24 ∷ 1 ∷ 22 ∷ 0 ∷ 0 ∷ 0 ∷ []) ∷
          (32 ∷ 24 ∷ 25 ∷ 1 ∷ 25 ∷ 0 ∷ 0 ∷ 0 ∷ []) ∷
          (9 ∷ 25 ∷ 30 ∷ 1 ∷ 26 ∷ 0 ∷ 0 ∷ 0 ∷ []) ∷
          (29 ∷ 30 ∷ 31 ∷ 1 ∷ 31 ∷ 0 ∷ 0 ∷ 0 ∷ []) ∷
          (22 ∷ 31 ∷ 34 ∷ 1 ∷ 32 ∷ 0 ∷ 0 ∷ 0 ∷ []) ∷
          (32 ∷ 34 ∷ 35 ∷ 1 ∷ 35 ∷ 0 ∷ 0 ∷ 0 ∷ []) ∷
          (10 ∷ 35 ∷ 38 ∷ 1 ∷ 36 ∷ 0 ∷ 0 ∷ 0 ∷ []) ∷
          (29 ∷ 38 ∷ 39 ∷ 1 ∷ 39 ∷ 0 ∷ 0 ∷ 0 ∷ []) ∷
          (50 ∷ 39 ∷ 49 ∷ 1 ∷ 40 ∷ 4294967295 ∷ 0 ∷ 0 ∷ []) ∷
          (32 ∷ 49 ∷ 50 ∷ 1 ∷ 50 ∷ 0 ∷ 0 ∷ 0 ∷ []) ∷
          (26 ∷ 50 ∷ 51 ∷ 1 ∷ 51 ∷ 0 ∷ 0 ∷ 0 ∷ []) ∷
          (52 ∷ 51 ∷ 51 ∷ 1 ∷ 52 ∷ 0 ∷ 0 ∷ 0 ∷ []) ∷ [];
      refusal = [];
      nodes =
          (28 ∷ 1 ∷ 1 ∷ 0 ∷ 1 ∷ 1 ∷ 2 ∷ 4294967295 ∷ []) ∷
          (29 ∷ 21 ∷ 4294967295 ∷ 1 ∷ 0 ∷ 0 ∷ 0 ∷ 0 ∷ []) ∷ [];
    }
    -- [P] max: `1 << 32` 27, at the last number read
    ∷ record {
      text = bytes "map m{type:.hash;key:u32;value:u64;max:1 << 32;}";
      rows =
          (6 ∷ 0 ∷ 3 ∷ 1 ∷ 1 ∷ 0 ∷ 0 ∷ 0 ∷ []) ∷
          (48 ∷ 4 ∷ 5 ∷ 1 ∷ 5 ∷ 0 ∷ 0 ∷ 0 ∷ []) ∷
          (25 ∷ 5 ∷ 6 ∷ 1 ∷ 6 ∷ 0 ∷ 0 ∷ 0 ∷ []) ∷
          (7 ∷ 6 ∷ 10 ∷ 1 ∷ 7 ∷ 0 ∷ 0 ∷ 0 ∷ []) ∷
          (29 ∷ 10 ∷ 11 ∷ 1 ∷ 11 ∷ 0 ∷ 0 ∷ 0 ∷ []) ∷
          (30 ∷ 11 ∷ 12 ∷ 1 ∷ 12 ∷ 0 ∷ 0 ∷ 0 ∷ []) ∷
          (48 ∷ 12 ∷ 16 ∷ 1 ∷ 13 ∷ 0 ∷ 0 ∷ 0 ∷ []) ∷
          (32 ∷ 16 ∷ 17 ∷ 1 ∷ 17 ∷ 0 ∷ 0 ∷ 0 ∷ []) ∷
          (8 ∷ 17 ∷ 20 ∷ 1 ∷ 18 ∷ 0 ∷ 0 ∷ 0 ∷ []) ∷
          (29 ∷ 20 ∷ 21 ∷ 1 ∷ 21 ∷ 0 ∷ 0 ∷ 0 ∷ []) ∷
          (21 ∷ 21 ∷ 24 ∷ 1 ∷ 22 ∷ 0 ∷ 0 ∷ 0 ∷ []) ∷
          (32 ∷ 24 ∷ 25 ∷ 1 ∷ 25 ∷ 0 ∷ 0 ∷ 0 ∷ []) ∷
          (9 ∷ 25 ∷ 30 ∷ 1 ∷ 26 ∷ 0 ∷ 0 ∷ 0 ∷ []) ∷
          (29 ∷ 30 ∷ 31 ∷ 1 ∷ 31 ∷ 0 ∷ 0 ∷ 0 ∷ []) ∷
          (22 ∷ 31 ∷ 34 ∷ 1 ∷ 32 ∷ 0 ∷ 0 ∷ 0 ∷ []) ∷
          (32 ∷ 34 ∷ 35 ∷ 1 ∷ 35 ∷ 0 ∷ 0 ∷ 0 ∷ []) ∷
          (10 ∷ 35 ∷ 38 ∷ 1 ∷ 36 ∷ 0 ∷ 0 ∷ 0 ∷ []) ∷
          (29 ∷ 38 ∷ 39 ∷ 1 ∷ 39 ∷ 0 ∷ 0 ∷ 0 ∷ []) ∷
          (50 ∷ 39 ∷ 40 ∷ 1 ∷ 40 ∷ 1 ∷ 0 ∷ 0 ∷ []) ∷
          (47 ∷ 41 ∷ 43 ∷ 1 ∷ 42 ∷ 0 ∷ 0 ∷ 0 ∷ []) ∷
          (50 ∷ 44 ∷ 46 ∷ 1 ∷ 45 ∷ 32 ∷ 0 ∷ 0 ∷ []) ∷
          (32 ∷ 46 ∷ 47 ∷ 1 ∷ 47 ∷ 0 ∷ 0 ∷ 0 ∷ []) ∷
          (26 ∷ 47 ∷ 48 ∷ 1 ∷ 48 ∷ 0 ∷ 0 ∷ 0 ∷ []) ∷
          (52 ∷ 48 ∷ 48 ∷ 1 ∷ 49 ∷ 0 ∷ 0 ∷ 0 ∷ []) ∷ [];
      refusal = 27 ∷ 44 ∷ 1 ∷ 45 ∷ 0 ∷ 0 ∷ 0 ∷ [];
      nodes = [];
    }
    -- max: `1 << 63` 26, at the row after the expression
    ∷ record {
      text = bytes "map m{type:.hash;key:u32;value:u64;max:1 << 63;}";
      rows =
          (6 ∷ 0 ∷ 3 ∷ 1 ∷ 1 ∷ 0 ∷ 0 ∷ 0 ∷ []) ∷
          (48 ∷ 4 ∷ 5 ∷ 1 ∷ 5 ∷ 0 ∷ 0 ∷ 0 ∷ []) ∷
          (25 ∷ 5 ∷ 6 ∷ 1 ∷ 6 ∷ 0 ∷ 0 ∷ 0 ∷ []) ∷
          (7 ∷ 6 ∷ 10 ∷ 1 ∷ 7 ∷ 0 ∷ 0 ∷ 0 ∷ []) ∷
          (29 ∷ 10 ∷ 11 ∷ 1 ∷ 11 ∷ 0 ∷ 0 ∷ 0 ∷ []) ∷
          (30 ∷ 11 ∷ 12 ∷ 1 ∷ 12 ∷ 0 ∷ 0 ∷ 0 ∷ []) ∷
          (48 ∷ 12 ∷ 16 ∷ 1 ∷ 13 ∷ 0 ∷ 0 ∷ 0 ∷ []) ∷
          (32 ∷ 16 ∷ 17 ∷ 1 ∷ 17 ∷ 0 ∷ 0 ∷ 0 ∷ []) ∷
          (8 ∷ 17 ∷ 20 ∷ 1 ∷ 18 ∷ 0 ∷ 0 ∷ 0 ∷ []) ∷
          (29 ∷ 20 ∷ 21 ∷ 1 ∷ 21 ∷ 0 ∷ 0 ∷ 0 ∷ []) ∷
          (21 ∷ 21 ∷ 24 ∷ 1 ∷ 22 ∷ 0 ∷ 0 ∷ 0 ∷ []) ∷
          (32 ∷ 24 ∷ 25 ∷ 1 ∷ 25 ∷ 0 ∷ 0 ∷ 0 ∷ []) ∷
          (9 ∷ 25 ∷ 30 ∷ 1 ∷ 26 ∷ 0 ∷ 0 ∷ 0 ∷ []) ∷
          (29 ∷ 30 ∷ 31 ∷ 1 ∷ 31 ∷ 0 ∷ 0 ∷ 0 ∷ []) ∷
          (22 ∷ 31 ∷ 34 ∷ 1 ∷ 32 ∷ 0 ∷ 0 ∷ 0 ∷ []) ∷
          (32 ∷ 34 ∷ 35 ∷ 1 ∷ 35 ∷ 0 ∷ 0 ∷ 0 ∷ []) ∷
          (10 ∷ 35 ∷ 38 ∷ 1 ∷ 36 ∷ 0 ∷ 0 ∷ 0 ∷ []) ∷
          (29 ∷ 38 ∷ 39 ∷ 1 ∷ 39 ∷ 0 ∷ 0 ∷ 0 ∷ []) ∷
          (50 ∷ 39 ∷ 40 ∷ 1 ∷ 40 ∷ 1 ∷ 0 ∷ 0 ∷ []) ∷
          (47 ∷ 41 ∷ 43 ∷ 1 ∷ 42 ∷ 0 ∷ 0 ∷ 0 ∷ []) ∷
          (50 ∷ 44 ∷ 46 ∷ 1 ∷ 45 ∷ 63 ∷ 0 ∷ 0 ∷ []) ∷
          (32 ∷ 46 ∷ 47 ∷ 1 ∷ 47 ∷ 0 ∷ 0 ∷ 0 ∷ []) ∷
          (26 ∷ 47 ∷ 48 ∷ 1 ∷ 48 ∷ 0 ∷ 0 ∷ 0 ∷ []) ∷
          (52 ∷ 48 ∷ 48 ∷ 1 ∷ 49 ∷ 0 ∷ 0 ∷ 0 ∷ []) ∷ [];
      refusal = 26 ∷ 46 ∷ 1 ∷ 47 ∷ 0 ∷ 0 ∷ 0 ∷ [];
      nodes = [];
    }
    -- max: `1 << 64` 28, at the count
    ∷ record {
      text = bytes "map m{type:.hash;key:u32;value:u64;max:1 << 64;}";
      rows =
          (6 ∷ 0 ∷ 3 ∷ 1 ∷ 1 ∷ 0 ∷ 0 ∷ 0 ∷ []) ∷
          (48 ∷ 4 ∷ 5 ∷ 1 ∷ 5 ∷ 0 ∷ 0 ∷ 0 ∷ []) ∷
          (25 ∷ 5 ∷ 6 ∷ 1 ∷ 6 ∷ 0 ∷ 0 ∷ 0 ∷ []) ∷
          (7 ∷ 6 ∷ 10 ∷ 1 ∷ 7 ∷ 0 ∷ 0 ∷ 0 ∷ []) ∷
          (29 ∷ 10 ∷ 11 ∷ 1 ∷ 11 ∷ 0 ∷ 0 ∷ 0 ∷ []) ∷
          (30 ∷ 11 ∷ 12 ∷ 1 ∷ 12 ∷ 0 ∷ 0 ∷ 0 ∷ []) ∷
          (48 ∷ 12 ∷ 16 ∷ 1 ∷ 13 ∷ 0 ∷ 0 ∷ 0 ∷ []) ∷
          (32 ∷ 16 ∷ 17 ∷ 1 ∷ 17 ∷ 0 ∷ 0 ∷ 0 ∷ []) ∷
          (8 ∷ 17 ∷ 20 ∷ 1 ∷ 18 ∷ 0 ∷ 0 ∷ 0 ∷ []) ∷
          (29 ∷ 20 ∷ 21 ∷ 1 ∷ 21 ∷ 0 ∷ 0 ∷ 0 ∷ []) ∷
          (21 ∷ 21 ∷ 24 ∷ 1 ∷ 22 ∷ 0 ∷ 0 ∷ 0 ∷ []) ∷
          (32 ∷ 24 ∷ 25 ∷ 1 ∷ 25 ∷ 0 ∷ 0 ∷ 0 ∷ []) ∷
          (9 ∷ 25 ∷ 30 ∷ 1 ∷ 26 ∷ 0 ∷ 0 ∷ 0 ∷ []) ∷
          (29 ∷ 30 ∷ 31 ∷ 1 ∷ 31 ∷ 0 ∷ 0 ∷ 0 ∷ []) ∷
          (22 ∷ 31 ∷ 34 ∷ 1 ∷ 32 ∷ 0 ∷ 0 ∷ 0 ∷ []) ∷
          (32 ∷ 34 ∷ 35 ∷ 1 ∷ 35 ∷ 0 ∷ 0 ∷ 0 ∷ []) ∷
          (10 ∷ 35 ∷ 38 ∷ 1 ∷ 36 ∷ 0 ∷ 0 ∷ 0 ∷ []) ∷
          (29 ∷ 38 ∷ 39 ∷ 1 ∷ 39 ∷ 0 ∷ 0 ∷ 0 ∷ []) ∷
          (50 ∷ 39 ∷ 40 ∷ 1 ∷ 40 ∷ 1 ∷ 0 ∷ 0 ∷ []) ∷
          (47 ∷ 41 ∷ 43 ∷ 1 ∷ 42 ∷ 0 ∷ 0 ∷ 0 ∷ []) ∷
          (50 ∷ 44 ∷ 46 ∷ 1 ∷ 45 ∷ 64 ∷ 0 ∷ 0 ∷ []) ∷
          (32 ∷ 46 ∷ 47 ∷ 1 ∷ 47 ∷ 0 ∷ 0 ∷ 0 ∷ []) ∷
          (26 ∷ 47 ∷ 48 ∷ 1 ∷ 48 ∷ 0 ∷ 0 ∷ 0 ∷ []) ∷
          (52 ∷ 48 ∷ 48 ∷ 1 ∷ 49 ∷ 0 ∷ 0 ∷ 0 ∷ []) ∷ [];
      refusal = 28 ∷ 44 ∷ 1 ∷ 45 ∷ 0 ∷ 0 ∷ 0 ∷ [];
      nodes = [];
    }
    -- `(x).m()` is fine
    ∷ record {
      text = bytes "unit u{(x).m();}";
      rows =
          (0 ∷ 0 ∷ 4 ∷ 1 ∷ 1 ∷ 0 ∷ 0 ∷ 0 ∷ []) ∷
          (48 ∷ 5 ∷ 6 ∷ 1 ∷ 6 ∷ 0 ∷ 0 ∷ 0 ∷ []) ∷
          (25 ∷ 6 ∷ 7 ∷ 1 ∷ 7 ∷ 0 ∷ 0 ∷ 0 ∷ []) ∷
          (27 ∷ 7 ∷ 8 ∷ 1 ∷ 8 ∷ 0 ∷ 0 ∷ 0 ∷ []) ∷
          (48 ∷ 8 ∷ 9 ∷ 1 ∷ 9 ∷ 0 ∷ 0 ∷ 0 ∷ []) ∷
          (28 ∷ 9 ∷ 10 ∷ 1 ∷ 10 ∷ 0 ∷ 0 ∷ 0 ∷ []) ∷
          (30 ∷ 10 ∷ 11 ∷ 1 ∷ 11 ∷ 0 ∷ 0 ∷ 0 ∷ []) ∷
          (48 ∷ 11 ∷ 12 ∷ 1 ∷ 12 ∷ 0 ∷ 0 ∷ 0 ∷ []) ∷
          (27 ∷ 12 ∷ 13 ∷ 1 ∷ 13 ∷ 0 ∷ 0 ∷ 0 ∷ []) ∷
          (28 ∷ 13 ∷ 14 ∷ 1 ∷ 14 ∷ 0 ∷ 0 ∷ 0 ∷ []) ∷
          (32 ∷ 14 ∷ 15 ∷ 1 ∷ 15 ∷ 0 ∷ 0 ∷ 0 ∷ []) ∷
          (26 ∷ 15 ∷ 16 ∷ 1 ∷ 16 ∷ 0 ∷ 0 ∷ 0 ∷ []) ∷
          (52 ∷ 16 ∷ 16 ∷ 1 ∷ 17 ∷ 0 ∷ 0 ∷ 0 ∷ []) ∷ [];
      refusal = [];
      nodes =
          (1 ∷ 4 ∷ 4 ∷ 0 ∷ 0 ∷ 0 ∷ 0 ∷ 0 ∷ []) ∷
          (11 ∷ 4 ∷ 7 ∷ 1 ∷ 0 ∷ 0 ∷ 0 ∷ 0 ∷ []) ∷
          (13 ∷ 4 ∷ 4294967295 ∷ 1 ∷ 0 ∷ 0 ∷ 0 ∷ 0 ∷ []) ∷
          (25 ∷ 0 ∷ 1 ∷ 1 ∷ 10 ∷ 4294967295 ∷ 0 ∷ 0 ∷ []) ∷
          (29 ∷ 12 ∷ 4294967295 ∷ 1 ∷ 0 ∷ 0 ∷ 0 ∷ 0 ∷ []) ∷ [];
    }
    -- [P] `a.b.c()` 31, at the method's name
    ∷ record {
      text = bytes "unit u{a.b.c();}";
      rows =
          (0 ∷ 0 ∷ 4 ∷ 1 ∷ 1 ∷ 0 ∷ 0 ∷ 0 ∷ []) ∷
          (48 ∷ 5 ∷ 6 ∷ 1 ∷ 6 ∷ 0 ∷ 0 ∷ 0 ∷ []) ∷
          (25 ∷ 6 ∷ 7 ∷ 1 ∷ 7 ∷ 0 ∷ 0 ∷ 0 ∷ []) ∷
          (48 ∷ 7 ∷ 8 ∷ 1 ∷ 8 ∷ 0 ∷ 0 ∷ 0 ∷ []) ∷
          (30 ∷ 8 ∷ 9 ∷ 1 ∷ 9 ∷ 0 ∷ 0 ∷ 0 ∷ []) ∷
          (48 ∷ 9 ∷ 10 ∷ 1 ∷ 10 ∷ 0 ∷ 0 ∷ 0 ∷ []) ∷
          (30 ∷ 10 ∷ 11 ∷ 1 ∷ 11 ∷ 0 ∷ 0 ∷ 0 ∷ []) ∷
          (48 ∷ 11 ∷ 12 ∷ 1 ∷ 12 ∷ 0 ∷ 0 ∷ 0 ∷ []) ∷
          (27 ∷ 12 ∷ 13 ∷ 1 ∷ 13 ∷ 0 ∷ 0 ∷ 0 ∷ []) ∷
          (28 ∷ 13 ∷ 14 ∷ 1 ∷ 14 ∷ 0 ∷ 0 ∷ 0 ∷ []) ∷
          (32 ∷ 14 ∷ 15 ∷ 1 ∷ 15 ∷ 0 ∷ 0 ∷ 0 ∷ []) ∷
          (26 ∷ 15 ∷ 16 ∷ 1 ∷ 16 ∷ 0 ∷ 0 ∷ 0 ∷ []) ∷
          (52 ∷ 16 ∷ 16 ∷ 1 ∷ 17 ∷ 0 ∷ 0 ∷ 0 ∷ []) ∷ [];
      refusal = 31 ∷ 11 ∷ 1 ∷ 12 ∷ 0 ∷ 0 ∷ 0 ∷ [];
      nodes = [];
    }
    -- the lister's text
    ∷ record {
      text = bytes "unit u{\n x+=-1;\n}\n";
      rows =
          (0 ∷ 0 ∷ 4 ∷ 1 ∷ 1 ∷ 0 ∷ 0 ∷ 0 ∷ []) ∷
          (48 ∷ 5 ∷ 6 ∷ 1 ∷ 6 ∷ 0 ∷ 0 ∷ 0 ∷ []) ∷
          (25 ∷ 6 ∷ 7 ∷ 1 ∷ 7 ∷ 0 ∷ 0 ∷ 0 ∷ []) ∷
          (48 ∷ 9 ∷ 10 ∷ 2 ∷ 2 ∷ 0 ∷ 0 ∷ 0 ∷ []) ∷
          (36 ∷ 10 ∷ 12 ∷ 2 ∷ 3 ∷ 0 ∷ 0 ∷ 0 ∷ []) ∷
          (50 ∷ 12 ∷ 14 ∷ 2 ∷ 5 ∷ 4294967295 ∷ 4294967295 ∷ 0 ∷ []) ∷
          (32 ∷ 14 ∷ 15 ∷ 2 ∷ 7 ∷ 0 ∷ 0 ∷ 0 ∷ []) ∷
          (26 ∷ 16 ∷ 17 ∷ 3 ∷ 1 ∷ 0 ∷ 0 ∷ 0 ∷ []) ∷
          (52 ∷ 18 ∷ 18 ∷ 4 ∷ 1 ∷ 0 ∷ 0 ∷ 0 ∷ []) ∷ [];
      refusal = [];
      nodes =
          (1 ∷ 3 ∷ 3 ∷ 0 ∷ 0 ∷ 0 ∷ 0 ∷ 0 ∷ []) ∷
          (2 ∷ 5 ∷ 4294967295 ∷ 0 ∷ 4294967295 ∷ 4294967295 ∷ 0 ∷ 0 ∷ []) ∷
          (15 ∷ 3 ∷ 4294967295 ∷ 2 ∷ 0 ∷ 0 ∷ 0 ∷ 0 ∷ []) ∷
          (25 ∷ 0 ∷ 1 ∷ 1 ∷ 10 ∷ 4294967295 ∷ 0 ∷ 0 ∷ []) ∷
          (29 ∷ 8 ∷ 4294967295 ∷ 1 ∷ 0 ∷ 0 ∷ 0 ∷ 0 ∷ []) ∷ [];
    }
    -- é begins no row: 11 at its first byte
    ∷ record {
      text = e_acute;
      rows = [];
      refusal = 11 ∷ 0 ∷ 1 ∷ 1 ∷ [];
      nodes = [];
    }
    -- rows end in front of it: a word
    ∷ record {
      text = bytes "a" ++ e_acute;
      rows =
          (48 ∷ 0 ∷ 1 ∷ 1 ∷ 1 ∷ 0 ∷ 0 ∷ 0 ∷ []) ∷ [];
      refusal = 11 ∷ 1 ∷ 1 ∷ 2 ∷ [];
      nodes = [];
    }
    -- a number
    ∷ record {
      text = bytes "1" ++ e_acute;
      rows =
          (50 ∷ 0 ∷ 1 ∷ 1 ∷ 1 ∷ 1 ∷ 0 ∷ 0 ∷ []) ∷ [];
      refusal = 11 ∷ 1 ∷ 1 ∷ 2 ∷ [];
      nodes = [];
    }
    -- `0x`, without a digit
    ∷ record {
      text = bytes "0x" ++ e_acute;
      rows = [];
      refusal = 17 ∷ 2 ∷ 1 ∷ 3 ∷ [];
      nodes = [];
    }
    -- a backslash
    ∷ record {
      text = bytes "\"\\" ++ (e_acute ++ bytes "\"");
      rows = [];
      refusal = 14 ∷ 1 ∷ 1 ∷ 2 ∷ [];
      nodes = [];
    }
    -- a byte order mark begins no row
    ∷ record {
      text = 0xEF ∷ 0xBB ∷ 0xBF ∷ [];
      rows = [];
      refusal = 11 ∷ 0 ∷ 1 ∷ 1 ∷ [];
      nodes = [];
    }
    -- U+00A0 is no blank
    ∷ record {
      text = 0xC2 ∷ 0xA0 ∷ [];
      rows = [];
      refusal = 11 ∷ 0 ∷ 1 ∷ 1 ∷ [];
      nodes = [];
    }
    -- U+2028 ends no line
    ∷ record {
      text = bytes "//" ++ (0xE2 ∷ 0x80 ∷ 0xA8 ∷ bytes "@\n@");
      rows = [];
      refusal = 11 ∷ 7 ∷ 2 ∷ 1 ∷ [];
      nodes = [];
    }
    -- columns count bytes: `/*°*/@`
    ∷ record {
      text = bytes "/*" ++ (0xC2 ∷ 0xB0 ∷ bytes "*/@");
      rows = [];
      refusal = 11 ∷ 6 ∷ 1 ∷ 7 ∷ [];
      nodes = [];
    }
    -- a string may hold it
    ∷ record {
      text = bytes "\"" ++ (e_acute ++ bytes "\"");
      rows =
          (49 ∷ 0 ∷ 4 ∷ 1 ∷ 1 ∷ 0 ∷ 0 ∷ 0 ∷ []) ∷
          (52 ∷ 4 ∷ 4 ∷ 1 ∷ 5 ∷ 0 ∷ 0 ∷ 0 ∷ []) ∷ [];
      refusal = 22 ∷ 0 ∷ 1 ∷ 1 ∷ 0x8041 ∷ 0x100000 ∷ 0 ∷ [];
      nodes = [];
    }
    -- [P] comments are counted by the row behind their gap: two before a word, none between it and the end
    ∷ record {
      text = bytes "/**//**/a";
      rows =
          (48 ∷ 8 ∷ 9 ∷ 1 ∷ 9 ∷ 0 ∷ 0 ∷ 2 ∷ []) ∷
          (52 ∷ 9 ∷ 9 ∷ 1 ∷ 10 ∷ 0 ∷ 0 ∷ 0 ∷ []) ∷ [];
      refusal = 22 ∷ 8 ∷ 1 ∷ 9 ∷ 0x8041 ∷ 0x100000 ∷ 0 ∷ [];
      nodes = [];
    }
    -- [P] `//`, newline, `//`: Eof's row counts both, one of them closed by the end
    ∷ record {
      text = bytes "//\n//";
      rows =
          (52 ∷ 5 ∷ 5 ∷ 2 ∷ 3 ∷ 0 ∷ 0 ∷ 2 ∷ []) ∷ [];
      refusal = [];
      nodes =
          (29 ∷ 0 ∷ 4294967295 ∷ 0 ∷ 0 ∷ 0 ∷ 0 ∷ 0 ∷ []) ∷ [];
    }
    -- [P] `/**/@`: a comment before a refusal is in no row
    ∷ record {
      text = bytes "/**/@";
      rows = [];
      refusal = 11 ∷ 4 ∷ 1 ∷ 5 ∷ [];
      nodes = [];
    }
    ∷ []

pub right : map (λ (c : Case). answer c.text) cases ≡ cases
unfolding place_words refusal_of tree_of answer Text.front Text.utf8 Text.met Text.line_in Text.char_at Text.is_cut Text.valid_from Text.valid_bytes Text.valid Text.cut_bytes Text.is_blank Text.newlines Text.line_at Text.column_at Text.place_at Text.text_judged Text.moved Text.over Text.along Kinds.is_made Kinds.reserved Kinds.signs Kinds.same_bytes Kinds.kind_in Kinds.length_in Rows.row_words Rows.row_in Rows.rows_in Rows.words_of Rows.bits_of Rows.value_bits Rows.row_at Rows.eof_row Rows.row_place Rows.every Rows.chained Rows.length_fits Rows.spans_fit Rows.value_fits Rows.place_fits Rows.lines_fit Rows.row_fits Rows.follows Rows.gap_fits Rows.gaps_fit Rows.last_row Rows.ends_behind Rows.is_eof Rows.eof_last Rows.ending_fits Rows.rows_fit Rows.well_formed Rows.spelling Lex.line_comment Lex.before_close Lex.block_comment Lex.is_digit Lex.is_letter Lex.is_word Lex.word Lex.is_hex_digit Lex.digit_value Lex.spelt Lex.number_of Lex.decimal Lex.hex Lex.number Lex.is_escape Lex.string Lex.maybe_two Lex.single Lex.sign Lex.slashed Lex.dashed Lex.beginning Lex.piece Lex.decided_at Lex.item Scan.read_rows Scan.read_ending Scan.read Scan.scan Scan.room_of Scan.told Scan.laid Scan.scan_told Scan.scan_leaves Sets.sections Sets.fits Sets.kind_of_section Sets.from_section Sets.allowed Sets.member Sets.allows Sets.set_size Tree.kind_of Tree.spelling_of Tree.bits_in Tree.tok_of Tree.yield Tree.is_variable Tree.is_sum Tree.hangs Tree.count Tree.sections_of Tree.content Tree.section_text Tree.kind_of_first Tree.unit_kind Tree.map_types Tree.map_type_number Tree.shift_right Tree.shift_bits Tree.max_bits Tree.type_of Tree.typed_by Tree.limit_of Tree.lacking Nodes.width Nodes.place_of Nodes.licence_row Nodes.binary_node Nodes.decl_node Nodes.assign_node Nodes.text_node Nodes.nodes_of Nodes.size Nodes.node_words Nodes.words_of_nodes Nodes.tree_words Fits.has Fits.set_told Fits.retold Parse.then Parse.or Parse.many Parse.lead Parse.stmt_lead Parse.field_lead Parse.event_lead Parse.top_lead Parse.want_by Parse.want_in Parse.want Parse.need_by Parse.need Parse.named Parse.quoted Parse.valued Parse.loop Parse.else_behind Parse.list_step Parse.list_to Parse.braced Parse.onward Parse.end_in Parse.end Parse.called Parse.atom_by Parse.atom Parse.arg_step Parse.args Parse.call_by Parse.open_by Parse.post Parse.prim Parse.unary_by Parse.unary Parse.bin_step Parse.mul Parse.shift Parse.add Parse.inner Parse.expr Parse.else_by Parse.assign_by Parse.bodies Parse.stmt_by Parse.stmt Parse.body Parse.item_by Parse.item Parse.unit_at Parse.type_by Parse.key_by Parse.count_by Parse.chain_step Parse.chain Parse.limit_by Parse.map_field_by Parse.map_field Parse.map_end Parse.map_at Parse.length_by Parse.length_at Parse.array_by Parse.event_type_by Parse.event_field Parse.event_at Parse.top_by Parse.top Parse.parse Calls.judged Calls.spelling_judged Calls.spelling_part Calls.member_asked Calls.size_asked Calls.tokens Calls.place_of_row Calls.node_room Calls.out_told Calls.out_leaves Calls.reading Calls.ending_told Calls.ending_leaves Calls.parse_told Calls.parse_leaves
right = refl
