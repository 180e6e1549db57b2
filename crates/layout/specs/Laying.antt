-- What a laying out leaves in the memory that is lent to it, and what it is written from.
use Rattle.std.specs.Prelude.{Option, Some, None, cond, ◌&&◌, List, ◌++◌, ℕ, length, drop, leb}
use Rattle.rules.specs.declared.Table.{Table}
use Rattle.rules.specs.Text.{most_bytes}
use Rattle.rules.specs.Tree.{Tree}
use Rattle.rules.specs.Scan.{scan_leaves}
use Rattle.rules.specs.Calls.{parse_leaves}
use Rattle.layout_write.specs.Lent.{Lent}
use Rattle.rules_layout.specs.Layout.{is_scanned}

-- the lent words are those of a program
pub record IsLent (t ws nodes : List ℕ) (count : ℕ) : Type 0 where
  pub tree : Tree
  pub lent : Lent t ws nodes count tree

-- how many bytes a layout has, if it may be written at all
abbrev pub length_of : List ℕ → Option ℕ
length_of bytes = cond (leb (length bytes) most_bytes) (Some (length bytes)) None

-- a room: the bytes and what stood behind them, or, where they have no room, what was there
unfoldable pub room_leaves : List ℕ → List ℕ → List ℕ
room_leaves bytes room = cond (leb (length bytes) (length room) && leb (length bytes) most_bytes) (bytes ++ drop (length bytes) room) room

-- the scratch: what a scan of the text leaves in it and, where the table is the text's, what a parse of the table leaves in that
unfoldable pub scratch_leaves : List ℕ → List ℕ → Table → List ℕ → List ℕ
scratch_leaves t ws tbl scratch = cond (is_scanned t ws tbl) (parse_leaves t ws tbl (scan_leaves t scratch)) (scan_leaves t scratch)
