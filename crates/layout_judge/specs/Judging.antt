-- Whether two tables are the same, and whether nodes are a table's, as the call asks it.
use Rattle.std.specs.Prelude.{Bool, false, ◌&&◌, List, ℕ, eqb, Ok, Err}
use Rattle.rules.specs.declared.Table.{Table}
use Rattle.rules.specs.Calls.{parse_told, reading}
use Rattle.rules_layout.specs.Layout.{is_whole}
pub use Rattle.rules_layout.specs.Layout.{is_scanned, is_read}

-- no refusal ends two tables, of as many rows and of texts as long
unfoldable pub same_table : Table → Table → Bool
same_table fresh tbl =
    (is_whole fresh.ending && is_whole tbl.ending) && (eqb tbl.count fresh.count && eqb tbl.length fresh.length)

-- the nodes that a parse gives in room for all
unfoldable pub is_parsed : List ℕ → List ℕ → Table → List ℕ → ℕ → Bool
is_parsed t ws tbl nodes count =
    elim (parse_told t ws tbl 65537) [ Ok n ↦ is_read (reading t ws tbl) nodes count | Err e ↦ false ]
