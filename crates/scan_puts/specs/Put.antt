-- A row's words behind those of other rows.
use Rattle.std.specs.Prelude.{cond, List, ◌++◌, ℕ, ◌+◌, ◌*◌, take, drop, ltb}
use Rattle.rules.specs.declared.Cursor.{Cursor}
use Rattle.rules.specs.Rows.{Row, row_at, row_words, words_per_row}
use Rattle.rules.specs.Scan.{room_of}
use Rattle.scan_reader.specs.declared.Brief.{Brief}

-- the row that was told at a place, behind so many comments
unfoldable pub row_of : Cursor → ℕ → Brief → Row
row_of at c r = row_at at c r.kind (at.offset.0 + r.size) r.bits

-- a row's words behind n rows, where there is room
unfoldable pub placed : ℕ → Row → List ℕ → List ℕ
placed n r ws =
    cond (ltb n (room_of ws)) (take (n * words_per_row) ws ++ (row_words r ++ drop (n * words_per_row + words_per_row) ws)) ws
