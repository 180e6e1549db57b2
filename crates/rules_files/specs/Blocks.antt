-- "The file is blocks of 512 bytes": a block, rows of any size into blocks and back, and whether a block is as it should be.
use Rattle.std.specs.Prelude.{Bool, true, false, ◌&&◌, List, [], ◌∷◌, ◌++◌, ℕ, zero, suc, ◌+◌, ◌-◌, ◌*◌, ◌/◌, min, length, take, drop, replicate, eqb}
use Rattle.rules_files.specs.Bytes.{little, number_at}

-- ---- one block

abbrev pub block_bytes : ℕ
block_bytes = 512

-- "two bytes block number from 0, two bytes row count, then content, zero filler, and four bytes of check"
abbrev pub at_rows : ℕ
at_rows = 2

abbrev pub at_content : ℕ
at_content = 4

abbrev pub checked_bytes : ℕ
checked_bytes = 508

abbrev pub content_room : ℕ
content_room = 504

-- "the sum over the first 508 bytes of each byte times its place, counted from 1": of bytes whose first has a place
unfoldable pub sum_from : ℕ → List ℕ → ℕ
sum_from place [] = 0
sum_from place (b ∷ s) = b * place + sum_from (suc place) s

unfoldable pub check : List ℕ → ℕ
check s = sum_from 1 s

-- what the check of block k is over: n rows, and a content
unfoldable pub checked : ℕ → ℕ → List ℕ → List ℕ
checked k n content = (little 2 k ++ little 2 n) ++ (content ++ replicate (content_room - length content) 0)

unfoldable pub block : ℕ → ℕ → List ℕ → List ℕ
block k n content = checked k n content ++ little 4 (check (checked k n content))

-- the content of a block, so many bytes long
unfoldable pub content_of : ℕ → List ℕ → List ℕ
content_of size b = take size (drop at_content b)

unfoldable pub zeros : List ℕ → Bool
zeros [] = true
zeros (b ∷ s) = eqb b 0 && zeros s

-- "a block whose check, number, row count or filler is wrong" is not sound: block k of n rows, with so many bytes of content
unfoldable pub sound : ℕ → ℕ → ℕ → List ℕ → Bool
sound k n size b =
    ((eqb (number_at 2 0 b) k && eqb (number_at 2 at_rows b) n) && zeros (take (content_room - size) (drop (at_content + size) b)))
    && eqb (number_at 4 checked_bytes b) (check (take checked_bytes b))

-- ---- rows of so many bytes, in blocks

module _ (row_bytes : ℕ) where
  -- "Each later block has 15 rows of eight words, the last what remains": as many as its content has room for
  abbrev pub per_block : ℕ
  per_block = content_room / row_bytes

  -- how many of n rows stand in the next block, and how many bytes they have
  abbrev pub rows_here : ℕ → ℕ
  rows_here n = min per_block n

  abbrev pub bytes_here : ℕ → ℕ
  bytes_here n = row_bytes * rows_here n

  -- how many blocks n rows take, and how long the file is with block 0 before them
  unfoldable pub blocks_for : ℕ → ℕ
  blocks_for n = (n + (per_block - 1)) / per_block

  unfoldable pub file_length : ℕ → ℕ
  file_length n = block_bytes * (1 + blocks_for n)

  -- m blocks from block k on, of n rows that stand one behind the other
  unfoldable pub blocks_from : ℕ → ℕ → ℕ → List ℕ → List ℕ
  blocks_from zero k n body = []
  blocks_from (suc m) k n body =
      block k (rows_here n) (take (bytes_here n) body) ++ blocks_from m (suc k) (n - per_block) (drop (bytes_here n) body)

  -- "Block 0 has row count 0": what it says, and then n rows
  unfoldable pub file_of : List ℕ → ℕ → List ℕ → List ℕ
  file_of said n body = block 0 0 said ++ blocks_from (blocks_for n) 1 n body

  -- how many of m blocks from block k on, of n rows, are sound before one is not
  unfoldable pub sound_from : ℕ → ℕ → ℕ → List ℕ → ℕ
  sound_from zero k n s = 0
  sound_from (suc m) k n s =
      elim (sound k (rows_here n) (bytes_here n) (take block_bytes s)) [
        | true ↦ suc (sound_from m (suc k) (n - per_block) (drop block_bytes s))
        | false ↦ 0
      ]

  -- the bytes of n rows in m blocks, one row behind the other
  unfoldable pub body_from : ℕ → ℕ → List ℕ → List ℕ
  body_from zero n s = []
  body_from (suc m) n s = content_of (bytes_here n) (take block_bytes s) ++ body_from m (n - per_block) (drop block_bytes s)
