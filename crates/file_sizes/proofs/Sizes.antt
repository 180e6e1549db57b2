-- How long a row of either form is, how many rows stand in a block, and how long a file is at most.
use mathlib.Core.Path.{◌≡◌}
use Prim.Native.Nat.{ℕ, ◌+◌, ◌-◌, ◌*◌, ◌/◌, ◌≤◌, ◌<◌}
use native.Mathlib.Omega.{arith}
use Rattle.rules_files.specs.Blocks.{block_bytes, content_room, blocks_for, file_length, per_block}
use Rattle.rules_forms.specs.declared.Form.{Form}
use Rattle.rules_forms.specs.declared.Form.TheVariants.{Full, Short}
use Rattle.rules_forms.specs.Short.{short_bytes}
use Rattle.rules_forms.specs.Shapes.{row_bytes_of}

-- a row has some bytes, and no more than a block has room for
pub some_bytes : (form : Form) → 0 < row_bytes_of form
some_bytes Full = omega arith
some_bytes Short = omega arith

pub few_bytes : (form : Form) → row_bytes_of form ≤ content_room
few_bytes Full = omega arith
few_bytes Short = omega arith

-- a block has a row at least
pub some_rows : (form : Form) → 1 ≤ per_block (row_bytes_of form)
some_rows Full = omega arith
some_rows Short = omega arith

-- and as many as one of form 2 at most
pub few_rows : (form : Form) → per_block (row_bytes_of form) ≤ per_block short_bytes
few_rows Full = omega arith
few_rows Short = omega arith

-- n rows take no more blocks than n
pub few_blocks : (form : Form) (n : ℕ) → blocks_for (row_bytes_of form) n ≤ n
unfolding blocks_for
few_blocks Full n = omega arith
few_blocks Short n = omega arith

-- a file of n rows is no longer than block 0 and a block for each row
pub short_file : (form : Form) (n : ℕ) → file_length (row_bytes_of form) n ≤ block_bytes * (1 + n)
unfolding file_length
short_file form n = omega (arith, few_blocks form n)

-- a file has block 0
pub some_length : (form : Form) (n : ℕ) → block_bytes ≤ file_length (row_bytes_of form) n
unfolding file_length
some_length form n = omega arith

-- the blocks of n rows, by how many rows stand in one
pub blocks_by : (form : Form) (n most : ℕ) → most ≡ per_block (row_bytes_of form) → (n + (most - 1)) / most ≡ blocks_for (row_bytes_of form) n
unfolding blocks_for
blocks_by form n most e = rw e
