-- One block held against what it should be, and its entry in the list.
use Rattle.std.specs.Prelude.{cond, List, [], ◌∷◌, ℕ, ◌*◌, take, drop}
use Rattle.rules.specs.Kinds.{same_bytes}
use Rattle.rules_files.specs.Blocks.{block_bytes}

-- block k of a file, as far as it is there
abbrev pub block_of : ℕ → List ℕ → List ℕ
block_of k file = take block_bytes (drop (block_bytes * k) file)

-- the entry of a block: its number if it differs
abbrev pub entry : ℕ → List ℕ → List ℕ → List ℕ
entry k fresh file = cond (same_bytes fresh (block_of k file)) [] (k ∷ [])

-- the same of the first n bytes of lent memory
abbrev pub entry_here : ℕ → ℕ → List ℕ → List ℕ → List ℕ
entry_here n k fresh memory = entry k fresh (take n memory)
