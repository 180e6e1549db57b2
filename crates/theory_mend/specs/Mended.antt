-- What is claimed of a file that was mended, and of the blocks that are listed.
use Rattle.std.specs.Prelude.{◌≡◌, true, List, [], ◌∷◌, ℕ, ◌+◌, ◌*◌, ◌/◌, ◌≤◌, ◌<◌, length, take, drop, Ok}
use Rattle.rules.specs.Text.{text_judged}
use Rattle.rules.specs.Scan.{room_of, scan_told, scan_leaves}
use Rattle.rules_files.specs.Blocks.{block_bytes}
use Rattle.rules_files.specs.Files.{most_rows, form_number, form_said, load_told, load_leaves}
use Rattle.rules_forms.specs.Forms.{is_form, beside_told, beside_leaves}
use Rattle.rules_mend.specs.Mend.{fresh_table, fresh_file, listed, mend_told, mend_leaves, list_leaves}

-- A file was mended: n bytes of memory were the file, size are now, and count blocks are listed.
pub record IsMended (text : List ℕ) (form : ℕ) (memory : List ℕ) (n : ℕ) (list : List ℕ) (size count : ℕ) : Type 0 where
  pub told : mend_told text form memory n list ≡ Ok (record { bytes = size; listed = count })

-- the file that it left
abbrev pub left : List ℕ → ℕ → List ℕ → ℕ → List ℕ → ℕ → List ℕ
left text form memory n list size = take size (mend_leaves text form memory n list)

-- "the mended file reads back as the fresh scan's table": beside the text in either form, and by the reading of form 1, in any room for
-- all rows; it says "the form asked for"
pub record ReadsBack (text : List ℕ) (form : ℕ) (file : List ℕ) : Type 0 where
  pub said : form_said file ≡ form
  pub scanned : (room : ℕ) → (fresh_table text).count ≤ room → scan_told text room ≡ Ok (fresh_table text)
  pub beside : (room : ℕ) → (fresh_table text).count ≤ room → beside_told text file room ≡ Ok (fresh_table text)
  pub rows_beside : (ws : List ℕ) → (fresh_table text).count ≤ room_of ws → beside_leaves text file ws ≡ scan_leaves text ws
  pub alone : form ≡ form_number → (room : ℕ) → (fresh_table text).count ≤ room → load_told file room ≡ Ok (fresh_table text)
  pub rows_alone : form ≡ form_number → (ws : List ℕ) → (fresh_table text).count ≤ room_of ws → load_leaves file ws ≡ scan_leaves text ws

-- "A file equal to the fresh scan's in that form": the first n bytes of memory, of a text that has such a file
pub record IsRight (text : List ℕ) (form : ℕ) (memory : List ℕ) (n : ℕ) : Type 0 where
  pub known : is_form form ≡ true
  pub fine : text_judged text ≡ Ok tt
  pub few : (fresh_table text).count ≤ most_rows
  pub held : n ≤ length memory
  pub file : take n memory ≡ fresh_file form text

-- it "comes back unchanged with an empty list", whatever list is lent; and so "mending again lists nothing and changes nothing"
pub record NothingAgain (text : List ℕ) (form : ℕ) (memory : List ℕ) (size : ℕ) : Type 0 where
  pub told : (list : List ℕ) → mend_told text form memory size list ≡ Ok (record { bytes = size; listed = 0 })
  pub file : (list : List ℕ) → mend_leaves text form memory size list ≡ memory
  pub list : (list : List ℕ) → list_leaves text form memory size list ≡ list

-- block k of some bytes, as far as it is there
abbrev pub block_at : ℕ → List ℕ → List ℕ
block_at k s = take block_bytes (drop (block_bytes * k) s)

pub data Member (k : ℕ) : List ℕ → Type 0 where
  here : {s : List ℕ} → Member k (k ∷ s)
  there : {j : ℕ} {s : List ℕ} → Member k s → Member k (j ∷ s)

-- "a block is listed exactly if it differed, was cut or missing, or begins the surplus tail"
abbrev pub Differs : List ℕ → List ℕ → ℕ → Type 0
Differs fresh file k = (k < length fresh / block_bytes) × (block_at k fresh ≡ block_at k file → ⊥)

abbrev pub BeginsTail : List ℕ → List ℕ → ℕ → Type 0
BeginsTail fresh file k = (k ≡ length fresh / block_bytes) × (length fresh < length file)

pub record ListedExactly (fresh file : List ℕ) : Type 0 where
  pub differs : (k : ℕ) → Differs fresh file k → Member k (listed fresh file)
  pub tail : (k : ℕ) → BeginsTail fresh file k → Member k (listed fresh file)
  pub only : (k : ℕ) → Member k (listed fresh file) → (k < length fresh / block_bytes → block_at k fresh ≡ block_at k file → ⊥)
  pub last : (k : ℕ) → Member k (listed fresh file) → (length fresh / block_bytes ≤ k → BeginsTail fresh file k)

-- "in ascending order"
pub data Ascending : List ℕ → Type 0 where
  none : Ascending []
  one : {k : ℕ} → Ascending (k ∷ [])
  more : {j k : ℕ} {s : List ℕ} → j < k → Ascending (k ∷ s) → Ascending (j ∷ k ∷ s)

-- what the lent list holds then: its first count words are those blocks, and the file that they are held against is whole blocks
pub record ListTells (text : List ℕ) (form : ℕ) (memory : List ℕ) (n : ℕ) (list : List ℕ) (count : ℕ) : Type 0 where
  pub whole : block_bytes * (length (fresh_file form text) / block_bytes) ≡ length (fresh_file form text)
  pub entries : take count (list_leaves text form memory n list) ≡ listed (fresh_file form text) (take n memory)
  pub exactly : ListedExactly (fresh_file form text) (take n memory)
  pub cut : (k : ℕ) → k < length (fresh_file form text) / block_bytes → n < block_bytes * k + block_bytes
      → Member k (listed (fresh_file form text) (take n memory))
  pub ascending : Ascending (listed (fresh_file form text) (take n memory))

-- "a refused call changes neither"
pub record Untouched (text : List ℕ) (form : ℕ) (memory : List ℕ) (n : ℕ) (list : List ℕ) : Type 0 where
  pub file : mend_leaves text form memory n list ≡ memory
  pub entries : list_leaves text form memory n list ≡ list

-- "with nothing written over a block that was already right", nor behind the file, where a surplus tail's "bytes stay", nor behind what
-- is listed
pub record RestStays (text : List ℕ) (form : ℕ) (memory : List ℕ) (n : ℕ) (list : List ℕ) (size count : ℕ) : Type 0 where
  pub entries_behind : drop count (list_leaves text form memory n list) ≡ drop count list
  pub behind : drop size (mend_leaves text form memory n list) ≡ drop size memory
  pub right : (k : ℕ) → (Member k (listed (fresh_file form text) (take n memory)) → ⊥)
      → block_at k (mend_leaves text form memory n list) ≡ block_at k memory

-- There is room: memory holds the file and what it becomes, and the list an entry for each block of that and one for a tail.
pub record HasRoom (text : List ℕ) (form : ℕ) (memory : List ℕ) (n : ℕ) (list : List ℕ) : Type 0 where
  pub file : length (fresh_file form text) ≤ length memory
  pub held : n ≤ length memory
  pub entries : length (fresh_file form text) / block_bytes + 1 ≤ length list
