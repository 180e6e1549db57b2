-- Mending: what a fresh scan stores, which blocks differ from it, what the call tells, and what it leaves in lent memory and the lent list.
use Rattle.std.specs.Prelude.{Bool, cond, not, ◌||◌, List, [], ◌∷◌, ◌++◌, ℕ, zero, suc, ◌/◌, length, take, drop, ltb, Result, Ok, Err}
use Rattle.rules.specs.declared.Outer.TheVariants.{NoRowRoom}
use Rattle.rules.specs.declared.Table.{Table}
use Rattle.rules.specs.Text.{start_place, text_judged}
use Rattle.rules.specs.Kinds.{same_bytes}
use Rattle.rules.specs.Rows.{words_of}
use Rattle.rules.specs.Scan.{read_rows, read_ending, scan}
use Rattle.rules_files.specs.declared.Fault.TheVariants.{Outer, TooManyRows, OtherForm}
use Rattle.rules_files.specs.Blocks.{block_bytes}
use Rattle.rules_files.specs.Files.{most_rows}
use Rattle.rules_forms.specs.Forms.{is_form, encode_in}
use Rattle.rules_mend.specs.declared.Mended.{Mended}
use Rattle.rules_mend.specs.declared.NotMended.{NotMended}

-- ---- "what a fresh scan stores"

-- the table of a text, and the words of its rows, in enough room
unfoldable pub fresh_table : List ℕ → Table
fresh_table text = record { count = length (read_rows (scan text)); length = length text; ending = read_ending (scan text) }

unfoldable pub fresh_words : List ℕ → List ℕ
fresh_words text = words_of (read_rows (scan text))

-- its one file of the form asked for
unfoldable pub fresh_file : ℕ → List ℕ → List ℕ
fresh_file form text = encode_in form (fresh_words text) (fresh_table text)

-- ---- "list every block that differed .. in ascending order"

-- the m blocks from block k on that are not as they should be; "each missing or cut block counts as differing": it has fewer bytes
unfoldable pub differing : ℕ → ℕ → List ℕ → List ℕ → List ℕ
differing zero k fresh file = []
differing (suc m) k fresh file =
    cond (same_bytes (take block_bytes fresh) (take block_bytes file)) [] (k ∷ [])
    ++ differing m (suc k) (drop block_bytes fresh) (drop block_bytes file)

-- "a surplus tail is listed once, by its first block"
unfoldable pub surplus : List ℕ → List ℕ → List ℕ
surplus fresh file = cond (ltb (length fresh) (length file)) ((length fresh / block_bytes) ∷ []) []

unfoldable pub listed : List ℕ → List ℕ → List ℕ
listed fresh file = differing (length fresh / block_bytes) 0 fresh file ++ surplus fresh file

-- ---- what the call tells

-- Lent are memory, of which the first n bytes are the file, and a list. "4 if the lent file or list has too little room", or memory ends
-- before the file does.
unfoldable pub too_small : List ℕ → List ℕ → ℕ → List ℕ → Bool
too_small fresh memory n list =
    ltb (length memory) (length fresh) || (ltb (length memory) n || ltb (length list) (length (listed fresh (take n memory))))

-- "40, then 4"
unfoldable pub fresh_told : List ℕ → ℕ → List ℕ → ℕ → List ℕ → Result Mended NotMended
fresh_told fresh count memory n list =
    cond (ltb most_rows count) (Err (record { why = TooManyRows; at = start_place }))
    (cond (too_small fresh memory n list) (Err (record { why = Outer NoRowRoom; at = start_place }))
    (Ok (record { bytes = length fresh; listed = length (listed fresh (take n memory)) })))

-- "44 if another form is asked for, 1, 2" in front of it
unfoldable pub mend_told : List ℕ → ℕ → List ℕ → ℕ → List ℕ → Result Mended NotMended
mend_told text form memory n list =
    cond (not (is_form form)) (Err (record { why = OtherForm; at = start_place }))
    (elim (text_judged text) [
      | Ok _ ↦ fresh_told (fresh_file form text) (fresh_table text).count memory n list
      | Err e ↦ Err (record { why = Outer e.why; at = e.at })
    ])

-- ---- what it leaves

-- the file, and then what was there: a surplus tail's "bytes stay"; "a refused call changes neither"
unfoldable pub mend_leaves : List ℕ → ℕ → List ℕ → ℕ → List ℕ → List ℕ
mend_leaves text form memory n list =
    elim (mend_told text form memory n list) [
      | Ok done ↦ fresh_file form text ++ drop done.bytes memory
      | Err why ↦ memory
    ]

-- the blocks that differed, and then what was there
unfoldable pub list_leaves : List ℕ → ℕ → List ℕ → ℕ → List ℕ → List ℕ
list_leaves text form memory n list =
    elim (mend_told text form memory n list) [
      | Ok done ↦ listed (fresh_file form text) (take n memory) ++ drop done.listed list
      | Err why ↦ list
    ]
