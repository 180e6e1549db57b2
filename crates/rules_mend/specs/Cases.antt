-- Worked cases: the files of a small text in both forms byte by byte, and what a mending tells and leaves where an easy misreading
-- would do another thing. Each table is under one theorem that the checker computes.
use Rattle.std.specs.Prelude.{◌≡◌, refl, true, List, [], ◌∷◌, ◌++◌, map, ℕ, length, set, replicate, ltb, Result, Ok, Err}
use Rattle.rules.specs.declared.Cursor.{Cursor}
use Rattle.rules.specs.declared.Outer.TheVariants.{TextTooLong, BadByte, NoRowRoom}
use Rattle.rules.specs.Text
use Rattle.rules.specs.Text.{bytes, most_bytes, place, start_place}
use Rattle.rules.specs.Kinds
use Rattle.rules.specs.Rows
use Rattle.rules.specs.Lex
use Rattle.rules.specs.Scan
use Rattle.rules_files.specs.declared.Fault.{Fault}
use Rattle.rules_files.specs.declared.Fault.TheVariants.{Outer, TooManyRows, OtherForm}
use Rattle.rules_files.specs.Bytes
use Rattle.rules_files.specs.Blocks
use Rattle.rules_files.specs.Files
use Rattle.rules_files.specs.Cases.{changed, bare_file}
use Rattle.rules_forms.specs.Short
use Rattle.rules_forms.specs.Forms
use Rattle.rules_mend.specs.Mend
use Rattle.rules_mend.specs.Mend.{fresh_file, fresh_told, mend_told, mend_leaves, list_leaves}
use Rattle.rules_mend.specs.declared.Mended.{Mended}
use Rattle.rules_mend.specs.declared.NotMended.{NotMended}

-- ---- the files that a fresh scan stores

-- two identifiers, and Eof's row
abbrev pub text : List ℕ
text = bytes "a b"

abbrev pub long_file : List ℕ
long_file =
    changed
    (record { at = 4; to = 1 } ∷ record { at = 8; to = 3 } ∷ record { at = 12; to = 3 } ∷ record { at = 508; to = 71 }
    ∷ record { at = 512; to = 1 } ∷ record { at = 514; to = 3 } ∷ record { at = 516; to = 48 } ∷ record { at = 524; to = 1 }
    ∷ record { at = 528; to = 1 } ∷ record { at = 532; to = 1 } ∷ record { at = 548; to = 48 } ∷ record { at = 552; to = 2 }
    ∷ record { at = 556; to = 3 } ∷ record { at = 560; to = 1 } ∷ record { at = 564; to = 3 } ∷ record { at = 580; to = 52 }
    ∷ record { at = 584; to = 3 } ∷ record { at = 588; to = 3 } ∷ record { at = 592; to = 1 } ∷ record { at = 596; to = 4 }
    ∷ record { at = 1020; to = 49 } ∷ record { at = 1021; to = 27 } ∷ [])
    (replicate 1024 0)

abbrev pub short_file : List ℕ
short_file =
    changed
    (record { at = 4; to = 2 } ∷ record { at = 8; to = 3 } ∷ record { at = 12; to = 3 } ∷ record { at = 508; to = 76 }
    ∷ record { at = 512; to = 1 } ∷ record { at = 514; to = 3 } ∷ record { at = 516; to = 48 } ∷ record { at = 524; to = 1 }
    ∷ record { at = 540; to = 48 } ∷ record { at = 544; to = 2 } ∷ record { at = 548; to = 3 } ∷ record { at = 564; to = 52 }
    ∷ record { at = 568; to = 3 } ∷ record { at = 572; to = 3 } ∷ record { at = 1020; to = 78 }
    ∷ record { at = 1021; to = 19 } ∷ [])
    (replicate 1024 0)

pub files : (fresh_file 1 text ∷ fresh_file 2 text ∷ []) ≡ (long_file ∷ short_file ∷ [])
unfolding
    Text.front Text.utf8 Text.met Text.line_in Text.char_at Text.is_cut Text.valid_from Text.valid_bytes Text.valid Text.is_blank
    Text.newlines Text.line_at Text.column_at Text.place_at Text.text_judged Kinds.reserved Kinds.signs Kinds.same_bytes Kinds.kind_in
    Rows.row_words Rows.row_in Rows.words_of Rows.row_at Rows.eof_row Lex.line_comment Lex.before_close Lex.block_comment Lex.is_digit
    Lex.is_letter Lex.is_word Lex.word Lex.is_escape Lex.string Lex.maybe_two Lex.single Lex.sign Lex.slashed Lex.beginning Lex.piece
    Scan.read_rows Scan.read_ending Scan.read Scan.scan Bytes.little Bytes.bytes_of Blocks.sum_from Blocks.check Blocks.checked
    Blocks.block Blocks.blocks_for Blocks.blocks_from Blocks.file_of Files.encode Short.short_row Short.shortened Short.short_encode
    Forms.encode_in Mend.fresh_table Mend.fresh_words Mend.fresh_file
files = refl

-- ---- what is told and left

-- what a mending tells, and how it leaves lent memory and the lent list
pub record Does : Type 0 where
  pub told : Result Mended NotMended
  pub memory : List ℕ
  pub list : List ℕ

abbrev pub does : List ℕ → ℕ → List ℕ → ℕ → List ℕ → Does
does t form memory n list =
    record { told = mend_told t form memory n list; memory = mend_leaves t form memory n list; list = list_leaves t form memory n list }

-- A text, the form asked for, lent memory of which so many bytes are the file, and a lent list: what is to be done.
pub record Case : Type 0 where
  pub text : List ℕ
  pub form : ℕ
  pub memory : List ℕ
  pub n : ℕ
  pub list : List ℕ
  pub done : Does

abbrev pub refused : List ℕ → ℕ → List ℕ → ℕ → List ℕ → Fault → Cursor → Case
refused t form memory n list why p = record {
  text = t;
  form = form;
  memory = memory;
  n = n;
  list = list;
  done = record { told = Err (record { why = why; at = p }); memory = memory; list = list };
}

-- a text's file of a form, in memory whose bytes behind it are tail, with blocks listed in front of the rest of a list
abbrev pub mends : List ℕ → ℕ → List ℕ → ℕ → List ℕ → (file tail found rest : List ℕ) → Case
mends t form memory n list file tail found rest = record {
  text = t;
  form = form;
  memory = memory;
  n = n;
  list = list;
  done = record { told = Ok (record { bytes = length file; listed = length found }); memory = file ++ tail; list = found ++ rest };
}

abbrev pub nines : List ℕ
nines = 9 ∷ 9 ∷ []

abbrev pub cases : List Case
cases =
    -- an empty file is mended to a fresh one, and every block of it is missing
    mends text 1 (replicate 1024 7) 0 nines long_file [] (0 ∷ 1 ∷ []) []
    ∷ mends text 2 (replicate 1025 7) 0 (9 ∷ nines) short_file (7 ∷ []) (0 ∷ 1 ∷ []) (9 ∷ [])
    -- a right file lists nothing, and asks for no list
    ∷ mends text 1 long_file 1024 [] long_file [] [] []
    ∷ mends text 2 short_file 1024 [] short_file [] [] []
    -- one byte too long, and two blocks too long: the tail is listed once, by the number behind the last block, and its bytes stay
    ∷ mends text 1 (long_file ++ (7 ∷ [])) 1025 nines long_file (7 ∷ []) (2 ∷ []) (9 ∷ [])
    ∷ mends text 1 (long_file ++ long_file) 2048 nines long_file long_file (2 ∷ []) (9 ∷ [])
    -- bytes behind the file are no tail
    ∷ mends text 1 (long_file ++ (7 ∷ [])) 1024 nines long_file (7 ∷ []) [] nines
    -- a cut block differs even if what is there is right, and a missing one even if its bytes stand behind the file
    ∷ mends text 1 long_file 1000 nines long_file [] (1 ∷ []) (9 ∷ [])
    ∷ mends text 1 long_file 512 nines long_file [] (1 ∷ []) (9 ∷ [])
    -- a block damaged, and one in front of a surplus tail
    ∷ mends text 1 (set long_file 5 1) 1024 nines long_file [] (0 ∷ []) (9 ∷ [])
    ∷ mends text 1 (set long_file 1023 1 ++ (7 ∷ [])) 1025 nines long_file (7 ∷ []) (1 ∷ 2 ∷ []) []
    -- the other form's file: every block is listed
    ∷ mends text 1 short_file 1024 nines long_file [] (0 ∷ 1 ∷ []) []
    -- a text that is not read to its end, whose file is block 0 alone
    ∷ mends (bytes "@") 1 (replicate 512 7) 512 (9 ∷ []) bare_file [] (0 ∷ []) []
    -- a list and a memory that are too small by one, and memory that ends before the file does
    ∷ refused text 1 (replicate 1024 7) 0 (9 ∷ []) (Outer NoRowRoom) start_place
    ∷ refused text 1 (replicate 1023 7) 0 nines (Outer NoRowRoom) start_place
    ∷ refused text 1 long_file 1025 nines (Outer NoRowRoom) start_place
    -- 2 at its place, before 4; a form that there is not before 2 and 4
    ∷ refused (97 ∷ 10 ∷ 255 ∷ []) 1 [] 1 [] (Outer BadByte) (place 2 2 1)
    ∷ refused (97 ∷ 10 ∷ 255 ∷ []) 0 [] 1 [] OtherForm start_place
    ∷ refused text 3 [] 1 [] OtherForm start_place
    ∷ []

pub right : map (λ c. does c.text c.form c.memory c.n c.list) cases ≡ map (λ c. c.done) cases
unfolding
    Text.front Text.utf8 Text.met Text.line_in Text.char_at Text.is_cut Text.valid_from Text.valid_bytes Text.valid Text.is_blank
    Text.newlines Text.line_at Text.column_at Text.place_at Text.text_judged Kinds.reserved Kinds.signs Kinds.same_bytes Kinds.kind_in
    Rows.row_words Rows.row_in Rows.words_of Rows.row_at Rows.eof_row Lex.line_comment Lex.before_close Lex.block_comment Lex.is_digit
    Lex.is_letter Lex.is_word Lex.word Lex.is_escape Lex.string Lex.maybe_two Lex.single Lex.sign Lex.slashed Lex.beginning Lex.piece
    Scan.read_rows Scan.read_ending Scan.read Scan.scan Bytes.little Bytes.bytes_of Blocks.sum_from Blocks.check Blocks.checked
    Blocks.block Blocks.blocks_for Blocks.blocks_from Blocks.file_of Files.encode Short.short_row Short.shortened Short.short_encode
    Forms.encode_in Mend.fresh_table Mend.fresh_words Mend.fresh_file Mend.differing Mend.surplus Mend.listed Mend.too_small
    Mend.fresh_told Mend.mend_told Mend.mend_leaves Mend.list_leaves
right = refl

-- ---- the order, where no text is small enough to be computed

-- a form that there is not is told before 1, of every text
pub form_first : (t memory : List ℕ) (n : ℕ) (list : List ℕ) → mend_told t 0 memory n list ≡ Err (record { why = OtherForm; at = start_place })
unfolding Mend.mend_told
form_first t memory n list = refl

-- 1 before 4
pub long_first : (t memory : List ℕ) (n : ℕ) (list : List ℕ) → ltb most_bytes (length t) ≡ true
    → mend_told t 1 memory n list ≡ Err (record { why = Outer TextTooLong; at = start_place })
unfolding Mend.mend_told Text.text_judged
long_first t memory n list e = rw e

-- 40 before 4: one row too many, and neither memory nor list
pub many_first : fresh_told (replicate 512 0) 65536 [] 1 [] ≡ Err (record { why = TooManyRows; at = start_place })
unfolding Kinds.same_bytes Mend.differing Mend.surplus Mend.listed Mend.too_small Mend.fresh_told
many_first = refl
