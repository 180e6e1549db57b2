-- What the calls over files tell, in the eight words of every answer: 41 tells its block, a writing and a move tell blocks and bytes,
-- a mending tells how many blocks it listed, and bytes, and a reading tells the table as a scan does, so that its words can be lent on as
-- the table.
use Rattle.std.specs.Prelude.{List, ℕ, ◌/◌, Result, Ok, Err}
use Rattle.rules.specs.Text.{start_place}
use Rattle.answers.specs.Layout.{words, nowhere, ending_words}
use Rattle.rules_files.specs.declared.Fault.{Fault}
use Rattle.rules_files.specs.Blocks.{block_bytes}
use Rattle.rules_files.specs.Files.{fault_number, block_told}
use Rattle.rules_forms.specs.declared.Apart.{Apart}
use Rattle.rules_forms.specs.Forms.{apart_number, apart_block}
use Rattle.rules.specs.declared.Table.{Table}
use Rattle.rules_mend.specs.declared.Mended.{Mended}
use Rattle.rules_mend.specs.declared.NotMended.{NotMended}

abbrev pub fault_words : Fault → List ℕ
fault_words why = words (fault_number why) start_place (block_told why) 0 0 0

abbrev pub stored_words : Result ℕ Fault → List ℕ
stored_words (Ok n) = words 0 nowhere 0 0 (n / block_bytes) n
stored_words (Err why) = fault_words why

abbrev pub loaded_words : Result Table Fault → List ℕ
loaded_words (Ok t) = ending_words t.count t.length t.ending
loaded_words (Err why) = fault_words why

-- ---- with the text at hand

abbrev pub apart_words : Apart → List ℕ
apart_words why = words (apart_number why) start_place (apart_block why) 0 0 0

abbrev pub beside_words : Result Table Apart → List ℕ
beside_words (Ok t) = ending_words t.count t.length t.ending
beside_words (Err why) = apart_words why

abbrev pub moved_words : Result ℕ Apart → List ℕ
moved_words (Ok n) = words 0 nowhere 0 0 (n / block_bytes) n
moved_words (Err why) = apart_words why

-- 2 stands at its place, as in a scan
abbrev pub mended_words : Result Mended NotMended → List ℕ
mended_words (Ok done) = words 0 nowhere 0 0 done.listed done.bytes
mended_words (Err refused) = words (fault_number refused.why) refused.at 0 0 0 0
