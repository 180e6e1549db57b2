-- What each call's contract says of what it told and left.
use Prim.Native.Nat.{ℕ}
use mathlib.Core.Bool.{cond}
use mathlib.Core.List.{List}
use mathlib.Core.Path.{◌≡◌}
use lib.ListN.{length}
use Rattle.rules.specs.Rows.{well_formed}
use Rattle.rules.specs.Scan.{room_of, scan_told, scan_leaves}
use Rattle.rules.specs.Edit.{edit_told, edit_leaves, restart_told}
use Rattle.rules.specs.Sets.{from_section}
use Rattle.rules.specs.Calls.{member_asked, size_asked, parse_told, parse_leaves, node_room}
use Rattle.edit_change.specs.Change.{change_told, change_leaves}
use Rattle.answers.specs.Layout.{told_words, asked_words, restart_words, parsed_words, table_of, spelling_words}
use Rattle.rules_files.specs.Files.{store_told, store_leaves, load_told, load_leaves}
use Rattle.rules_forms.specs.Forms.{beside_told, beside_leaves, move_told, move_leaves}
use Rattle.rules_mend.specs.Mend.{mend_told, mend_leaves, list_leaves}
use Rattle.rules_layout.specs.Layout.{layout_told, layout_leaves}
use Rattle.layout.specs.Laying.{scratch_leaves}
use Rattle.layout_answers.specs.Words.{laid_words}
use Rattle.file_answers.specs.Layout.{stored_words, loaded_words, beside_words, moved_words, mended_words}
use Rattle.theory_outer.specs.Calls.{ScanCall, scanned, WellFormedCall, tested, SpellingCall, spelt, ParseCall, parsed}
use Rattle.theory_outer.specs.Calls.{EditCall, edited, ChangeCall, changed, RestartCall, placed}
use Rattle.theory_outer.specs.Calls.{AllowsCall, asked, SetSizeCall, sized, SectionKindCall, named}
use Rattle.theory_outer.specs.Calls.{StoreCall, stored, LoadCall, loaded, LoadBesideCall, loaded_beside}
use Rattle.theory_outer.specs.Calls.{MoveCall, moved, MendCall, mended, LayoutCall, laid_out}

pub scan_says : {text lent answer rows : List ℕ} → ScanCall text lent answer rows
    → (answer ≡ told_words (scan_told text (room_of lent))) × (rows ≡ scan_leaves text lent)
scan_says (scanned κs a r e p) = p

pub well_says : {rows table : List ℕ} {r : ℕ} → WellFormedCall rows table r → r ≡ cond (well_formed rows (table_of table)) 1 0
well_says (tested κs a r e p) = p

pub spelling_says : {text rows table : List ℕ} {k : ℕ} {answer : List ℕ} → SpellingCall text rows table k answer
    → answer ≡ spelling_words text rows (table_of table) k
spelling_says (spelt κs a r e p) = p

pub parse_says : {text rows table lent answer nodes : List ℕ} → ParseCall text rows table lent answer nodes
    → (answer ≡ parsed_words (parse_told text rows (table_of table) (node_room lent))) × (nodes ≡ parse_leaves text rows (table_of table) lent)
parse_says (parsed κs a r e p) = p

pub layout_says : {text rows table nodes : List ℕ} {count : ℕ} {scratch room answer m used : List ℕ}
    → LayoutCall text rows table nodes count scratch room answer m used
    → (answer ≡ laid_words (layout_told text rows (table_of table) nodes count (length room)))
    × ((m ≡ layout_leaves text rows (table_of table) nodes count room) × (used ≡ scratch_leaves text rows (table_of table) scratch))
layout_says (laid_out κs a r e p) = p

pub edit_says : {old table : List ℕ} {a b n start : ℕ} {window lent answer new : List ℕ}
    → EditCall old table a b n start window lent answer new
    → (answer ≡ told_words (edit_told old (table_of table) a b n start window (room_of lent)))
    × (new ≡ edit_leaves old (table_of table) a b n start window lent)
edit_says (edited κs a r e p) = p

pub change_says : {old table : List ℕ} {a b n : ℕ} {text lent answer new : List ℕ} → ChangeCall old table a b n text lent answer new
    → (answer ≡ told_words (change_told old (table_of table) a b n text (room_of lent)))
    × (new ≡ change_leaves old (table_of table) a b n text lent)
change_says (changed κs a r e p) = p

pub restart_says : {old table : List ℕ} {a : ℕ} {answer : List ℕ} → RestartCall old table a answer
    → answer ≡ restart_words (restart_told old (table_of table) a)
restart_says (placed κs a r e p) = p

pub allows_says : {kind method : ℕ} {answer : List ℕ} → AllowsCall kind method answer → answer ≡ asked_words (member_asked kind method)
allows_says (asked κs a r e p) = p

pub size_says : {kind : ℕ} {answer : List ℕ} → SetSizeCall kind answer → answer ≡ asked_words (size_asked kind)
size_says (sized κs a r e p) = p

pub section_says : {text : List ℕ} {r : ℕ} → SectionKindCall text r → r ≡ from_section text
section_says (named κs a r e p) = p

pub store_says : {rows table lent answer m : List ℕ} → StoreCall rows table lent answer m
    → (answer ≡ stored_words (store_told rows (table_of table) (length lent))) × (m ≡ store_leaves rows (table_of table) lent)
store_says (stored κs a r e p) = p

pub load_says : {file lent answer rows : List ℕ} → LoadCall file lent answer rows
    → (answer ≡ loaded_words (load_told file (room_of lent))) × (rows ≡ load_leaves file lent)
load_says (loaded κs a r e p) = p

pub beside_says : {text file lent answer rows : List ℕ} → LoadBesideCall text file lent answer rows
    → (answer ≡ beside_words (beside_told text file (room_of lent))) × (rows ≡ beside_leaves text file lent)
beside_says (loaded_beside κs a r e p) = p

pub move_says : {text file : List ℕ} {form : ℕ} {lent answer m : List ℕ} → MoveCall text file form lent answer m
    → (answer ≡ moved_words (move_told text file form (length lent))) × (m ≡ move_leaves text file form lent)
move_says (moved κs a r e p) = p

pub mend_says : {text : List ℕ} {form : ℕ} {memory : List ℕ} {n : ℕ} {list answer m blocks : List ℕ}
    → MendCall text form memory n list answer m blocks
    → (answer ≡ mended_words (mend_told text form memory n list))
    × ((m ≡ mend_leaves text form memory n list) × (blocks ≡ list_leaves text form memory n list))
mend_says (mended κs a r e p) = p
