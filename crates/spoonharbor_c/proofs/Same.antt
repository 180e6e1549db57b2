-- Each export is the outer face's call: what it is asked (`Pre`) and what it tells and leaves (`Post`) are the same, as the checker makes them of both contracts. So
-- what is proved of a call of the face, in `spoonharbor` and `theory_outer`, is proved of what C calls.
use mathlib.Core.Path.{◌≡◌, refl}
use Rattle.spoonharbor.proofs.spoonharbor_version.Reads as of_version
use Rattle.spoonharbor.proofs.spoonharbor_scan.Reads as of_scan
use Rattle.spoonharbor.proofs.spoonharbor_well_formed.Reads as of_well_formed
use Rattle.spoonharbor.proofs.spoonharbor_spelling.Reads as of_spelling
use Rattle.spoonharbor.proofs.spoonharbor_parse.Reads as of_parse
use Rattle.spoonharbor.proofs.spoonharbor_edit.Reads as of_edit
use Rattle.spoonharbor.proofs.spoonharbor_restart.Reads as of_restart
use Rattle.spoonharbor.proofs.spoonharbor_allows.Reads as of_allows
use Rattle.spoonharbor.proofs.spoonharbor_set_size.Reads as of_set_size
use Rattle.spoonharbor.proofs.spoonharbor_section_kind.Reads as of_section_kind
use Rattle.spoonharbor.proofs.spoonharbor_store.Reads as of_store
use Rattle.spoonharbor.proofs.spoonharbor_load.Reads as of_load
use Rattle.spoonharbor.proofs.spoonharbor_load_beside.Reads as of_load_beside
use Rattle.spoonharbor.proofs.spoonharbor_move.Reads as of_move
use Rattle.spoonharbor.proofs.spoonharbor_mend.Reads as of_mend
use Rattle.spoonharbor.proofs.change.spoonharbor_change.Reads as of_change
use Rattle.spoonharbor.proofs.layouts.spoonharbor_layout.Reads as of_layout
use Rattle.spoonharbor.proofs.figures.spoonharbor_tally.Reads as of_tally
use Rattle.spoonharbor.proofs.figures.spoonharbor_join.Reads as of_join
use Rattle.spoonharbor_c.proofs.spoonharbor_version.Reads as exported_version
use Rattle.spoonharbor_c.proofs.spoonharbor_scan.Reads as exported_scan
use Rattle.spoonharbor_c.proofs.spoonharbor_well_formed.Reads as exported_well_formed
use Rattle.spoonharbor_c.proofs.spoonharbor_spelling.Reads as exported_spelling
use Rattle.spoonharbor_c.proofs.spoonharbor_parse.Reads as exported_parse
use Rattle.spoonharbor_c.proofs.spoonharbor_edit.Reads as exported_edit
use Rattle.spoonharbor_c.proofs.spoonharbor_restart.Reads as exported_restart
use Rattle.spoonharbor_c.proofs.spoonharbor_allows.Reads as exported_allows
use Rattle.spoonharbor_c.proofs.spoonharbor_set_size.Reads as exported_set_size
use Rattle.spoonharbor_c.proofs.spoonharbor_section_kind.Reads as exported_section_kind
use Rattle.spoonharbor_c.proofs.spoonharbor_store.Reads as exported_store
use Rattle.spoonharbor_c.proofs.spoonharbor_load.Reads as exported_load
use Rattle.spoonharbor_c.proofs.spoonharbor_load_beside.Reads as exported_load_beside
use Rattle.spoonharbor_c.proofs.spoonharbor_move.Reads as exported_move
use Rattle.spoonharbor_c.proofs.spoonharbor_mend.Reads as exported_mend
use Rattle.spoonharbor_c.proofs.spoonharbor_change.Reads as exported_change
use Rattle.spoonharbor_c.proofs.spoonharbor_layout.Reads as exported_layout
use Rattle.spoonharbor_c.proofs.spoonharbor_tally.Reads as exported_tally
use Rattle.spoonharbor_c.proofs.spoonharbor_join.Reads as exported_join

pub same_version_asked : exported_version.Pre ≡ of_version.Pre
same_version_asked = refl

pub same_version : exported_version.Post ≡ of_version.Post
same_version = refl

pub same_scan_asked : exported_scan.Pre ≡ of_scan.Pre
same_scan_asked = refl

pub same_scan : exported_scan.Post ≡ of_scan.Post
same_scan = refl

pub same_well_formed_asked : exported_well_formed.Pre ≡ of_well_formed.Pre
same_well_formed_asked = refl

pub same_well_formed : exported_well_formed.Post ≡ of_well_formed.Post
same_well_formed = refl

pub same_spelling_asked : exported_spelling.Pre ≡ of_spelling.Pre
same_spelling_asked = refl

pub same_spelling : exported_spelling.Post ≡ of_spelling.Post
same_spelling = refl

pub same_parse_asked : exported_parse.Pre ≡ of_parse.Pre
same_parse_asked = refl

pub same_parse : exported_parse.Post ≡ of_parse.Post
same_parse = refl

pub same_edit_asked : exported_edit.Pre ≡ of_edit.Pre
same_edit_asked = refl

pub same_edit : exported_edit.Post ≡ of_edit.Post
same_edit = refl

pub same_restart_asked : exported_restart.Pre ≡ of_restart.Pre
same_restart_asked = refl

pub same_restart : exported_restart.Post ≡ of_restart.Post
same_restart = refl

pub same_allows_asked : exported_allows.Pre ≡ of_allows.Pre
same_allows_asked = refl

pub same_allows : exported_allows.Post ≡ of_allows.Post
same_allows = refl

pub same_set_size_asked : exported_set_size.Pre ≡ of_set_size.Pre
same_set_size_asked = refl

pub same_set_size : exported_set_size.Post ≡ of_set_size.Post
same_set_size = refl

pub same_section_kind_asked : exported_section_kind.Pre ≡ of_section_kind.Pre
same_section_kind_asked = refl

pub same_section_kind : exported_section_kind.Post ≡ of_section_kind.Post
same_section_kind = refl

pub same_store_asked : exported_store.Pre ≡ of_store.Pre
same_store_asked = refl

pub same_store : exported_store.Post ≡ of_store.Post
same_store = refl

pub same_load_asked : exported_load.Pre ≡ of_load.Pre
same_load_asked = refl

pub same_load : exported_load.Post ≡ of_load.Post
same_load = refl

pub same_load_beside_asked : exported_load_beside.Pre ≡ of_load_beside.Pre
same_load_beside_asked = refl

pub same_load_beside : exported_load_beside.Post ≡ of_load_beside.Post
same_load_beside = refl

pub same_move_asked : exported_move.Pre ≡ of_move.Pre
same_move_asked = refl

pub same_move : exported_move.Post ≡ of_move.Post
same_move = refl

pub same_mend_asked : exported_mend.Pre ≡ of_mend.Pre
same_mend_asked = refl

pub same_mend : exported_mend.Post ≡ of_mend.Post
same_mend = refl

pub same_change_asked : exported_change.Pre ≡ of_change.Pre
same_change_asked = refl

pub same_change : exported_change.Post ≡ of_change.Post
same_change = refl

pub same_layout_asked : exported_layout.Pre ≡ of_layout.Pre
same_layout_asked = refl

pub same_layout : exported_layout.Post ≡ of_layout.Post
same_layout = refl

pub same_tally_asked : exported_tally.Pre ≡ of_tally.Pre
same_tally_asked = refl

pub same_tally : exported_tally.Post ≡ of_tally.Post
same_tally = refl

pub same_join_asked : exported_join.Pre ≡ of_join.Pre
same_join_asked = refl

pub same_join : exported_join.Post ≡ of_join.Post
same_join = refl
