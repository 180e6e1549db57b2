-- The contract of each call of the outer face asks nothing, and determines what the call gives back, all eight words of its answer, every word lent for rows,
-- nodes or scratch, and every byte lent for a file or a layout. Texts, windows, tables and the rows that are read are lent as `&`, and shared memory cannot change.
use mathlib.Core.Path.{refl}
use Rattle.laws.specs.Tight.{Tight}
use Rattle.laws.proofs.Tight.{alike, ◌▸◌}
use Rattle.spoonharbor.proofs.spoonharbor_scan
use Rattle.spoonharbor.proofs.spoonharbor_well_formed
use Rattle.spoonharbor.proofs.spoonharbor_spelling
use Rattle.spoonharbor.proofs.spoonharbor_parse
use Rattle.spoonharbor.proofs.spoonharbor_edit
use Rattle.spoonharbor.proofs.change.spoonharbor_change
use Rattle.spoonharbor.proofs.layouts.spoonharbor_layout
use Rattle.spoonharbor.proofs.spoonharbor_restart
use Rattle.spoonharbor.proofs.spoonharbor_allows
use Rattle.spoonharbor.proofs.spoonharbor_set_size
use Rattle.spoonharbor.proofs.spoonharbor_section_kind
use Rattle.spoonharbor.proofs.spoonharbor_version
use Rattle.spoonharbor.proofs.spoonharbor_store
use Rattle.spoonharbor.proofs.spoonharbor_load
use Rattle.spoonharbor.proofs.spoonharbor_load_beside
use Rattle.spoonharbor.proofs.spoonharbor_move
use Rattle.spoonharbor.proofs.spoonharbor_mend
use Rattle.spoonharbor.proofs.figures.spoonharbor_tally
use Rattle.spoonharbor.proofs.figures.spoonharbor_join

pub outer_scan_tight : Tight spoonharbor_scan.Kinds.ps spoonharbor_scan.Kinds.r spoonharbor_scan.Reads.Asked spoonharbor_scan.Reads.Learnt
outer_scan_tight κs a = (tt, λ r₁ r₂ m₁ m₂ p q. (refl, refl ▸ alike p.1 q.1 ▸ alike p.0 q.0 ▸ refl))

pub outer_well_formed_tight : Tight spoonharbor_well_formed.Kinds.ps spoonharbor_well_formed.Kinds.r spoonharbor_well_formed.Reads.Asked spoonharbor_well_formed.Reads.Learnt
outer_well_formed_tight κs a = (tt, λ r₁ r₂ m₁ m₂ p q. (alike p q, refl))

pub outer_spelling_tight : Tight spoonharbor_spelling.Kinds.ps spoonharbor_spelling.Kinds.r spoonharbor_spelling.Reads.Asked spoonharbor_spelling.Reads.Learnt
outer_spelling_tight κs a = (tt, λ r₁ r₂ m₁ m₂ p q. (refl, refl ▸ refl ▸ refl ▸ refl ▸ alike p q ▸ refl))

pub outer_parse_tight : Tight spoonharbor_parse.Kinds.ps spoonharbor_parse.Kinds.r spoonharbor_parse.Reads.Asked spoonharbor_parse.Reads.Learnt
outer_parse_tight κs a = (tt, λ r₁ r₂ m₁ m₂ p q. (refl, refl ▸ refl ▸ refl ▸ alike p.1 q.1 ▸ alike p.0 q.0 ▸ refl))

pub outer_edit_tight : Tight spoonharbor_edit.Kinds.ps spoonharbor_edit.Kinds.r spoonharbor_edit.Reads.Asked spoonharbor_edit.Reads.Learnt
outer_edit_tight κs a = (tt, λ r₁ r₂ m₁ m₂ p q. (refl, refl ▸ refl ▸ refl ▸ refl ▸ refl ▸ refl ▸ refl ▸ alike p.1 q.1 ▸ alike p.0 q.0 ▸ refl))

pub outer_change_tight : Tight spoonharbor_change.Kinds.ps spoonharbor_change.Kinds.r spoonharbor_change.Reads.Asked spoonharbor_change.Reads.Learnt
outer_change_tight κs a = (tt, λ r₁ r₂ m₁ m₂ p q. (refl, refl ▸ refl ▸ refl ▸ refl ▸ refl ▸ refl ▸ alike p.1 q.1 ▸ alike p.0 q.0 ▸ refl))

pub outer_restart_tight : Tight spoonharbor_restart.Kinds.ps spoonharbor_restart.Kinds.r spoonharbor_restart.Reads.Asked spoonharbor_restart.Reads.Learnt
outer_restart_tight κs a = (tt, λ r₁ r₂ m₁ m₂ p q. (refl, refl ▸ refl ▸ refl ▸ alike p q ▸ refl))

pub outer_allows_tight : Tight spoonharbor_allows.Kinds.ps spoonharbor_allows.Kinds.r spoonharbor_allows.Reads.Asked spoonharbor_allows.Reads.Learnt
outer_allows_tight κs a = (tt, λ r₁ r₂ m₁ m₂ p q. (refl, refl ▸ refl ▸ alike p q ▸ refl))

pub outer_set_size_tight : Tight spoonharbor_set_size.Kinds.ps spoonharbor_set_size.Kinds.r spoonharbor_set_size.Reads.Asked spoonharbor_set_size.Reads.Learnt
outer_set_size_tight κs a = (tt, λ r₁ r₂ m₁ m₂ p q. (refl, refl ▸ alike p q ▸ refl))

pub outer_section_kind_tight : Tight spoonharbor_section_kind.Kinds.ps spoonharbor_section_kind.Kinds.r spoonharbor_section_kind.Reads.Asked spoonharbor_section_kind.Reads.Learnt
outer_section_kind_tight κs a = (tt, λ r₁ r₂ m₁ m₂ p q. (alike p q, refl))

pub outer_version_tight : Tight spoonharbor_version.Kinds.ps spoonharbor_version.Kinds.r spoonharbor_version.Reads.Asked spoonharbor_version.Reads.Learnt
outer_version_tight κs a = (tt, λ r₁ r₂ m₁ m₂ p q. (alike p q, refl))

pub outer_store_tight : Tight spoonharbor_store.Kinds.ps spoonharbor_store.Kinds.r spoonharbor_store.Reads.Asked spoonharbor_store.Reads.Learnt
outer_store_tight κs a = (tt, λ r₁ r₂ m₁ m₂ p q. (refl, refl ▸ refl ▸ alike p.1 q.1 ▸ alike p.0 q.0 ▸ refl))

pub outer_load_tight : Tight spoonharbor_load.Kinds.ps spoonharbor_load.Kinds.r spoonharbor_load.Reads.Asked spoonharbor_load.Reads.Learnt
outer_load_tight κs a = (tt, λ r₁ r₂ m₁ m₂ p q. (refl, refl ▸ alike p.1 q.1 ▸ alike p.0 q.0 ▸ refl))

pub outer_load_beside_tight :
    Tight spoonharbor_load_beside.Kinds.ps spoonharbor_load_beside.Kinds.r spoonharbor_load_beside.Reads.Asked spoonharbor_load_beside.Reads.Learnt
outer_load_beside_tight κs a = (tt, λ r₁ r₂ m₁ m₂ p q. (refl, refl ▸ refl ▸ alike p.1 q.1 ▸ alike p.0 q.0 ▸ refl))

pub outer_move_tight : Tight spoonharbor_move.Kinds.ps spoonharbor_move.Kinds.r spoonharbor_move.Reads.Asked spoonharbor_move.Reads.Learnt
outer_move_tight κs a = (tt, λ r₁ r₂ m₁ m₂ p q. (refl, refl ▸ refl ▸ refl ▸ alike p.1 q.1 ▸ alike p.0 q.0 ▸ refl))

pub outer_layout_tight : Tight spoonharbor_layout.Kinds.ps spoonharbor_layout.Kinds.r spoonharbor_layout.Reads.Asked spoonharbor_layout.Reads.Learnt
outer_layout_tight κs a =
    (tt, λ r₁ r₂ m₁ m₂ p q. (refl, refl ▸ refl ▸ refl ▸ refl ▸ refl ▸ alike p.1.1 q.1.1 ▸ alike p.1.0 q.1.0 ▸ alike p.0 q.0 ▸ refl))

pub outer_mend_tight : Tight spoonharbor_mend.Kinds.ps spoonharbor_mend.Kinds.r spoonharbor_mend.Reads.Asked spoonharbor_mend.Reads.Learnt
outer_mend_tight κs a =
    (tt, λ r₁ r₂ m₁ m₂ p q. (refl, refl ▸ refl ▸ alike p.1.0 q.1.0 ▸ refl ▸ alike p.1.1 q.1.1 ▸ alike p.0 q.0 ▸ refl))

pub outer_tally_tight : Tight spoonharbor_tally.Kinds.ps spoonharbor_tally.Kinds.r spoonharbor_tally.Reads.Asked spoonharbor_tally.Reads.Learnt
outer_tally_tight κs a = (tt, λ r₁ r₂ m₁ m₂ p q. (alike p.0 q.0, refl ▸ refl ▸ alike p.1 q.1 ▸ refl))

pub outer_join_tight : Tight spoonharbor_join.Kinds.ps spoonharbor_join.Kinds.r spoonharbor_join.Reads.Asked spoonharbor_join.Reads.Learnt
outer_join_tight κs a = (tt, λ r₁ r₂ m₁ m₂ p q. (alike p.0 q.0, refl ▸ refl ▸ alike p.1 q.1 ▸ refl))
