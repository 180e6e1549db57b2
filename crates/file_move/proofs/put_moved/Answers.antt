-- A file that has the form is copied, and of any other the blocks of its rows are written, and block 0.
use Rattle.std.proofs.Common.{◌≡◌, List, ℕ, arith, ap, sym, ◌∙◌, length}
use Rattle.std.proofs.Math.Seq.{length-take-le}
use borrow.Rule.Slice.PartMut.{put_mid}
use Rattle.laws.proofs.Bounds.{below_from}
use Rattle.rules.specs.declared.Table.{Table}
use Rattle.rules_files.specs.Bytes.{bytes_of}
use Rattle.rules_files.specs.Blocks.{block_bytes, block}
use Rattle.rules_forms.specs.Forms.{rows_beside, table_beside}
use Rattle.rules_forms.specs.Shapes.{number_of, said_in}
use Rattle.file_sizes.proofs.Sizes.{some_length}
use Rattle.file_beside.proofs.Known.{known}
use Rattle.file_move.proofs.Bodies.{blocks_of}
use Rattle.file_move.proofs.Going.{all_words, file_put}
use Rattle.file_move.proofs.Answers.{own_size, own_bytes}
use Rattle.file_move.proofs.put_moved.Goals as goal

pub form_of-requires : goal.form_of-requires
form_of-requires c = (known c.args.file.now c.args.table c.requires.0.holds).long

pub copy-requires : goal.copy-requires
copy-requires c =
    let a = c.args in
    let same = sym c.number.ensures ∙ c.if-number.true ∙ c.number-2.ensures ∙ ap number_of c.form_of.ensures in
    let long = own_size a.file.now a.table c.requires.0.holds a.form same in
    omega (arith, long, c.requires.1)

pub returns-then-number : goal.returns-then-number
returns-then-number c =
    let a = c.args in
    let same = sym c.number.ensures ∙ c.if-number.true ∙ c.number-2.ensures ∙ ap number_of c.form_of.ensures in
    let long = own_size a.file.now a.table c.requires.0.holds a.form same in
    let bytes = below_from 256 a.file.now (λ i. (c.type_inv.file i).fits) in
    let own = own_bytes a.file.now a.table c.requires.0.holds a.form same a.text.now bytes in
    rw (c.copy.ensures, own, long)

pub slice_bounds-put_said-end : goal.slice_bounds-put_said-end
slice_bounds-put_said-end c = omega (arith, c.requires.1, some_length c.args.form c.args.table.count, c.put_blocks-last.auto.moved)

pub returns : goal.returns
unfolding blocks_of table_beside
returns c =
    let a = c.args in
    let front : List ℕ = c.put_said.new.bytes in
    let e = c.put_said.ensures ∙ ap (λ (u : Table). block 0 0 (bytes_of (said_in a.form u))) c.table_beside-beside.ensures in
    let u : Table = table_beside a.text.now a.file.now a.table in
    let ws : List ℕ = rows_beside a.text.now a.file.now in
    ap (λ (m : List ℕ). put_mid 0 block_bytes m front) c.put_blocks-last.ensures.0
    ∙ file_put a.form ws a.moved.now front u (all_words c.requires.0) c.requires.1 e
