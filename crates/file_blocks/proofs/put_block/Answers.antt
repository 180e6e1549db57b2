use Rattle.std.proofs.Common.{ℕ, ◌*◌, List, length, arith, ap, ◌∙◌}
use Rattle.rules_files.specs.Bytes.{bytes_of}
use Rattle.rules_files.specs.Blocks.{block, content_of}
use Rattle.theory_files.proofs.Numbers.{bytes_length}
use Rattle.file_blocks.proofs.Laws.{content_put}
use Rattle.file_blocks.proofs.put_block.Goals as goal

pub returns : goal.returns
returns c =
    let b = c.args.bytes.now in
    let ws = c.args.words.now in
    let size : ℕ = 4 * length ws in
    c.seal.ensures ∙ ap (λ (x : List ℕ). block c.args.k c.args.n x)
    (ap (content_of size) c.put_words.ensures ∙ content_put b (bytes_of ws) size (bytes_length ws) (omega (arith, c.requires)))
