-- What the slot holds tells the kind.
use Rattle.std.proofs.Common.{sym, ◌∙◌, arith}
use Rattle.scan_words.proofs.Telling.{other_length, same_bytes_lem, other_bytes}
use Rattle.scan_words.proofs.slots.kind_of.Goals as goal
use Rattle.scan_words.proofs.slots.kind_of.Goals.{else-word-end-via-then-word-end+else-same, else-word-end-via-else-word-end}

pub returns-then-same : goal.returns-then-same
returns-then-same c =
    same_bytes_lem _ _ _ _ c.held-word.result c.requires.0 c.requires.1 c.held-word.ensures (omega (arith, c.if-word-end.true))
    (sym c.same.ensures ∙ c.if-same.true)

pub returns : goal.returns
returns c =
    elim c.else-word-end.branch [
      | else-word-end-via-then-word-end+else-same w ↦
          other_bytes _ _ _ _ c.held-word.result c.requires.0 c.requires.1 c.held-word.ensures (omega (arith, w.if-word-end.true))
          (sym w.same.ensures ∙ w.if-same.false)
      | else-word-end-via-else-word-end w ↦
          other_length _ _ _ _ c.held-word.result c.requires.0 c.requires.1 c.held-word.ensures (λ e. w.if-word-end.false (omega arith))
    ]
