-- a head is named so exactly where its name is this one
use Rattle.program_twins.proofs.Steps.{says_named}
use Rattle.std.proofs.Common.{sym, ◌∙◌}
use Rattle.program_twins.proofs.named_so.Goals as goal

pub returns-then-is_head : goal.returns-then-is_head
returns-then-is_head c =
    says_named c.same.result _ _ _ (sym c.is_head.ensures.value ∙ c.if-is_head.true) c.spelling.ensures c.same.ensures
