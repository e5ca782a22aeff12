use Rattle.std.proofs.Common.{ap, ◌∙◌, is_some, Option}
use Rattle.flat_why.specs.declared.reasons.CloseReason.{CloseReason}
use Rattle.flat_why.proofs.Waits.{closing-closed}
use Rattle.flat_why.proofs.holds.is_closed.Goals as goal

pub returns : goal.returns
returns c = c.is_some.ensures ∙ ap (λ (o : Option CloseReason). is_some o) (c.requires.closed c.args.s c.requires.declared)
    ∙ closing-closed c.args.s c.args.board.now.history
