use Rattle.flat_rules.proofs.DeterminedReplies.{neighbours-change-nothing}
use Rattle.flat_rules.proofs.determined.neighbours_change_nothing.Goals as goal

pub returns : goal.returns
returns c = neighbours-change-nothing
