use Rattle.flat_rules.proofs.DeterminedReplies.{replies-are-determined}
use Rattle.flat_rules.proofs.determined.replies_are_determined.Goals as goal

pub returns : goal.returns
returns c = replies-are-determined
