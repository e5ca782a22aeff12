use Rattle.flat_rules.proofs.FramesLocal.{credits-are-local}
use Rattle.flat_rules.proofs.laws.credits_are_local.Goals as goal

pub returns : goal.returns
returns c = credits-are-local
