use Rattle.flat_rules.proofs.WatchersLocal.{answers-are-local}
use Rattle.flat_rules.proofs.laws.answers_are_local.Goals as goal

pub returns : goal.returns
returns c = answers-are-local
