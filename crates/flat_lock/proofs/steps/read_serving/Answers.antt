use Rattle.std.proofs.Common.{rules}
use Rattle.flat_lock.proofs.Kept.{looks}
use Rattle.flat_lock.proofs.steps.read_serving.Goals as goal

pub load-requires : goal.load-requires
load-requires g c = (search rules, search rules, looks _ _ _ _ _ _ _ c.requires.waiting.2)
