use Rattle.std.proofs.Common.{arith}
use Rattle.flat_join.proofs.Walking.{continue-empty}
use Rattle.flat_join.proofs.join_walk.JoinWalk.place.Goals as goal

pub returns-else-s-clause-walk : goal.returns-else-s-clause-walk
returns-else-s-clause-walk c = continue-empty c.args.shown.now c.args.self.now c.args.s c.requires.whole c.requires.is (omega arith)
