use Rattle.std.proofs.Common.{take}
use Rattle.flat_collect.specs.Marking.{Adds}
use Rattle.flat_collect.proofs.reached_nodes.ReachedNodes.add_all.Given as goal

abbrev pub invariant-loop-key : goal.invariant-loop-key
invariant-loop-key l = Adds (take l.key-index l.keys) l.initial.self l.self
