use Rattle.std.proofs.Common.{map, take}
use Rattle.flat_collect.specs.Marking.{Adds}
use Rattle.flat_collect.proofs.reached_nodes.ReachedNodes.add_names.Given as goal

abbrev pub invariant-loop-name : goal.invariant-loop-name
invariant-loop-name l = Adds (map (λ name. name.key) (take l.name-index l.names)) l.initial.self l.self
