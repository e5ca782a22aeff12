use Rattle.std.proofs.Common.{◌-◌}
use Rattle.std.specs.Prelude.{count_by, is_some}
use Rattle.flat_collect.specs.Marking.{IsFinding}
use Rattle.flat_collect.proofs.reached_nodes.ReachedNodes.find.Given as goal

abbrev pub invariant-loop-done : goal.invariant-loop-done
invariant-loop-done l = IsFinding l.graph l.found l.done

abbrev pub decreases-loop-done : goal.decreases-loop-done
decreases-loop-done l = count_by is_some l.graph.nodes - l.done
