use Rattle.std.proofs.Common.{drop}
use Rattle.flat_graph.specs.Reasons.{links_in}
use Rattle.flat_collect.specs.Judge.{viewport_in}
use Rattle.flat_collect.specs.Walking.{below}
use Rattle.flat_collect.proofs.lemmas.Walking.{IsWalking}
use Rattle.flat_collect.proofs.walk.+walk.Given as goal

abbrev pub decreases-walk : goal.decreases-walk
decreases-walk l = l.levels

abbrev pub invariant-loop-key : goal.invariant-loop-key
invariant-loop-key l =
    IsWalking (below (links_in l.graph) l.levels l.keys) (below (links_in l.graph) l.levels (drop l.key-index l.keys)) (viewport_in l.graph) l.levels
    l.initial.nodes l.initial.viewports.items l.nodes l.viewports.items
