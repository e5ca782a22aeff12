use Rattle.flat_graph.specs.Reasons.{links_in}
use Rattle.flat_collect.specs.Search.{IsSearch, left, trail}
use Rattle.flat_collect.proofs.cycle.has_cycle.Given as goal

abbrev pub invariant-search : goal.invariant-search
invariant-search l = IsSearch (links_in l.graph) l.root l.marks.items (trail l.key l.path.items)

abbrev pub decreases-search : goal.decreases-search
decreases-search l = left (links_in l.graph) l.marks.items l.path.items
