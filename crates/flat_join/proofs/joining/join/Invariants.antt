use Rattle.flat_scene.specs.Setups.{at_ratio}
use Rattle.flat_topology.specs.Place.{placed_nodes}
use Rattle.flat_topology.specs.Connected.{connected_sessions}
use Rattle.flat_join.specs.Walking.{IsOnTheWay, work}
use Rattle.flat_join.proofs.joining.join.Given as goal

abbrev pub invariant-loop-stretch : goal.invariant-loop-stretch
invariant-loop-stretch l = IsOnTheWay l.shown (placed_nodes (at_ratio l.ratio l.setup) l.shown) (connected_sessions (at_ratio l.ratio l.setup) l.shown) l.walk

abbrev pub decreases-loop-stretch : goal.decreases-loop-stretch
decreases-loop-stretch l = work l.shown l.walk.left.items
