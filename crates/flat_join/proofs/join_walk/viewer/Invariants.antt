use Rattle.std.proofs.Common.{◌≡◌, ◌-◌, drop}
use Rattle.flat_topology.specs.Join.{viewer_from}
use Rattle.flat_join.proofs.join_walk.viewer.Given as goal

abbrev pub invariant-loop-number : goal.invariant-loop-number
invariant-loop-number l = viewer_from l.number (drop (l.number - 1) l.shown) l.pair ≡ viewer_from 1 l.shown l.pair
