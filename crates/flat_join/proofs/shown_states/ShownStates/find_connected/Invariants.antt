use Rattle.flat_join.specs.Distances.{IsFinding}
use Rattle.flat_join.proofs.shown_states.ShownStates.find_connected.Given as goal

abbrev pub invariant-loop-distance : goal.invariant-loop-distance
invariant-loop-distance l = IsFinding l.setup l.self l.distance 0 l.distances
