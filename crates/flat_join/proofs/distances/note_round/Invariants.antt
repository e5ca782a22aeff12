use Rattle.flat_join.specs.Distances.{IsFinding}
use Rattle.flat_join.proofs.distances.note_round.Given as goal

abbrev pub invariant-loop-i : goal.invariant-loop-i
invariant-loop-i l = IsFinding l.setup l.shown l.distance l.i l.distances
