use Rattle.flat_judge.proofs.Seats.{SeatsTo}
use Rattle.flat_judge.proofs.opening.new_seats.Given as goal

abbrev pub invariant-loop-before : goal.invariant-loop-before
invariant-loop-before l = SeatsTo l.script l.before l.seats.items
