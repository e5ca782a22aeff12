use Rattle.std.proofs.Common.{◌≡◌, replicate}
use Rattle.flat_judge.proofs.opening.first_places.Given as goal

abbrev pub invariant-loop : goal.invariant-loop
invariant-loop l = l.places ≡ replicate l.counter 0
