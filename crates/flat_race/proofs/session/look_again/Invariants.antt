use Rattle.flat_race.specs.Sessions.{IsSame}
use Rattle.flat_race.proofs.session.look_again.Given as goal

abbrev pub invariant-loop : goal.invariant-loop
invariant-loop g l = IsSame l.fn.seat l.seat
