use Rattle.std.proofs.Common.{◌≡◌}
use Rattle.flat_stage.specs.Seats.{setup_of}
use Rattle.flat_race.specs.Directing.{HasLooked}
use Rattle.flat_race.proofs.pausing.look_again.Given as goal

abbrev pub invariant-loop : goal.invariant-loop
invariant-loop g l = (l.compositor.display.stage ≡ l.context.stage.now) × HasLooked (setup_of l.context.stage.now) l.fn.compositor l.compositor
