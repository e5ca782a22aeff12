use Rattle.std.proofs.Common.{◌≡◌, ◌-◌}
use Rattle.flat_stage_tests.specs.Room.{MayRead}
use Rattle.flat_stage_tests.proofs.seats.read_each.Given as goal

abbrev pub invariant-loop-k : goal.invariant-loop-k
invariant-loop-k g l = (l.seat.stage ≡ l.stage) × MayRead (100 - l.k) l.seat
