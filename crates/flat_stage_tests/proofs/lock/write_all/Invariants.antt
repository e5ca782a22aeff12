use Rattle.std.proofs.Common.{◌≡◌, false}
use Rattle.flat_stage_tests.proofs.lock.write_all.Given as goal

abbrev pub invariant-loop-number : goal.invariant-loop-number
invariant-loop-number g l = (l.seat.lock ≡ l.lock) × (l.seat.has_turn ≡ false)
