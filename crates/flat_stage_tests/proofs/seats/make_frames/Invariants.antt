use Rattle.std.proofs.Common.{◌≡◌, ◌-◌, false}
use Rattle.flat_stage_tests.specs.Room.{MayBegin}
use Rattle.flat_stage_tests.proofs.seats.make_frames.Given as goal

abbrev pub invariant-loop-k : goal.invariant-loop-k
invariant-loop-k g l = (l.compositor.display.stage ≡ l.stage) × (l.compositor.is_open ≡ false) × MayBegin (10 - l.k) l.k l.compositor.display
