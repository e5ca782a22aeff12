use Rattle.std.proofs.Common.{◌≡◌}
use Rattle.flat_lock.specs.Steps.{IsSameSeat}
use Rattle.flat_lock.proofs.steps.draw_served.Given as goal

abbrev pub invariant-loop : goal.invariant-loop
invariant-loop g l = IsSameSeat l.initial.seat l.seat × (l.seat.me ≡ l.initial.seat.me)
