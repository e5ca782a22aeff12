use Rattle.std.specs.Prelude.{◌≡◌}
use Rattle.flat_example.proofs.clients.present_each.Given as goal

abbrev pub invariant-loop-frame : goal.invariant-loop-frame
invariant-loop-frame g l = l.client.seat.stage ≡ l.fn.client.seat.stage
