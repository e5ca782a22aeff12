use Rattle.std.specs.Prelude.{◌≡◌}
use Rattle.flat_example.proofs.director.direct.Given as goal

abbrev pub invariant-loop-number : goal.invariant-loop-number
invariant-loop-number g l = l.compositor.stage ≡ l.fn.compositor.stage
