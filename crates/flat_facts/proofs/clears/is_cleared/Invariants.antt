use Rattle.std.proofs.Common.{◌≡◌, drop}
use Rattle.flat_facts.specs.Clears.{is_cleared}
use Rattle.flat_facts.proofs.clears.is_cleared.Given as goal

-- what is left clears it where all does
abbrev pub invariant-loop-call : goal.invariant-loop-call
invariant-loop-call l = is_cleared l.name (drop l.call-index l.calls) ≡ is_cleared l.name l.calls
