use Rattle.std.proofs.Common.{◌<◌, ◌≤◌}
use Rattle.flat_call_tests.proofs.faults.first_spared.Given as goal

abbrev pub invariant-loop-next : goal.invariant-loop-next
invariant-loop-next g l = (1 ≤ l.number) × (l.number < 1000)
