use Rattle.std.proofs.Common.{◌≤◌}
use Rattle.flat_stage_tests.proofs.probes.publish_all.Given as goal

abbrev pub invariant-loop-before : goal.invariant-loop-before
invariant-loop-before g l = l.published.given ≤ l.before
