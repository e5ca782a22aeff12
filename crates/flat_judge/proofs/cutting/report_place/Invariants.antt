use Rattle.std.proofs.Common.{◌+◌, ◌≤◌, length}
use Rattle.flat_judge.proofs.LineCuts.{Reached}
use Rattle.flat_judge.proofs.cutting.report_place.Given as goal

abbrev pub invariant-loop : goal.invariant-loop
invariant-loop l = Reached l.text l.rest × (length l.rest + l.counter ≤ length l.text)
