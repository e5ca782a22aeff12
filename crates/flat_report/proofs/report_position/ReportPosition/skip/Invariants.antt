use Rattle.flat_report.proofs.Reaching.{Reaches}
use Rattle.flat_report.proofs.report_position.ReportPosition.skip.Given as goal

abbrev pub invariant-loop-entry : goal.invariant-loop-entry
invariant-loop-entry l = Reaches l.fn.self l.entries l.cursor l.entry-index
