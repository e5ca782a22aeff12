use Rattle.flat_report.proofs.WholeReport.{reports-determine}
use Rattle.flat_report.proofs.laws.reports_determine_histories.Goals as goal

pub returns : goal.returns
returns c = reports-determine
