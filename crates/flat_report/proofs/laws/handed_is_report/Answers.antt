use Rattle.flat_report.proofs.Written.{handed-is-report}
use Rattle.flat_report.proofs.laws.handed_is_report.Goals as goal

pub returns : goal.returns
returns c = handed-is-report
