use Rattle.flat_report.proofs.WrittenOnce.{written-once}
use Rattle.flat_report.proofs.laws.written_histories_are_one.Goals as goal

pub returns : goal.returns
returns c = written-once
