use Rattle.flat_run.proofs.OneHistory.{one-run}
use Rattle.flat_run.proofs.laws.reports_have_one_run.Goals as goal

pub returns-clause-runs : goal.returns-clause-runs
returns-clause-runs c = one-run c.reports_determine_histories.ensures
