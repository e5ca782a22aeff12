use Rattle.flat_run.proofs.OneRun.{runs-are-one, texts-are-one}
use Rattle.flat_run.proofs.laws.runs_are_one.Goals as goal

pub returns-clause-runs : goal.returns-clause-runs
returns-clause-runs c = runs-are-one c.written_histories_are_one.ensures

pub returns-clause-texts : goal.returns-clause-texts
returns-clause-texts c = texts-are-one c.written_histories_are_one.ensures c.damage_laws.ensures.one
