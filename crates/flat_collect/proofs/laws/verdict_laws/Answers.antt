use Rattle.flat_collect.proofs.lemmas.Verdicts.{verdict_stands}
use Rattle.flat_collect.proofs.laws.verdict_laws.Goals as goal

pub returns : goal.returns
returns c = verdict_stands
