use Rattle.flat_collect.proofs.lemmas.Swept.{swept_stands}
use Rattle.flat_collect.proofs.laws.sweep_laws.Goals as goal

pub returns : goal.returns
returns c = swept_stands
