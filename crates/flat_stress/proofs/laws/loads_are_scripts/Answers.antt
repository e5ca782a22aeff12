use Rattle.flat_stress.proofs.LoadLemmas.{loads_are_scripts}
use Rattle.flat_stress.proofs.laws.loads_are_scripts.Goals as goal

pub returns : goal.returns
returns c = loads_are_scripts
