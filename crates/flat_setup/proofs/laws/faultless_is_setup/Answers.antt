use Rattle.flat_setup.proofs.FaultLemmas.{faultless-law}
use Rattle.flat_setup.proofs.laws.faultless_is_setup.Goals as goal

pub returns : goal.returns
returns c = faultless-law
