use Rattle.flat_facts.proofs.lemmas.Ratios.{ratio-is}
use Rattle.flat_facts.proofs.laws.ratios_are_allowed.Goals as goal

pub returns : goal.returns
returns c = ratio-is
