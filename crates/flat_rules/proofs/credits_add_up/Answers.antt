use Rattle.flat_rules.proofs.CreditLemmas.{credits-add-up}
use Rattle.flat_rules.proofs.credits_add_up.Goals as goal

pub returns : goal.returns
returns c = credits-add-up
