use Rattle.flat_rules.proofs.FamilyTheorem.{families-are-alone}
use Rattle.flat_rules.proofs.laws.families_are_alone.Goals as goal

pub returns : goal.returns
returns c = families-are-alone
