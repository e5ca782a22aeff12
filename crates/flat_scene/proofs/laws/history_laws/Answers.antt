use Rattle.flat_scene.proofs.lemmas.FamilyLeast.{family-is-least}
use Rattle.flat_scene.proofs.lemmas.TakingLemmas.{ready-longest, takes-in-order, others-squashed}
use Rattle.flat_scene.proofs.laws.history_laws.Goals as goal

pub returns-clause-taken_stays : goal.returns-clause-taken_stays
returns-clause-taken_stays c = takes-in-order

pub returns-clause-ready_prefix_is_longest : goal.returns-clause-ready_prefix_is_longest
returns-clause-ready_prefix_is_longest c = ready-longest

pub returns-clause-others_are_squashed : goal.returns-clause-others_are_squashed
returns-clause-others_are_squashed c = others-squashed

pub returns-clause-family_is_least : goal.returns-clause-family_is_least
returns-clause-family_is_least c = family-is-least
