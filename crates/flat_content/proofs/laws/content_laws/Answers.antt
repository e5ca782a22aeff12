use Rattle.flat_content.proofs.lemmas.Standing.{content_calls_stand}
use Rattle.flat_content.proofs.lemmas.Others.{other_calls_stand}
use Rattle.flat_content.proofs.Sides.{sides_are_declared}
use Rattle.flat_content.proofs.laws.content_laws.Goals as goal

pub returns-clause-content_calls_stand : goal.returns-clause-content_calls_stand
returns-clause-content_calls_stand c = content_calls_stand

pub returns-clause-sides_are_declared : goal.returns-clause-sides_are_declared
returns-clause-sides_are_declared c = sides_are_declared

pub returns-clause-other_calls_stand : goal.returns-clause-other_calls_stand
returns-clause-other_calls_stand c = other_calls_stand
