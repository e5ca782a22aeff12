use Rattle.flat_draft.proofs.lemmas.Following.{answers_follow, calls_follow}
use Rattle.flat_draft.proofs.laws.draft_laws.Goals as goal

pub returns-clause-calls_follow : goal.returns-clause-calls_follow
returns-clause-calls_follow c = calls_follow

pub returns-clause-answers_follow : goal.returns-clause-answers_follow
returns-clause-answers_follow c = answers_follow
