use Rattle.flat_laws.proofs.Later.{closed-later}
use Rattle.flat_laws.proofs.Lost.{gone-stays, view-stays-lost, viewport-stays-lost}
use Rattle.flat_laws.proofs.Spent.{gone-is-the-last-answer}
use Rattle.flat_laws.proofs.ends.what_is_over_stays_over.Goals as goal

pub returns-clause-views : goal.returns-clause-views
returns-clause-views c = view-stays-lost

pub returns-clause-viewports : goal.returns-clause-viewports
returns-clause-viewports c = viewport-stays-lost

pub returns-clause-sessions : goal.returns-clause-sessions
returns-clause-sessions c = λ before later s. closed-later s before later

pub returns-clause-gone : goal.returns-clause-gone
returns-clause-gone c = gone-stays

pub returns-clause-last : goal.returns-clause-last
returns-clause-last c = gone-is-the-last-answer
