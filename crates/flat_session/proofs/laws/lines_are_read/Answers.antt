use Rattle.flat_session.proofs.lemmas.Following.{none_is_read, one_more_is_read, ends_are_read}
use Rattle.flat_session.proofs.laws.lines_are_read.Goals as goal

pub returns-clause-none : goal.returns-clause-none
returns-clause-none c = none_is_read

pub returns-clause-more : goal.returns-clause-more
returns-clause-more c = one_more_is_read

pub returns-clause-ends : goal.returns-clause-ends
returns-clause-ends c = ends_are_read
