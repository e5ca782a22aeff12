use Rattle.flat_run.proofs.Answering.{whole_given}
use Rattle.flat_run.proofs.judging.answer_judged.Goals as goal

pub returns-in_ok-judged_answer-in-Ok-clause-given : goal.returns-in_ok-judged_answer-in-Ok-clause-given
returns-in_ok-judged_answer-in-Ok-clause-given g c = whole_given _ _ _ c.in-Ok.ensures.whole
