use Rattle.flat_run.proofs.Replying.{judged_answers, load_answers, load_unmade}
use Rattle.flat_run.proofs.runs.answer_in_order.Goals as goal

pub returns-in-Ok-clause-answers : goal.returns-in-Ok-clause-answers
returns-in-Ok-clause-answers g c = load_answers _ _ _ c.in-Stress.frames _ _ _ c.stress.ensures.kept _ c.in-Stress.is c.in-Ok.answer c.in-Ok.ensures.status
    c.in-Ok.ensures.told

pub returns-in-Err-clause-answers : goal.returns-in-Err-clause-answers
returns-in-Err-clause-answers g c = load_unmade _ _ _ c.in-Stress.frames _ _ _ c.stress.ensures.kept _ c.in-Stress.is

pub returns-in-Judge-clause-answers : goal.returns-in-Judge-clause-answers
returns-in-Judge-clause-answers g c =
    let judged = c.answer_judged.ensures in
    judged_answers _ _ _ _ _ _ _ c.in-Judge.is c.answer_judged.result judged.judged judged.given judged.counts judged.steady judged.fault
