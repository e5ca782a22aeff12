use Rattle.flat_scene.specs.Setups.{at_ratio}
use Rattle.flat_play.proofs.Touching.{answers-upto}
use Rattle.flat_play.proofs.touches.answer_upto.Goals as goal

pub returns-clause-answers : goal.returns-clause-answers
returns-clause-answers c =
    answers-upto (at_ratio c.args.last.now.ratio c.args.setup.now) c.args.last.now.reuse _ _ _ _ _ _ c.count_upto.result c.count_upto.ensures
    c.split_at.ensures.front c.split_at.ensures.back c.in_ok-answer_all.ensures.answers
