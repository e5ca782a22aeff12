use Rattle.flat_run.proofs.Answering.{denied_large}
use Rattle.flat_run.proofs.given.fitting.Goals as goal

pub returns-then-is_too_large_for : goal.returns-then-is_too_large_for
returns-then-is_too_large_for c = λ bytes read.
    denied_large c.args.form bytes c.args.reading read (c.is_too_large_for.ensures.large c.if-is_too_large_for.true) _ _ c.in_ok-answer.ensures.status
    c.in_ok-answer.ensures.text
