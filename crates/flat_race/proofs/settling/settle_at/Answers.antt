use Rattle.std.proofs.Common.{◌≡◌, ◌≤◌, slice_set, Some, sym, ap, ◌∙◌, arith}
use Rattle.flat_report.specs.declared.probes.ProbeAnswer.{ProbeAnswer}
use Rattle.flat_race.proofs.Settled.{set-same, stands}
use Rattle.std.proofs.lemmas.Result.{IfOk-from_err}
use Rattle.flat_race.proofs.settling.settle_at.Goals as goal

pub returns-then-answer-last-clause-answers : goal.returns-then-answer-last-clause-answers
returns-then-answer-last-clause-answers c answer at =
    let found : Some answer ≡ Some c.at-answer.result.now = sym at ∙ c.at-answer.ensures in
    let same : answer ≡ c.at-answer.result.now = cc in
    let low : answer.frame.0 ≤ c.args.last.now.frame.0 = omega (arith, c.if-answer-last.true, ap (λ (a : ProbeAnswer). a.frame.0) same) in
    sym (ap (slice_set c.args.answers.now c.args.place) (stands _ _ answer low) ∙ set-same c.args.place c.args.answers.now answer at)

pub answer-requires-clause-setup : goal.answer-requires-clause-setup
answer-requires-clause-setup c = c.requires.setup

pub answer-requires-clause-is : goal.answer-requires-clause-is
answer-requires-clause-is c = c.requires.is

pub returns-in_err-answer-clause-answers : goal.returns-in_err-answer-clause-answers
returns-in_err-answer-clause-answers c = λ answer at. IfOk-from_err _ _ c.from_residual.ensures.0

pub returns-in_err-answer-clause-stays : goal.returns-in_err-answer-clause-stays
returns-in_err-answer-clause-stays c = IfOk-from_err _ _ c.from_residual.ensures.0

pub returns-clause-stays : goal.returns-clause-stays
returns-clause-stays c = c.in_ok-answer.ensures.stays
