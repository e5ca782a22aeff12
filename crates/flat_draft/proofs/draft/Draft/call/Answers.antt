use Rattle.std.proofs.Common.{ap, subst, ◌∙◌, Err}
use Rattle.flat_draft.specs.Answers.{IsTried}
use Rattle.flat_draft.specs.State.{closed}
use Rattle.flat_draft.specs.declared.fault.DraftFault.{DraftFault}
use Rattle.flat_draft.specs.declared.fault.DraftFault.TheVariants.{Bad, Closed, Memory}
use Rattle.flat_draft.proofs.draft.Draft.call.Goals as goal

pub returns-in-Ok-clause-answered : goal.returns-in-Ok-clause-answered
returns-in-Ok-clause-answered c = λ setup draft s. c.in-Ok.ensures.tried setup draft s

pub returns-in-Err-Bad-clause-answered : goal.returns-in-Err-Bad-clause-answered
returns-in-Err-Bad-clause-answered c = λ setup draft s.
    let T : DraftFault → Type 0 = λ e. IsTried setup draft c.args.c.now c.args.self.now c.try_call.new.self (Err e) in
    let a = subst T c.in-Err-Bad.field-0-is (c.in-Err-Bad.ensures.tried setup draft s) in
    rw c.close.ensures.fault (a.0, a.1, c.close.ensures.closed ∙ ap closed a.2)

pub returns-in-Err-Memory-clause-answered : goal.returns-in-Err-Memory-clause-answered
returns-in-Err-Memory-clause-answered c = λ setup draft s.
    let T : DraftFault → Type 0 = λ e. IsTried setup draft c.args.c.now c.args.self.now c.try_call.new.self (Err e) in
    subst T c.in-Err-Memory.field-0-is (c.in-Err-Memory.ensures.tried setup draft s)

pub returns-in-Err-Closed-clause-answered : goal.returns-in-Err-Closed-clause-answered
returns-in-Err-Closed-clause-answered c = λ setup draft s.
    let T : DraftFault → Type 0 = λ e. IsTried setup draft c.args.c.now c.args.self.now c.try_call.new.self (Err e) in
    subst T c.in-Err-Closed.field-0-is (c.in-Err-Closed.ensures.tried setup draft s)
