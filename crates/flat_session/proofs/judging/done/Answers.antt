use Rattle.std.proofs.Common.{◌≡◌, true, false, sym, ◌∙◌, subst, Err, Some, Option}
use Rattle.flat_base.specs.declared.errors.Reason.{Reason}
use Rattle.flat_scene.specs.declared.script.SessionLine.TheVariants as line
use Rattle.flat_draft.specs.declared.fault.DraftFault.{DraftFault}
use Rattle.flat_draft.specs.declared.fault.DraftFault.TheVariants.{Closed, Memory}
use Rattle.flat_draft.specs.Answers.{IsAnswer}
use Rattle.flat_session.specs.declared.requested_entry.RequestedEntry.{RequestedEntry}
use Rattle.flat_session.specs.declared.requested_entry.RequestedEntry.TheVariants as made
use Rattle.flat_session.specs.Reads.{Tells}
use Rattle.flat_session.proofs.lemmas.Tellings.{call_closes, call_done}
use Rattle.flat_session.proofs.judging.done.Goals as goal

pub unreachable-requires : goal.unreachable-requires
unreachable-requires c =
    let s = c.requires.stands in
    let P : DraftFault → Type 0 = λ e. IsAnswer s.0 s.1.0 c.args.call.now c.args.draft.now c.call.new.self (Err e) in
    let answer : P Closed = subst P c.in-Err-Closed.field-0-is (c.in-Err-Closed.ensures.answered s.0 s.1.0 s.1.1) in
    let both : true ≡ false = sym answer.0 ∙ c.requires.opened in
    cc

pub returns-in-Ok-clause-tells : goal.returns-in-Ok-clause-tells
returns-in-Ok-clause-tells c = λ setup s before stands played.
    let T : Option RequestedEntry → Type 0 = λ made. Tells setup s before (line.Call c.args.call.now) c.call.new.self made in
    subst T (sym c.view_made-made.ensures) (call_done setup s before c.args.draft.now c.call.new.self c.args.call.now c.requires.other played
    (c.in-Ok.ensures.answered setup before stands))

pub returns-in-Err-Bad-clause-tells : goal.returns-in-Err-Bad-clause-tells
returns-in-Err-Bad-clause-tells c = λ setup s before stands played.
    let P : DraftFault → Type 0 = λ e. IsAnswer setup before c.args.call.now c.args.draft.now c.call.new.self (Err e) in
    let R : Reason → Type 0 = λ reason. Tells setup s before (line.Call c.args.call.now) c.call.new.self (Some (made.Close (Some reason))) in
    subst R (sym c.in-Err-Bad.reason-is) (call_closes setup s before c.args.call.now c.in-Err-Bad.reason c.call.new.self played
    ((subst P c.in-Err-Bad.field-0-is (c.in-Err-Bad.ensures.answered setup before stands)).1))

pub returns-in-Err-Memory-clause-same : goal.returns-in-Err-Memory-clause-same
returns-in-Err-Memory-clause-same c =
    let s = c.requires.stands in
    let P : DraftFault → Type 0 = λ e. IsAnswer s.0 s.1.0 c.args.call.now c.args.draft.now c.call.new.self (Err e) in
    let answer : P Memory = subst P c.in-Err-Memory.field-0-is (c.in-Err-Memory.ensures.answered s.0 s.1.0 s.1.1) in
    answer.3
