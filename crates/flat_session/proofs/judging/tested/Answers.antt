use Rattle.std.proofs.Common.{◌≡◌, true, false, sym, ◌∙◌, subst, Err, Ok, Some}
use Rattle.flat_base.specs.declared.errors.Reason.{Reason}
use Rattle.flat_scene.specs.declared.calls.Call.{Call}
use Rattle.flat_scene.specs.declared.calls.Call.TheVariants.{CreateViewport}
use Rattle.flat_scene.specs.declared.script.SessionLine.TheVariants as line
use Rattle.flat_draft.specs.declared.fault.DraftFault.{DraftFault}
use Rattle.flat_draft.specs.declared.fault.DraftFault.TheVariants.{Closed, Memory}
use Rattle.flat_draft.specs.Answers.{IsReadied}
use Rattle.flat_rules.specs.Owned.{is_played_line}
use Rattle.flat_session.specs.declared.requested_entry.RequestedEntry.TheVariants as made
use Rattle.flat_session.specs.Reads.{Tells}
use Rattle.flat_session.proofs.lemmas.Tellings.{call_closes, viewport_ready}
use Rattle.flat_session.proofs.judging.tested.Goals as goal

pub unreachable-requires : goal.unreachable-requires
unreachable-requires c =
    let s = c.requires.stands in
    let P : DraftFault → Type 0 = λ e. IsReadied s.0 s.1.0 c.args.call.now c.args.draft.now c.ready.new.self (Err e) in
    let answer : P Closed = subst P c.in-Err-Closed.field-0-is (c.in-Err-Closed.ensures.answered s.0 s.1.0 s.1.1) in
    let both : true ≡ false = sym answer.0 ∙ c.requires.opened in
    cc

pub returns-in-Ok-clause-tells : goal.returns-in-Ok-clause-tells
returns-in-Ok-clause-tells c = λ setup s before stands played.
    let props = c.args.props in
    let one : Call = CreateViewport c.args.c c.args.pair props.w props.h props.inset in
    let T : Call → Type 0 = λ call. Tells setup s before (line.Call call) c.ready.new.self (Some (made.Viewport c.args.c c.args.pair props)) in
    let A : Call → Type 0 = λ call. IsReadied setup before call c.args.draft.now c.ready.new.self (Ok tt) in
    let O : Call → Type 0 = λ call. is_played_line setup s (line.Call call) ≡ true in
    subst T (sym c.requires.own) (viewport_ready setup s before c.args.draft.now c.ready.new.self c.args.c c.args.pair props (subst O c.requires.own played)
    (subst A c.requires.own (c.in-Ok.ensures.answered setup before stands)))

pub returns-in-Err-Bad-clause-tells : goal.returns-in-Err-Bad-clause-tells
returns-in-Err-Bad-clause-tells c = λ setup s before stands played.
    let P : DraftFault → Type 0 = λ e. IsReadied setup before c.args.call.now c.args.draft.now c.ready.new.self (Err e) in
    let R : Reason → Type 0 = λ reason. Tells setup s before (line.Call c.args.call.now) c.ready.new.self (Some (made.Close (Some reason))) in
    subst R (sym c.in-Err-Bad.reason-is) (call_closes setup s before c.args.call.now c.in-Err-Bad.reason c.ready.new.self played
    ((subst P c.in-Err-Bad.field-0-is (c.in-Err-Bad.ensures.answered setup before stands)).1))

pub returns-in-Err-Memory-clause-same : goal.returns-in-Err-Memory-clause-same
returns-in-Err-Memory-clause-same c =
    let s = c.requires.stands in
    let P : DraftFault → Type 0 = λ e. IsReadied s.0 s.1.0 c.args.call.now c.args.draft.now c.ready.new.self (Err e) in
    let answer : P Memory = subst P c.in-Err-Memory.field-0-is (c.in-Err-Memory.ensures.answered s.0 s.1.0 s.1.1) in
    answer.3
