use Rattle.std.proofs.Common.{◌≡◌, true, false, sym, ◌∙◌, subst, Err, Some}
use Rattle.flat_base.specs.declared.errors.Reason.{Reason}
use Rattle.flat_scene.specs.declared.script.SessionLine.TheVariants as line
use Rattle.flat_draft.specs.declared.fault.DraftFault.{DraftFault}
use Rattle.flat_draft.specs.declared.fault.DraftFault.TheVariants.{Closed, Memory}
use Rattle.flat_draft.specs.Answers.{IsWatched}
use Rattle.flat_session.specs.declared.requested_entry.RequestedEntry.TheVariants as made
use Rattle.flat_session.specs.Reads.{Tells}
use Rattle.flat_session.proofs.lemmas.Tellings.{get_closes, get_done}
use Rattle.flat_session.proofs.judging.asked.Goals as goal

pub unreachable-requires : goal.unreachable-requires
unreachable-requires c =
    let s = c.requires.stands in
    let P : DraftFault → Type 0 = λ e. IsWatched s.1.0 c.args.get c.args.draft.now c.get.new.self (Err e) in
    let answer : P Memory = subst P c.in-Err-Memory.field-0-is (c.in-Err-Memory.ensures.answered s.0 s.1.0 s.1.1) in
    answer

pub unreachable-requires-in-Err-Closed : goal.unreachable-requires-in-Err-Closed
unreachable-requires-in-Err-Closed c =
    let s = c.requires.stands in
    let P : DraftFault → Type 0 = λ e. IsWatched s.1.0 c.args.get c.args.draft.now c.get.new.self (Err e) in
    let answer : P Closed = subst P c.in-Err-Closed.field-0-is (c.in-Err-Closed.ensures.answered s.0 s.1.0 s.1.1) in
    let both : true ≡ false = sym answer.0 ∙ c.requires.opened in
    cc

pub returns-in-Ok : goal.returns-in-Ok
returns-in-Ok c = λ setup s before stands.
    get_done setup s before c.args.draft.now c.get.new.self c.args.get c.in-Ok.pair (c.in-Ok.ensures.answered setup before stands) stands

pub returns-in-Err-Bad : goal.returns-in-Err-Bad
returns-in-Err-Bad c = λ setup s before stands.
    let P : DraftFault → Type 0 = λ e. IsWatched before c.args.get c.args.draft.now c.get.new.self (Err e) in
    let R : Reason → Type 0 = λ reason. Tells setup s before (line.Get c.args.get) c.get.new.self (Some (made.Close (Some reason))) in
    subst R (sym c.in-Err-Bad.reason-is) (get_closes setup s before c.args.get c.in-Err-Bad.reason c.get.new.self
    ((subst P c.in-Err-Bad.field-0-is (c.in-Err-Bad.ensures.answered setup before stands)).1))
