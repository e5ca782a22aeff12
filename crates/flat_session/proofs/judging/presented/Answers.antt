use Rattle.std.proofs.Common.{◌≡◌, true, false, sym, ◌∙◌, subst, Some}
use Rattle.std.specs.Arc.{arc_value}
use Rattle.flat_base.specs.declared.errors.Reason.{Reason}
use Rattle.flat_scene.specs.declared.script.SessionLine.TheVariants as line
use Rattle.flat_draft.specs.declared.fault.DraftFault.{DraftFault}
use Rattle.flat_draft.specs.declared.fault.DraftFault.TheVariants.{Closed, Memory}
use Rattle.flat_draft.specs.Answers.{IsRefused}
use Rattle.flat_session.specs.declared.requested_entry.RequestedEntry.TheVariants as made
use Rattle.flat_session.specs.Reads.{Tells}
use Rattle.flat_session.proofs.lemmas.Tellings.{present_closes, present_kind, present_leaves}
use Rattle.flat_session.proofs.judging.presented.Goals as goal

pub unreachable-requires : goal.unreachable-requires
unreachable-requires c =
    let s = c.requires.stands in
    let P : DraftFault → Type 0 = λ e. IsRefused s.1.0 c.args.args c.args.draft.now c.present.new.self e in
    let answer : P Closed = subst P c.in-Err-Closed.field-0-is (c.in-Err-Closed.ensures.answered s.0 s.1.0 s.1.1) in
    let both : true ≡ false = sym answer.0 ∙ c.requires.opened in
    cc

pub returns-in-Ok-clause-tells : goal.returns-in-Ok-clause-tells
returns-in-Ok-clause-tells c = λ setup s before stands played. record {
  kind = present_kind setup s before c.args.draft.now c.present.new.self c.args.args (arc_value c.in-Ok.snapshot)
      (c.in-Ok.ensures.answered setup before stands);
  leaves = present_leaves setup s before c.args.draft.now c.present.new.self c.args.args (arc_value c.in-Ok.snapshot)
      (c.in-Ok.ensures.answered setup before stands) played stands;
}

pub returns-in-Err-Bad-clause-tells : goal.returns-in-Err-Bad-clause-tells
returns-in-Err-Bad-clause-tells c = λ setup s before stands played.
    let P : DraftFault → Type 0 = λ e. IsRefused before c.args.args c.args.draft.now c.present.new.self e in
    let R : Reason → Type 0 = λ reason. Tells setup s before (line.Present c.args.args) c.present.new.self (Some (made.Close (Some reason))) in
    subst R (sym c.in-Err-Bad.reason-is) (present_closes setup s before c.args.args c.in-Err-Bad.reason c.present.new.self
    ((subst P c.in-Err-Bad.field-0-is (c.in-Err-Bad.ensures.answered setup before stands)).1))

pub returns-in-Err-Memory-clause-same : goal.returns-in-Err-Memory-clause-same
returns-in-Err-Memory-clause-same c =
    let s = c.requires.stands in
    let P : DraftFault → Type 0 = λ e. IsRefused s.1.0 c.args.args c.args.draft.now c.present.new.self e in
    let answer : P Memory = subst P c.in-Err-Memory.field-0-is (c.in-Err-Memory.ensures.answered s.0 s.1.0 s.1.1) in
    answer.1
