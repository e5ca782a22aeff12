use Rattle.std.proofs.Common.{◌≡◌, ◌-◌, ◌∙◌, true, false, List, ◌∷◌, [], ◌++◌, length, slice_get, refl, sym, ap, subst, Err, Some, Ok}
use Rattle.flat_scene.specs.declared.calls.Call.{Call}
use Rattle.flat_scene.specs.declared.script.SessionLine.TheVariants as line
use Rattle.flat_draft.specs.Answers.{IsTried}
use Rattle.flat_draft.specs.declared.fault.DraftFault.{DraftFault}
use Rattle.flat_session.proofs.Editing.{last_is, misuse_enters, private_done, same_reader, taken_back}
use Rattle.flat_session.proofs.lemmas.Entering.{last_call}
use Rattle.flat_session.proofs.session_reader.SessionReader.edit_call.Goals as goal

pub returns-in-Ok-clause-edits : goal.returns-in-Ok-clause-edits
returns-in-Ok-clause-edits c = λ setup draft stands played.
    let old : List Call = c.args.self.now.pending in
    let pushed : c.push.new.self ≡ old ++ c.args.call ∷ [] = c.in_ok-push.ensures.ok in
    let there : Some c.at.result.now ≡ Some c.args.call =
    sym c.at.ensures ∙ ap (λ n. slice_get c.push.new.self (n - 1)) c.len-place.ensures ∙ ap (λ xs. slice_get xs (length xs - 1)) pushed
    ∙ last_call old c.args.call in
    let same : c.at.result.now ≡ c.args.call = cc in
    let T : Call → Type 0 = λ call. IsTried setup draft call c.args.self.now.draft c.try_call.new.self (Ok tt) in
    let tried = subst T same (c.in-Ok.ensures.tried setup draft stands) in (
      refl,
      ap (λ p. record c.args.self.now { draft = c.try_call.new.self; pending = p }) pushed,
      private_done setup c.args.self.now.session draft c.args.self.now.draft c.try_call.new.self c.args.call
          (sym c.uses_an_end.ensures ∙ c.if-uses_an_end.false) played tried,
    )

pub returns-in-Err-Bad-clause-edits : goal.returns-in-Err-Bad-clause-edits
returns-in-Err-Bad-clause-edits c = λ setup draft stands played.
    let old : List Call = c.args.self.now.pending in
    let pushed : c.push.new.self ≡ old ++ c.args.call ∷ [] = c.in_ok-push.ensures.ok in
    let there : Some c.at.result.now ≡ Some c.args.call =
    sym c.at.ensures ∙ ap (λ n. slice_get c.push.new.self (n - 1)) c.len-place.ensures ∙ ap (λ xs. slice_get xs (length xs - 1)) pushed
    ∙ last_call old c.args.call in
    let same : c.at.result.now ≡ c.args.call = cc in
    let T : Call → Type 0 = λ call. IsTried setup draft call c.args.self.now.draft c.try_call.new.self (Err c.in-Err-Bad.field-0) in
    let F : DraftFault → Type 0 = λ e. IsTried setup draft c.args.call c.args.self.now.draft c.try_call.new.self (Err e) in
    let tried = subst F c.in-Err-Bad.field-0-is (subst T same (c.in-Err-Bad.ensures.tried setup draft stands)) in (
      ap line.Call (last_is old c.push.new.self c.args.call pushed c.take_last.result c.take_last.ensures.last),
      same_reader c.args.self.now c.take_last.new.pending c.try_call.new.self
          (taken_back old c.push.new.self c.args.call pushed c.take_last.new.pending c.take_last.ensures.rest) tried.2,
      misuse_enters setup draft c.args.call c.in-Err-Bad.field-0-0 tried.1,
    )

pub returns-in-Err-Memory-clause-same : goal.returns-in-Err-Memory-clause-same
returns-in-Err-Memory-clause-same c =
    let old : List Call = c.args.self.now.pending in
    let s = c.requires.stands in
    let F : DraftFault → Type 0 = λ e. IsTried s.0 s.1.0 c.at.result.now c.args.self.now.draft c.try_call.new.self (Err e) in
    let tried = subst F c.in-Err-Memory.field-0-is (c.in-Err-Memory.ensures.tried s.0 s.1.0 s.1.1) in
    same_reader c.args.self.now c.pop.new.self c.try_call.new.self
    (taken_back old c.push.new.self c.args.call c.in_ok-push.ensures.ok c.pop.new.self c.pop.ensures.rest) tried.3

pub unreachable-requires : goal.unreachable-requires
unreachable-requires c =
    let s = c.requires.stands in
    let F : DraftFault → Type 0 = λ e. IsTried s.0 s.1.0 c.at.result.now c.args.self.now.draft c.try_call.new.self (Err e) in
    let tried = subst F c.in-Err-Closed.field-0-is (c.in-Err-Closed.ensures.tried s.0 s.1.0 s.1.1) in
    let both : true ≡ false = sym tried.0 ∙ c.requires.opened in
    cc
