use Rattle.std.proofs.Common.{◌≡◌, ◌-◌, true, List, ◌∷◌, [], ◌++◌, length, slice_get, Some, sym, ap, ◌∙◌, subst}
use Rattle.flat_scene.specs.declared.calls.Call.{Call}
use Rattle.flat_scene.specs.declared.script.SessionLine.TheVariants as line
use Rattle.flat_rules.specs.Owned.{is_played_line}
use Rattle.flat_session.specs.Reads.{Tells}
use Rattle.flat_session.proofs.lemmas.Entering.{last_call}
use Rattle.flat_session.proofs.session_reader.SessionReader.judge_call.Goals as goal

pub returns-in-Ok-clause-tells : goal.returns-in-Ok-clause-tells
returns-in-Ok-clause-tells c = λ setup draft stands played.
    let old : List Call = c.args.self.now.pending in
    let pushed : c.push.new.self ≡ old ++ c.args.call ∷ [] = c.in_ok-push.ensures.ok in
    let there : Some c.at.result.now ≡ Some c.args.call =
    sym c.at.ensures ∙ ap (λ n. slice_get c.push.new.self (n - 1)) c.len-place.ensures ∙ ap (λ xs. slice_get xs (length xs - 1)) pushed
    ∙ last_call old c.args.call in
    let same : c.at.result.now ≡ c.args.call = cc in
    let T : Call → Type 0 = λ call. Tells setup c.args.self.now.session draft (line.Call call) c.called.new.draft c.in-Ok.made in
    let O : Call → Type 0 = λ call. is_played_line setup c.args.self.now.session (line.Call call) ≡ true in
    subst T same (c.in-Ok.ensures.tells setup c.args.self.now.session draft stands (subst O (sym same) played))
