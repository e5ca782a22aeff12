-- One call more.
use Rattle.std.proofs.Common.{◌≡◌, refl, sym, ◌∙◌, ap, subst, Bool, true, false, List, [], ◌∷◌, ◌++◌, Result, Ok, Err}
use Rattle.flat_base.specs.declared.errors.Reason.{Reason}
use Rattle.flat_scene.specs.declared.calls.Call.{Call}
use Rattle.flat_scene.specs.declared.setup.Setup.{Setup}
use Rattle.flat_scene.specs.Draft.{Draft, empty_draft}
use Rattle.flat_scene.specs.Effect.{after_call, after_calls, draft_of, effect, unless}
use Rattle.flat_scene.specs.Misuse.{misuse}
use Rattle.flat_draft.specs.declared.fault.DraftFault.TheVariants.{Bad, Closed, Memory}
use Rattle.flat_draft.specs.Laws.{AnswersFollow, CallsFollow}
use Rattle.flat_draft.specs.Stands.{IsAfter}
use Rattle.flat_draft.specs.State.{DraftState}

after-more : (setup : Setup) (start : Result Draft Reason) (calls : List Call) (call : Call)
    → after_calls setup start (calls ++ call ∷ []) ≡ after_call setup (after_calls setup start calls) call
after-more setup start [] call = refl
after-more setup start (first ∷ calls) call = after-more setup (after_call setup start first) calls call

pub calls_follow : CallsFollow
calls_follow setup calls draft call made =
    let more : draft_of setup (calls ++ call ∷ []) ≡ unless (misuse setup draft call) (effect draft call) =
    after-more setup (Ok empty_draft) calls call ∙ ap (λ (start : Result Draft Reason). after_call setup start call) made in
    record {
      done = λ none. more ∙ rw none refl;
      misused = λ reason some. more ∙ rw some refl;
    }

pub answers_follow : AnswersFollow
answers_follow setup calls call old new (Ok done) after answer =
    let a = answer after.draft after.stands in
    record { draft = effect after.draft call; made = (calls_follow setup calls after.draft call after.made).done a.1; stands = a.2; still_open = a.3 }
answers_follow setup calls call old new (Err (Bad reason)) after answer =
    let a = answer after.draft after.stands in
    ((calls_follow setup calls after.draft call after.made).misused reason a.1, ap (λ (state : DraftState). state.closed) a.2)
answers_follow setup calls call old new (Err Closed) after answer =
    let a = answer after.draft after.stands in
    let no : ◌≡◌ {A = Bool} false true = sym after.still_open ∙ a.0 in
    absurd (cc)
answers_follow setup calls call old new (Err Memory) after answer = let a =
    answer after.draft after.stands in subst (λ (state : DraftState). IsAfter setup calls state) (sym a.3) after
