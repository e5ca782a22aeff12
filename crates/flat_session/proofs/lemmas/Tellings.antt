-- What a draft's answers tell of a line.
use Rattle.std.proofs.Common.{◌≡◌, true, false, sym, ap, ◌∙◌, subst, Some, None, Ok, refl, append-nil, List, [], ◌++◌, ◌&&◌, inl, inr}
use Rattle.std.specs.List.{list_all}
use Rattle.flat_base.specs.declared.errors.Reason.{Reason}
use Rattle.flat_base.specs.declared.ids.ContentId.{ContentId}
use Rattle.flat_base.specs.declared.ids.PairNo.{PairNo}
use Rattle.flat_base.specs.declared.ids.SessionNo.{SessionNo}
use Rattle.flat_scene.specs.declared.calls.Call.{Call}
use Rattle.flat_scene.specs.declared.calls.Call.TheVariants.{CreateView, CreateViewport}
use Rattle.flat_scene.specs.declared.calls.PresentArgs.{PresentArgs}
use Rattle.flat_scene.specs.declared.calls.ViewportProps.{ViewportProps}
use Rattle.flat_scene.specs.declared.calls.Watch.{Watch}
use Rattle.flat_scene.specs.declared.journal.EntryKind.TheVariants.{Present, Get}
use Rattle.flat_scene.specs.declared.script.SessionLine.TheVariants as line
use Rattle.flat_scene.specs.declared.setup.Setup.{Setup}
use Rattle.flat_scene.specs.Draft.{Draft}
use Rattle.flat_scene.specs.Interleave.{entry_of_call, entry_of_line, or_close, get_tests}
use Rattle.flat_scene.specs.Misuse.{first_reason, misuse}
use Rattle.flat_scene.specs.Tree.{present_tests, tree}
use Rattle.flat_draft.specs.Answers.{IsAnswer, IsReadied, IsWatched, Presents}
use Rattle.flat_draft.specs.Stands.{StandsFor}
use Rattle.flat_draft.specs.State.{DraftState}
use Rattle.flat_rules.specs.Legal.{owns_fence}
use Rattle.flat_rules.specs.Owned.{is_played_line}
use Rattle.flat_rules.proofs.lemmas.Refusals.{present-refused, get-refused}
use Rattle.flat_scene.specs.declared.trees.Tree.{Tree}
use Rattle.flat_session.specs.declared.requested_entry.RequestedEntry.TheVariants as made
use Rattle.flat_session.specs.Reads.{Tells, view_made, makes_viewport}

module _ (setup : Setup) (s : SessionNo) (draft : Draft) where
  -- a call that is a misuse closes
  pub call_closes : (call : Call) (reason : Reason) (after : DraftState) → is_played_line setup s (line.Call call) ≡ true
      → misuse setup draft call ≡ Some reason → Tells setup s draft (line.Call call) after (Some (made.Close (Some reason)))
  call_closes call reason after played misused = record {
    kind = ap (λ m. or_close m (entry_of_call call)) (sym misused);
    leaves = λ waiting. inr (call, refl, played, misused);
  }

  pub present_closes : (args : PresentArgs) (reason : Reason) (after : DraftState) → first_reason (present_tests draft args) ≡ Some reason
      → Tells setup s draft (line.Present args) after (Some (made.Close (Some reason)))
  present_closes args reason after misused = record {
    kind = ap (λ m. or_close m (Some (Present args))) (sym misused);
    leaves = λ waiting. inl (append-nil waiting, present-refused draft args reason misused);
  }

  pub get_closes : (get : Watch) (reason : Reason) (after : DraftState) → first_reason (get_tests draft get) ≡ Some reason
      → Tells setup s draft (line.Get get) after (Some (made.Close (Some reason)))
  get_closes get reason after misused = record {
    kind = ap (λ m. or_close m (Some (Get get))) (sym misused);
    leaves = λ waiting. inl (append-nil waiting, get-refused draft get reason misused);
  }

  module _ (old new : DraftState) where
    -- a call that is done
    pub call_done : (call : Call) → makes_viewport call ≡ false → is_played_line setup s (line.Call call) ≡ true → IsAnswer setup draft call old new (Ok tt)
        → Tells setup s draft (line.Call call) new (view_made call)
    call_done (CreateView pair) other played answer = record {
      kind = ap (λ m. or_close m (entry_of_call (CreateView pair))) (sym answer.1);
      leaves = λ waiting. (refl, played, answer.1, answer.2, answer.3);
    }
    call_done (CreateViewport c pair w h inset) other played answer = absurd (cc)
    call_done call other played answer = record {
      kind = ap (λ m. or_close m None) (sym answer.1);
      leaves = λ waiting. (answer.1, answer.2, answer.3);
    }

    -- a viewport that may be made
    pub viewport_ready : (c : ContentId) (pair : PairNo) (props : ViewportProps)
        → is_played_line setup s (line.Call (CreateViewport c pair props.w props.h props.inset)) ≡ true
        → IsReadied setup draft (CreateViewport c pair props.w props.h props.inset) old new (Ok tt)
        → Tells setup s draft (line.Call (CreateViewport c pair props.w props.h props.inset)) new (Some (made.Viewport c pair props))
    viewport_ready c pair props played answer = record {
      kind = ap (λ m. or_close m (entry_of_call (CreateViewport c pair props.w props.h props.inset))) (sym answer.1);
      leaves = λ waiting. (refl, played, answer.1, answer.2, answer.3, answer.4);
    }

    -- a present
    pub present_kind : (args : PresentArgs) (shown : Tree) → Presents draft args old new shown
        → Some (Present args) ≡ entry_of_line setup draft (line.Present args)
    present_kind args shown presents = ap (λ m. or_close m (Some (Present args))) (sym presents.allowed)

    pub present_leaves : (args : PresentArgs) (shown : Tree) → Presents draft args old new shown → is_played_line setup s (line.Present args) ≡ true
        → StandsFor setup old draft → (waiting : List Call)
        → ((waiting ++ []) ≡ waiting) × ((list_all (owns_fence setup s) args.acquire && list_all (owns_fence setup s) args.release) ≡ true)
        × (first_reason (present_tests draft args) ≡ None)
        × (tree draft ≡ Some shown) × StandsFor setup new draft × (new.closed ≡ false)
    present_leaves args shown presents played stands waiting = (
      append-nil waiting,
      played,
      presents.allowed,
      presents.shows,
      presents.stands setup draft stands,
      ap (λ (state : DraftState). state.closed) presents.rest ∙ presents.still_open,
    )

    -- a get
    pub get_done : (get : Watch) (pair : PairNo) → IsWatched draft get old new (Ok pair) → StandsFor setup old draft
        → Tells setup s draft (line.Get get) new (Some (made.Get get pair))
    get_done get pair answer stands =
        let P : DraftState → Type 0 = λ state. StandsFor setup state draft in
        record {
          kind = ap (λ m. or_close m (Some (Get get))) (sym answer.1);
          leaves = λ waiting. (append-nil waiting, answer.2, subst P (sym answer.3) stands, ap (λ (state : DraftState). state.closed) answer.3 ∙ answer.0);
        }
