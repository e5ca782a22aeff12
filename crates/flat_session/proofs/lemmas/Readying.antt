-- What a session is about to enter may be entered.
use Rattle.std.proofs.Common.{◌≡◌, ◌≢◌, true, false, List, [], ◌∷◌, ◌++◌, refl, sym, ap, ◌∙◌, subst, append_assoc, Some, None, Result, Ok, Err, inl, inr}
use Rattle.std.specs.Prelude.{option_and_then}
use Rattle.std.specs.Result.{result_ok}
use Rattle.flat_base.specs.declared.ids.Actor.TheVariants.{Session}
use Rattle.flat_base.specs.declared.ids.SessionNo.{SessionNo}
use Rattle.flat_scene.specs.declared.calls.Call.{Call}
use Rattle.flat_scene.specs.declared.calls.Call.TheVariants.{CreateView, CreateViewport}
use Rattle.flat_scene.specs.declared.journal.EntryKind.{EntryKind}
use Rattle.flat_scene.specs.declared.journal.EntryKind.TheVariants.{Present, Get, Close}
use Rattle.flat_scene.specs.declared.setup.Setup.{Setup}
use Rattle.flat_scene.specs.Draft.{Draft}
use Rattle.flat_scene.specs.Effect.{draft_of, effect}
use Rattle.flat_scene.specs.History.{own, calls}
use Rattle.flat_scene.specs.Misuse.{misuse}
use Rattle.flat_scene.specs.Tree.{tree}
use Rattle.flat_core.specs.Machines.{Machine, MayCall, HasShare}
use Rattle.flat_draft.specs.declared.fault.DraftFault.{DraftFault}
use Rattle.flat_draft.specs.declared.fault.DraftFault.TheVariants.{Bad, Closed, Memory}
use Rattle.flat_draft.specs.Answers.{IsAnswer, has_room_for}
use Rattle.flat_draft.specs.State.{DraftState}
use Rattle.flat_draft.proofs.lemmas.Following.{calls_follow}
use Rattle.flat_session.specs.declared.requested_entry.RequestedEntry.{RequestedEntry}
use Rattle.flat_session.specs.declared.requested_entry.RequestedEntry.TheVariants as made
use Rattle.flat_session.specs.declared.session_reader.SessionReader.{SessionReader}
use Rattle.flat_session.specs.Made.{kind_of, IsMeant}
use Rattle.flat_session.specs.Reads.{IsPrepared, IsReady}
use Rattle.flat_session.proofs.lemmas.Entering.{IsWaiting, get_meant, may_view, may_viewport, may_get, may_present, may_signal, may_poll, may_wait}
use Rattle.flat_session.proofs.lemmas.Entering.{may_close_call, may_close_refused, may_leave}

-- the draft with one more call that is no misuse
pub one_more : (setup : Setup) (made before : List Call) (call : Call) (draft : Draft) → misuse setup draft call ≡ None
    → draft_of setup (made ++ before) ≡ Ok draft → draft_of setup (made ++ (before ++ call ∷ [])) ≡ Ok (effect draft call)
one_more setup made before call draft fine drawn = ap (draft_of setup) (sym (append_assoc made before (call ∷ [])))
    ∙ (calls_follow setup (made ++ before) draft call drawn).done fine

module _ (m : Machine) (s : SessionNo) (before pending : List Call) (draft : Draft) (after : DraftState) (waits : IsWaiting m s before draft) where
  abbrev May : EntryKind → List Call → Type 0
  May kind carries = MayCall m (Session s) carries kind

  pub may_enter_as : (one : RequestedEntry) → IsPrepared m.setup s draft before pending after one → MayCall m (Session s) pending (kind_of one)
  may_enter_as (made.View pair) p =
      subst (May (kind_of (made.View pair))) (sym p.0)
      (may_view m s before draft waits pair (effect draft (CreateView pair)) p.1
      (one_more m.setup (calls s m.history) before (CreateView pair) draft p.2 waits.made))
  may_enter_as (made.Viewport c pair props) p =
      let call : Call = CreateViewport c pair props.w props.h props.inset in
      subst (May (kind_of (made.Viewport c pair props))) (sym p.0)
      (may_viewport m s before draft waits c pair props (effect draft call) p.1 (one_more m.setup (calls s m.history) before call draft p.2 waits.made))
  may_enter_as (made.Present args snapshot) p = subst (May (Present args)) (sym p.0) (may_present m s before draft waits args p.1 p.2)
  may_enter_as (made.Get get pair) p = subst (May (Get get)) (sym p.0) (may_get m s before draft waits get pair p.1)
  may_enter_as (made.Signal f) p = subst (May (kind_of (made.Signal f))) (sym p.0) (may_signal m s before draft waits f p.1)
  may_enter_as made.Poll p = subst (May (kind_of made.Poll)) (sym p.0) (may_poll m s before draft waits)
  may_enter_as (made.Wait c) p = subst (May (kind_of (made.Wait c))) (sym p.0) (may_wait m s before draft waits c p.1)
  may_enter_as (made.Close None) p = subst (May (Close None)) (sym p) (may_leave m s before draft waits)
  may_enter_as (made.Close (Some why)) (inl refused) = subst (May (Close (Some why))) (sym refused.0) (may_close_refused m s before draft waits why refused.1)
  may_enter_as (made.Close (Some why)) (inr misused) =
      subst (May (Close (Some why))) (sym misused.1) (may_close_call m s before draft waits misused.0 why misused.2 misused.3)

  pub meant_as : (one : RequestedEntry) → IsPrepared m.setup s draft before pending after one → IsMeant m s pending one
  meant_as (made.View pair) p = tt
  meant_as (made.Viewport c pair props) p = tt
  meant_as (made.Present args snapshot) p =
      let S : List Call → Type 0 = λ carries. IsMeant m s carries (made.Present args snapshot) in
      subst S (sym p.0) (sym (ap (λ r. option_and_then tree (result_ok r)) waits.made ∙ p.3))
  meant_as (made.Get get pair) p =
      let S : List Call → Type 0 = λ carries. IsMeant m s carries (made.Get get pair) in
      subst S (sym p.0) (get_meant m s before draft waits.made get pair p.1)
  meant_as (made.Signal f) p = tt
  meant_as made.Poll p = tt
  meant_as (made.Wait c) p = tt
  meant_as (made.Close why) p = tt

module _ (m : Machine) (reader : SessionReader) (one : RequestedEntry) (ready : IsReady m.setup (own reader.session m.history) reader one) where
  -- what is known of the session
  pub waiting : HasShare m (Session reader.session) → IsWaiting m reader.session ready.before ready.draft
  waiting share = record {
    share = share;
    declared = ready.declared;
    unended = ready.unended;
    unclosed = ready.unclosed;
    private = ready.private;
    made = ready.drawn;
  }

  pub may_enter : HasShare m (Session reader.session) → MayCall m (Session reader.session) reader.pending (kind_of one)
  may_enter share = may_enter_as m reader.session ready.before reader.pending ready.draft reader.draft (waiting share) one ready.prepared

  pub meant : HasShare m (Session reader.session) → IsMeant m reader.session reader.pending one
  meant share = meant_as m reader.session ready.before reader.pending ready.draft reader.draft (waiting share) one ready.prepared

-- a call that is no misuse and has its room is done
pub never_refused : (setup : Setup) (draft : Draft) (call : Call) (old new : DraftState) (answer : Result Unit DraftFault) (fault : DraftFault)
    → IsAnswer setup draft call old new answer → (has_room_for call old ≡ true → answer ≢ Err Memory)
    → old.closed ≡ false → has_room_for call old ≡ true → misuse setup draft call ≡ None → answer ≡ Err fault → ⊥
never_refused setup draft call old new (Ok done) fault is roomy opened room fine refused = absurd (cc)
never_refused setup draft call old new (Err (Bad reason)) fault is roomy opened room fine refused = let both : Some reason ≡ None =
    sym is.1 ∙ fine in absurd (cc)
never_refused setup draft call old new (Err Closed) fault is roomy opened room fine refused = let both : true ≡ false = sym is.0 ∙ opened in absurd (cc)
never_refused setup draft call old new (Err Memory) fault is roomy opened room fine refused = roomy room refl
