-- The entries of a family, with the frames, are a legal history of their own, with the same replies and the same events to the family.
use Rattle.std.proofs.Common.{◌≡◌, Bool, true, false, cond, List, [], refl, arith, ap, sym, ◌∙◌, subst}
use Rattle.std.specs.Prelude.{Option, Some, None}
use Rattle.flat_base.specs.declared.ids.Actor.{Actor}
use Rattle.flat_base.specs.declared.ids.Actor.TheVariants.{Display, Session, Probe}
use Rattle.flat_base.specs.declared.ids.SessionNo.{SessionNo}
use Rattle.flat_scene.specs.declared.calls.Call.{Call}
use Rattle.flat_scene.specs.declared.calls.Watch.{Watch}
use Rattle.flat_scene.specs.declared.journal.Entry.{Entry}
use Rattle.flat_scene.specs.declared.journal.EntryKind.{EntryKind}
use Rattle.flat_scene.specs.declared.journal.EntryKind.TheVariants.{View, Viewport, Present, Get, Signal, Poll, Wait, Close, End, Begin, Finish, Hit, Dpr}
use Rattle.flat_scene.specs.declared.script.WaitCondition.{WaitCondition}
use Rattle.flat_scene.specs.declared.script.WaitCondition.TheVariants as asks
use Rattle.flat_scene.specs.declared.setup.Setup.{Setup}
use Rattle.flat_scene.specs.Draft.{Draft}
use Rattle.flat_scene.specs.Family.{only, is_kept, keeps}
use Rattle.flat_scene.specs.Laws.{IsClosedFamily}
use Rattle.flat_scene.specs.History.{◌▹◌}
use Rattle.flat_rules.specs.Legal.{Legal, LegalEntry, MayEnter, owns_in_kind, value_of, reply_to, reply_to_get, reply_to_present, session_may, may_act, goes_on}
use Rattle.flat_rules.specs.Legal.{keeps_time, has_draft, draft_with, has_tree, has_watcher}
use Rattle.flat_rules.specs.Local.{pair_watched}
use Rattle.flat_rules.specs.Watch.{Watcher, watcher_of}
use Rattle.flat_rules.proofs.FramesLocal.{took-only, credits-only, signalled-only}
use Rattle.flat_rules.proofs.lemmas.Locality.{own-only, same-number, entry-owned}
use Rattle.flat_rules.proofs.lemmas.RepliesLocal.{frame-open-only, begin-time-only, frames-only, token-only, unread-only, answers-only}
use Rattle.flat_rules.proofs.ToldLocal.{IsFamilyPair, told-only, views-only}
use Rattle.flat_rules.proofs.lemmas.WatchLocal.{watching-only, pair-of-view, pair-of-viewport, asked-kept-by, watcher-pair}

module _ (setup : Setup) (of_family : SessionNo → Bool) (closed : IsClosedFamily setup of_family) where
  module _ (before : List Entry) (e : Entry) (legal : Legal setup (before ▹ e)) where
    -- what a session of the family owns
    owns-here : (s : SessionNo) → e.actor ≡ Session s → (kind : EntryKind) → e.kind ≡ kind → owns_in_kind setup s kind ≡ true
    owns-here s by kind is =
        subst (λ (k : EntryKind). owns_in_kind setup s k ≡ true) is (entry-owned setup before e legal.1 s (rw by (same-number s.0)))

    -- ---- replies

    present-same : (actor : Actor) (args : _) → keeps of_family (Present args) actor ≡ true
        → reply_to_present setup (only of_family before) actor ≡ reply_to_present setup before actor
    present-same (Session s) args kept = rw (own-only setup of_family s kept before, took-only setup of_family closed before legal.0 s kept) refl
    present-same Display args kept = refl
    present-same (Probe p) args kept = refl

    get-same-by : (watcher : Option Watcher) → ((w : Watcher) → watcher ≡ Some w → IsFamilyPair setup of_family closed (pair_watched w))
        → reply_to_get setup (only of_family before) watcher ≡ reply_to_get setup before watcher
    get-same-by None pair = refl
    get-same-by (Some w) pair = rw (
      watching-only setup of_family closed w (pair w refl) before legal.0,
      told-only setup of_family closed w (pair w refl) before legal.0,
    ) refl

    get-same : (get : Watch) → is_kept of_family e ≡ true
        → reply_to_get setup (only of_family before) (watcher_of setup (only of_family before) e.actor e.calls get)
        ≡ reply_to_get setup before (watcher_of setup before e.actor e.calls get)
    get-same get kept =
        rw (asked-kept-by setup of_family closed before e legal e.actor refl kept get)
        (get-same-by (watcher_of setup before e.actor e.calls get) (λ w is. watcher-pair setup of_family closed before e legal e.actor refl get kept w is))

    value-same : (s : SessionNo) → of_family s ≡ true → (c : WaitCondition) → session_may (Wait c) ≡ true → owns_in_kind setup s (Wait c) ≡ true
        → value_of setup (only of_family before) (Session s) c ≡ value_of setup before (Session s) c
    value-same s mine (asks.Frames n) may owns = frames-only setup of_family closed before legal.0
    value-same s mine (asks.Credits n) may owns = credits-only setup of_family closed before legal.0 s mine
    value-same s mine (asks.Taken n) may owns = took-only setup of_family closed before legal.0 s mine
    value-same s mine (asks.Answers n) may owns = answers-only setup of_family closed s mine before legal.0
    value-same s mine (asks.Fence f) may owns = rw (signalled-only setup of_family closed before legal.0 s f mine owns) refl
    value-same s mine (asks.Presents t n) may owns = absurd (let h : false ≡ true = may in cc)

    reply-by : is_kept of_family e ≡ true → (actor : Actor) → e.actor ≡ actor → (kind : EntryKind) → e.kind ≡ kind → may_act setup kind actor ≡ true
        → keeps of_family kind actor ≡ true
        → reply_to setup (only of_family before) actor e.calls kind ≡ reply_to setup before actor e.calls kind
    reply-by whole actor by (Present args) is may kept = present-same actor args kept
    reply-by whole actor by (Get get) is may kept =
        subst (λ (a : Actor). reply_to_get setup (only of_family before) (watcher_of setup (only of_family before) a e.calls get)
        ≡ reply_to_get setup before (watcher_of setup before a e.calls get)) by
        (get-same get whole)
    reply-by whole (Session s) by (View p) is may kept =
        rw (views-only setup of_family closed p (pair-of-view setup of_family closed p s kept (owns-here s by (View p) is)) before legal.0) refl
    reply-by whole (Session s) by (Viewport p props) is may kept =
        rw (token-only setup of_family closed p (pair-of-viewport setup of_family closed p s kept (owns-here s by (Viewport p props) is)) before legal.0) refl
    reply-by whole (Session s) by Poll is may kept = rw (unread-only setup of_family closed s kept before legal.0) refl
    reply-by whole (Session s) by (Wait c) is may kept = rw (value-same s kept c (grind arith) (owns-here s by (Wait c) is)) refl
    reply-by whole Display by (View p) is may kept = absurd (let h : false ≡ true = kept in cc)
    reply-by whole Display by (Viewport p props) is may kept = absurd (let h : false ≡ true = kept in cc)
    reply-by whole Display by Poll is may kept = refl
    reply-by whole Display by (Wait c) is may kept = absurd (let h : false ≡ true = kept in cc)
    reply-by whole (Probe n) by (View p) is may kept = absurd (let h : false ≡ true = kept in cc)
    reply-by whole (Probe n) by (Viewport p props) is may kept = absurd (let h : false ≡ true = kept in cc)
    reply-by whole (Probe n) by Poll is may kept = refl
    reply-by whole (Probe n) by (Wait c) is may kept = absurd (let h : false ≡ true = kept in cc)
    reply-by whole actor by (Close None) is may kept = refl
    reply-by whole actor by (Close (Some reason)) is may kept = refl
    reply-by whole actor by (Signal f) is may kept = refl
    reply-by whole actor by (End n) is may kept = refl
    reply-by whole actor by (Begin time) is may kept = refl
    reply-by whole actor by Finish is may kept = refl
    reply-by whole actor by (Hit x y) is may kept = refl
    reply-by whole actor by (Dpr r) is may kept = refl

    pub reply-same : is_kept of_family e ≡ true → reply_to setup (only of_family before) e.actor e.calls e.kind ≡ reply_to setup before e.actor e.calls e.kind
    reply-same kept = reply-by kept e.actor refl e.kind refl legal.1.may.acts kept

    -- ---- what is asked of an entry

    lasts-same : (kind : EntryKind) (actor : Actor) → keeps of_family kind actor ≡ true → goes_on (only of_family before) kind actor ≡ goes_on before kind actor
    lasts-same kind (Session s) kept = rw (own-only setup of_family s kept before) refl
    lasts-same kind Display kept = refl
    lasts-same kind (Probe p) kept = refl

    times-same : (kind : EntryKind) → keeps_time (only of_family before) kind ≡ keeps_time before kind
    times-same (Begin time) = rw (frame-open-only setup of_family closed before legal.0, begin-time-only setup of_family closed before legal.0) refl
    times-same Finish = frame-open-only setup of_family closed before legal.0
    times-same _ = refl

    draft-same : (kind : EntryKind) (actor : Actor) (carries : List Call) → keeps of_family kind actor ≡ true
        → draft_with setup (only of_family before) actor carries ≡ draft_with setup before actor carries
    draft-same kind (Session s) carries kept = rw (own-only setup of_family s kept before) refl
    draft-same kind Display carries kept = refl
    draft-same kind (Probe p) carries kept = refl

    drafted-same : (kind : EntryKind) (actor : Actor) (carries : List Call) → keeps of_family kind actor ≡ true
        → has_draft setup (only of_family before) actor carries kind ≡ has_draft setup before actor carries kind
    drafted-same (Close reason) (Session s) carries kept = rw (own-only setup of_family s kept before) refl
    drafted-same _ (Session s) carries kept = rw (own-only setup of_family s kept before) refl
    drafted-same kind Display carries kept = refl
    drafted-same kind (Probe p) carries kept = refl

    watcher-same : (kind : EntryKind) → is_kept of_family e ≡ true
        → has_watcher setup (only of_family before) e.actor e.calls kind ≡ has_watcher setup before e.actor e.calls kind
    watcher-same (Get get) kept = rw (asked-kept-by setup of_family closed before e legal e.actor refl kept get) refl
    watcher-same _ kept = refl

    -- a kept entry may be made, and its reply is the same
    may-only : is_kept of_family e ≡ true → MayEnter setup (only of_family before) e.actor e.calls e.kind
    may-only kept = record {
      acts = legal.1.may.acts;
      lasts = lasts-same e.kind e.actor kept ∙ legal.1.may.lasts;
      times = times-same e.kind ∙ legal.1.may.times;
      drafted = drafted-same e.kind e.actor e.calls kept ∙ legal.1.may.drafted;
      calls = legal.1.may.calls;
      links = legal.1.may.links;
      owned = legal.1.may.owned;
      named = legal.1.may.named;
      tree = ap (λ (d : Option Draft). has_tree setup d e.kind) (draft-same e.kind e.actor e.calls kept) ∙ legal.1.may.tree;
      watcher = watcher-same e.kind kept ∙ legal.1.may.watcher;
    }

    pub entry-only : is_kept of_family e ≡ true → LegalEntry setup (only of_family before) e
    entry-only kept = record { may = may-only kept; reply = legal.1.reply ∙ sym (reply-same kept) }

  -- ---- the history of a family is legal

  pub legal-only : (history : List Entry) → Legal setup history → Legal setup (only of_family history)
  legal-only [] legal = tt
  legal-only (before ▹ e) legal = by_side (legal-only before legal.0) (is_kept of_family e) refl
    where
      by_side : Legal setup (only of_family before) → (k : Bool) → is_kept of_family e ≡ k
          → Legal setup (cond k (only of_family before ▹ e) (only of_family before))
      by_side earlier true kept = (earlier, entry-only before e legal kept)
      by_side earlier false out = earlier
