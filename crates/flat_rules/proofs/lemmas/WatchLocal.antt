-- What a family's watchers have answered depends on the family's entries and the frames alone.
use Rattle.std.proofs.Common.{◌≡◌, ℕ, Bool, true, false, List, [], ◌++◌, refl, arith, ap, sym, ◌∙◌, subst}
use Rattle.std.specs.Prelude.{◌==◌, Option, Some, None, option_and_then, option_map, unwrap_or, length}
use Rattle.std.proofs.lemmas.Grind.{common_steps}
use Rattle.flat_base.specs.declared.ids.Actor.{Actor}
use Rattle.flat_base.specs.declared.ids.Actor.TheVariants.{Display, Session, Probe}
use Rattle.flat_base.specs.declared.ids.ContentId.{ContentId}
use Rattle.flat_base.specs.declared.ids.PairNo.{PairNo}
use Rattle.flat_base.specs.declared.ids.SessionNo.{SessionNo}
use Rattle.flat_scene.specs.declared.calls.Watch.{Watch}
use Rattle.flat_scene.specs.declared.calls.Watch.TheVariants as watch
use Rattle.flat_scene.specs.declared.journal.Entry.{Entry}
use Rattle.flat_scene.specs.declared.journal.EntryKind.{EntryKind}
use Rattle.flat_scene.specs.declared.journal.EntryKind.TheVariants.{Get}
use Rattle.flat_scene.specs.declared.journal.WatcherValue.{WatcherValue}
use Rattle.flat_scene.specs.declared.setup.Setup.{Setup}
use Rattle.flat_scene.specs.Draft.{Draft, Made, an_image, a_fill, a_viewport, made_of, content_of, of_serial}
use Rattle.flat_scene.specs.Effect.{draft_of}
use Rattle.flat_rules.specs.Ends.{viewport_uses, view_owner, viewport_owner}
use Rattle.flat_scene.specs.Family.{is_linked, only, is_kept, keeps}
use Rattle.flat_scene.specs.Laws.{IsClosedFamily}
use Rattle.flat_scene.specs.History.{◌▹◌, is_session, calls}
use Rattle.flat_rules.specs.Legal.{Legal, owns_view, owns_viewport}
use Rattle.std.specs.Result.{result_ok}
use Rattle.flat_rules.specs.Local.{pair_watched}
use Rattle.flat_rules.specs.Watch.{Watcher, layout_of, status_of, child_of, watching, told, asked, asked_in, is_open, listener, watcher_of, watcher_in}
use Rattle.flat_rules.specs.Watch.{watcher_of_made, is_watcher, same_watcher}
use Rattle.flat_watch.specs.Told.{Watching, asking, answer, answered_by, settled}
use Rattle.std.specs.Option.{option_or}
use Rattle.flat_rules.proofs.lemmas.ShownOwned.{all-calls-owned, ok-is, joined-at}
use Rattle.flat_rules.proofs.ShownLocal.{linked-back}
use Rattle.flat_rules.proofs.lemmas.Locality.{own-only, same-number, same-session, session-of}
use Rattle.flat_rules.proofs.lemmas.Owned.{IsOwned, draft-owned, made_owned, view_owned}
use Rattle.flat_rules.proofs.lemmas.OwnedTree.{at-serial}
use Rattle.flat_rules.proofs.ToldLocal.{IsFamilyPair, told-only, viewports-only, view-in, viewport-in}
use Rattle.std.proofs.lemmas.Bool.{false_from_ne_true}
use Rattle.flat_rules.proofs.lemmas.SameWatchers.{nothing-settled}

-- ---- a watcher at rest

pub asking-none : (w : Watching) → asking None w ≡ w
asking-none w = ap (λ (o : Option Watch). let v : Watching = record w { waits = o } in v) (by_waits w.waits)
  where
    by_waits : (o : Option Watch) → option_or o None ≡ o
    by_waits None = refl
    by_waits (Some x) = refl

-- settling twice is settling once
pub settled-twice : (listens : Bool) (now : Option WatcherValue) (w : Watching) → settled listens now (settled listens now w) ≡ settled listens now w
settled-twice false now w = refl
settled-twice true now w = by_answer (answer now w) refl
  where
    by_answer : (a : Option WatcherValue) → answer now w ≡ a → settled true now (answered_by a w) ≡ answered_by a w
    by_answer None is = rw is refl
    by_answer (Some value) is = refl

pub at-rest : (setup : Setup) (watcher : Watcher) (history : List Entry)
    → settled (is_open setup (listener setup watcher) history) (told setup history watcher) (watching setup watcher history) ≡ watching setup watcher history
at-rest setup watcher [] = nothing-settled (is_open setup (listener setup watcher) []) (told setup [] watcher)
at-rest setup watcher (before ▹ e) = settled-twice (is_open setup (listener setup watcher) (before ▹ e)) (told setup (before ▹ e) watcher)
    (asking (asked setup watcher before e) (watching setup watcher before))

-- ---- one owner

pub one-viewport : (o : Option Actor) (s t : SessionNo) → unwrap_or (option_map (is_session s) o) false ≡ true
    → unwrap_or (option_map (is_session t) o) false ≡ true → s ≡ t
one-viewport None s t a b = cc
one-viewport (Some Display) s t a b = cc
one-viewport (Some (Probe n)) s t a b = cc
one-viewport (Some (Session u)) s t a b = sym (same-session s u a) ∙ same-session t u b

pub one-view : (o : Option SessionNo) (s t : SessionNo) → unwrap_or (option_map (λ u. u.0 == s.0) o) false ≡ true
    → unwrap_or (option_map (λ u. u.0 == t.0) o) false ≡ true → s ≡ t
one-view None s t a b = cc
one-view (Some u) s t a b = sym (same-session s u a) ∙ same-session t u b

module _ (setup : Setup) (of_family : SessionNo → Bool) (closed : IsClosedFamily setup of_family) where
  -- ---- pairs of the family

  -- the other end of a pair that one of the family owns is the family's too
  pub linked-ends : (p : PairNo) (s t : SessionNo) → owns_viewport setup s p ≡ true → owns_view setup t p ≡ true → is_linked setup s t ≡ true
  linked-ends p s t over under = grind (arith, joined-at setup.pairs p.0 s t over under)

  pub pair-of-viewport : (p : PairNo) (s : SessionNo) → of_family s ≡ true → owns_viewport setup s p ≡ true → IsFamilyPair setup of_family closed p
  pair-of-viewport p s mine over = record {
    view = λ t under. closed.grows s t mine (linked-ends p s t over under);
    viewport = λ t over'. ap of_family (sym (one-viewport (viewport_owner setup p) s t over over')) ∙ mine;
  }

  pub pair-of-view : (p : PairNo) (s : SessionNo) → of_family s ≡ true → owns_view setup s p ≡ true → IsFamilyPair setup of_family closed p
  pair-of-view p s mine under = record {
    view = λ t under'. ap of_family (sym (one-view (view_owner setup p) s t under under')) ∙ mine;
    viewport = λ t over. closed.grows s t mine (linked-back setup t s (linked-ends p t s over under));
  }

  -- ---- gets

  made-is-owned : (s : SessionNo) (draft : Draft) (c : ContentId) (m : Made) → IsOwned setup s draft → made_of draft c ≡ Some m → made_owned setup s m ≡ true
  made-is-owned s draft c m owned is = by_serial (content_of draft c) is
    where
      by_serial : (o : Option ℕ) → option_and_then (of_serial draft.contents) o ≡ Some m → made_owned setup s m ≡ true
      by_serial None h = cc
      by_serial (Some n) h = at-serial (made_owned setup s) draft.contents n m owned.contents h

  -- the watcher of a get is the same in either history
  pub watcher-in-only : (before : List Entry) → Legal setup before → (s : SessionNo) → of_family s ≡ true → (draft : Draft) → IsOwned setup s draft
      → (get : Watch)
      → watcher_in setup (only of_family before) draft get ≡ watcher_in setup before draft get
  watcher-in-only before legal s mine draft owned watch.Layout = refl
  watcher-in-only before legal s mine draft owned watch.Status = refl
  watcher-in-only before legal s mine draft owned (watch.Child c) = by_made (made_of draft c) refl
    where
      by_made : (o : Option Made) → made_of draft c ≡ o → option_and_then (watcher_of_made setup (only of_family before)) o
          ≡ option_and_then (watcher_of_made setup before) o
      by_made None is = refl
      by_made (Some (an_image i)) is = refl
      by_made (Some (a_fill x)) is = refl
      by_made (Some (a_viewport p props)) is =
          let pair : IsFamilyPair setup of_family closed p = pair-of-viewport p s mine (made-is-owned s draft c (a_viewport p props) owned is) in
          rw (viewports-only setup of_family closed p pair before legal) refl

  pub asked-kept-by : (before : List Entry) (e : Entry) → Legal setup (before ▹ e) → (actor : Actor) → e.actor ≡ actor → keeps of_family e.kind actor ≡ true
      → (get : Watch)
      → watcher_of setup (only of_family before) actor e.calls get ≡ watcher_of setup before actor e.calls get
  asked-kept-by before e legal Display is kept get = refl
  asked-kept-by before e legal (Probe p) is kept get = refl
  asked-kept-by before e legal (Session s) is kept get =
      rw (own-only setup of_family s kept before) (by_draft (result_ok (draft_of setup (calls s before ++ e.calls))) refl)
    where
      by_draft : (o : Option Draft) → result_ok (draft_of setup (calls s before ++ e.calls)) ≡ o
          → option_and_then (λ d. watcher_in setup (only of_family before) d get) o ≡ option_and_then (λ d. watcher_in setup before d get) o
      by_draft None h = refl
      by_draft (Some d) h =
          watcher-in-only before legal.0 s kept d
          (draft-owned setup s (calls s before ++ e.calls) (all-calls-owned setup before e legal s (rw is (same-number s.0))) d
          (ok-is setup (draft_of setup (calls s before ++ e.calls)) d h)) get

  -- the pair of a watcher that the family can ask is the family's
  pub watcher-pair : (before : List Entry) (e : Entry) → Legal setup (before ▹ e) → (actor : Actor) → e.actor ≡ actor → (get : Watch)
      → keeps of_family e.kind actor ≡ true
      → (w : Watcher) → watcher_of setup before actor e.calls get ≡ Some w → IsFamilyPair setup of_family closed (pair_watched w)
  watcher-pair before e legal Display is get kept w asked = cc
  watcher-pair before e legal (Probe p) is get kept w asked = cc
  watcher-pair before e legal (Session s) is get kept w asked = by_draft (result_ok (draft_of setup (calls s before ++ e.calls))) refl asked
    where
      moved : (u w : Watcher) → u ≡ w → IsFamilyPair setup of_family closed (pair_watched u) → IsFamilyPair setup of_family closed (pair_watched w)
      moved u w same pair = subst (λ (v : Watcher). IsFamilyPair setup of_family closed (pair_watched v)) same pair

      by_view : (o : Option PairNo) → view_owned setup s o ≡ true → (f : PairNo → Watcher) → ((p : PairNo) → pair_watched (f p) ≡ p) → option_map f o ≡ Some w
          → IsFamilyPair setup of_family closed (pair_watched w)
      by_view None owns f its h = cc
      by_view (Some p) owns f its h = moved (f p) w (cc) (rw (its p) (pair-of-view p s kept owns))

      by_made : (draft : Draft) → IsOwned setup s draft → (c : ContentId) → (o : Option Made) → made_of draft c ≡ o
          → option_and_then (watcher_of_made setup before) o ≡ Some w
          → IsFamilyPair setup of_family closed (pair_watched w)
      by_made draft owned c None m h = cc
      by_made draft owned c (Some (an_image i)) m h = cc
      by_made draft owned c (Some (a_fill x)) m h = cc
      by_made draft owned c (Some (a_viewport p props)) m h =
          moved (child_of p (length (viewport_uses p before))) w (cc) (pair-of-viewport p s kept (made-is-owned s draft c (a_viewport p props) owned m))

      in_draft : (draft : Draft) → IsOwned setup s draft → (get : Watch) → watcher_in setup before draft get ≡ Some w
          → IsFamilyPair setup of_family closed (pair_watched w)
      in_draft draft owned watch.Layout h = by_view draft.view owned.view layout_of (λ p. refl) h
      in_draft draft owned watch.Status h = by_view draft.view owned.view status_of (λ p. refl) h
      in_draft draft owned (watch.Child c) h = by_made draft owned c (made_of draft c) refl h

      by_draft : (o : Option Draft) → result_ok (draft_of setup (calls s before ++ e.calls)) ≡ o
          → option_and_then (λ d. watcher_in setup before d get) o ≡ Some w
          → IsFamilyPair setup of_family closed (pair_watched w)
      by_draft None h asks = cc
      by_draft (Some d) h asks =
          in_draft d (draft-owned setup s (calls s before ++ e.calls) (all-calls-owned setup before e legal s (rw is (same-number s.0))) d
          (ok-is setup (draft_of setup (calls s before ++ e.calls)) d h)) get asks

  pub asked-kept : (watcher : Watcher) (before : List Entry) (e : Entry) → Legal setup (before ▹ e) → is_kept of_family e ≡ true → (kind : EntryKind)
      → asked_in setup watcher (only of_family before) e kind ≡ asked_in setup watcher before e kind
  asked-kept watcher before e legal kept (Get get) = rw (asked-kept-by before e legal e.actor refl kept get) refl
  asked-kept watcher before e legal kept _ = refl

  -- a get from outside has a watcher of another pair
  outside-view : (watcher : Watcher) → IsFamilyPair setup of_family closed (pair_watched watcher) → (t : SessionNo) → of_family t ≡ false → (p : PairNo)
      → owns_view setup t p ≡ true
      → ((pair_watched watcher).0 == p.0) ≡ false
  outside-view watcher pair t out p owns = false_from_ne_true ((pair_watched watcher).0 == p.0) (λ is.
      let same : (pair_watched watcher).0 ≡ p.0 = grind (arith, common_steps) in
      let moved : owns_view setup t (pair_watched watcher) ≡ owns_view setup t p =
      ap (λ (n : ℕ). let r : PairNo = record { 0 = n } in owns_view setup t r) same in
      let inside : of_family t ≡ true = pair.view t (moved ∙ owns) in
      let both : true ≡ false = sym inside ∙ out in cc)

  outside-viewport : (watcher : Watcher) → IsFamilyPair setup of_family closed (pair_watched watcher) → (t : SessionNo) → of_family t ≡ false → (p : PairNo)
      → owns_viewport setup t p ≡ true
      → ((pair_watched watcher).0 == p.0) ≡ false
  outside-viewport watcher pair t out p owns = false_from_ne_true ((pair_watched watcher).0 == p.0) (λ is.
      let same : (pair_watched watcher).0 ≡ p.0 = grind (arith, common_steps) in
      let moved : owns_viewport setup t (pair_watched watcher) ≡ owns_viewport setup t p =
      ap (λ (n : ℕ). let r : PairNo = record { 0 = n } in owns_viewport setup t r) same in
      let inside : of_family t ≡ true = pair.viewport t (moved ∙ owns) in
      let both : true ≡ false = sym inside ∙ out in cc)

  other-layout : (watcher : Watcher) (p : PairNo) → ((pair_watched watcher).0 == p.0) ≡ false → same_watcher watcher (layout_of p) ≡ false
  other-layout (layout_of q) p other = other
  other-layout (status_of q) p other = refl
  other-layout (child_of q n) p other = refl

  other-status : (watcher : Watcher) (p : PairNo) → ((pair_watched watcher).0 == p.0) ≡ false → same_watcher watcher (status_of p) ≡ false
  other-status (layout_of q) p other = refl
  other-status (status_of q) p other = other
  other-status (child_of q n) p other = refl

  other-child : (watcher : Watcher) (p : PairNo) (m : ℕ) → ((pair_watched watcher).0 == p.0) ≡ false → same_watcher watcher (child_of p m) ≡ false
  other-child (layout_of q) p m other = refl
  other-child (status_of q) p m other = refl
  other-child (child_of q n) p m other = rw other refl

  not-asked-in : (watcher : Watcher) → IsFamilyPair setup of_family closed (pair_watched watcher) → (t : SessionNo) → of_family t ≡ false
      → (before : List Entry) (draft : Draft) → IsOwned setup t draft → (get : Watch)
      → is_watcher setup watcher (watcher_in setup before draft get) ≡ false
  not-asked-in watcher pair t out before draft owned watch.Layout = by_view draft.view owned.view
    where
      by_view : (o : Option PairNo) → view_owned setup t o ≡ true → is_watcher setup watcher (option_map layout_of o) ≡ false
      by_view None owns = refl
      by_view (Some p) owns = other-layout watcher p (outside-view watcher pair t out p owns)
  not-asked-in watcher pair t out before draft owned watch.Status = by_view draft.view owned.view
    where
      by_view : (o : Option PairNo) → view_owned setup t o ≡ true → is_watcher setup watcher (option_map status_of o) ≡ false
      by_view None owns = refl
      by_view (Some p) owns = other-status watcher p (outside-view watcher pair t out p owns)
  not-asked-in watcher pair t out before draft owned (watch.Child c) = by_made (made_of draft c) refl
    where
      by_made : (o : Option Made) → made_of draft c ≡ o → is_watcher setup watcher (option_and_then (watcher_of_made setup before) o) ≡ false
      by_made None is = refl
      by_made (Some (an_image i)) is = refl
      by_made (Some (a_fill x)) is = refl
      by_made (Some (a_viewport p props)) is =
          other-child watcher p (length (viewport_uses p before))
          (outside-viewport watcher pair t out p (made-is-owned t draft c (a_viewport p props) owned is))

  not-asked-by : (watcher : Watcher) → IsFamilyPair setup of_family closed (pair_watched watcher) → (before : List Entry) (e : Entry) → Legal setup (before ▹ e)
      → (get : Watch)
      → (actor : Actor) → e.actor ≡ actor → keeps of_family (Get get) actor ≡ false
      → is_watcher setup watcher (watcher_of setup before actor e.calls get) ≡ false
  not-asked-by watcher pair before e legal get Display is out = refl
  not-asked-by watcher pair before e legal get (Probe p) is out = refl
  not-asked-by watcher pair before e legal get (Session t) is out = by_draft (result_ok (draft_of setup (calls t before ++ e.calls))) refl
    where
      by_draft : (o : Option Draft) → result_ok (draft_of setup (calls t before ++ e.calls)) ≡ o
          → is_watcher setup watcher (option_and_then (λ d. watcher_in setup before d get) o) ≡ false
      by_draft None h = refl
      by_draft (Some d) h =
          not-asked-in watcher pair t out before d
          (draft-owned setup t (calls t before ++ e.calls) (all-calls-owned setup before e legal t (rw is (same-number t.0))) d
          (ok-is setup (draft_of setup (calls t before ++ e.calls)) d h)) get

  pub not-asked : (watcher : Watcher) → IsFamilyPair setup of_family closed (pair_watched watcher) → (before : List Entry) (e : Entry)
      → Legal setup (before ▹ e) → (kind : EntryKind) → keeps of_family kind e.actor ≡ false
      → asked_in setup watcher before e kind ≡ None
  not-asked watcher pair before e legal (Get get) out = rw (not-asked-by watcher pair before e legal get e.actor refl out) refl
  not-asked watcher pair before e legal _ out = refl

  -- ---- answers

  open-only : (o : Option Actor) → ((v : SessionNo) → o ≡ Some (Session v) → of_family v ≡ true) → (history : List Entry)
      → is_open setup o (only of_family history) ≡ is_open setup o history
  open-only None inside history = refl
  open-only (Some Display) inside history = refl
  open-only (Some (Probe n)) inside history = refl
  open-only (Some (Session v)) inside history = rw (own-only setup of_family v (inside v refl) history) refl

  listener-in : (watcher : Watcher) → IsFamilyPair setup of_family closed (pair_watched watcher) → (v : SessionNo) → listener setup watcher ≡ Some (Session v)
      → of_family v ≡ true
  listener-in (layout_of p) pair v is = view-in setup of_family closed p pair v (session-of (view_owner setup p) v is)
  listener-in (status_of p) pair v is = view-in setup of_family closed p pair v (session-of (view_owner setup p) v is)
  listener-in (child_of p n) pair v is = viewport-in setup of_family closed p pair v is

  pub watching-only : (watcher : Watcher) → IsFamilyPair setup of_family closed (pair_watched watcher) → (history : List Entry) → Legal setup history
      → watching setup watcher (only of_family history) ≡ watching setup watcher history
  watching-only watcher pair [] legal = refl
  watching-only watcher pair (before ▹ e) legal = by_side (watching-only watcher pair before legal.0) (is_kept of_family e) refl
    where
      hears : (history : List Entry) → is_open setup (listener setup watcher) (only of_family history) ≡ is_open setup (listener setup watcher) history
      hears = open-only (listener setup watcher) (listener-in watcher pair)

      tells : told setup (only of_family (before ▹ e)) watcher ≡ told setup (before ▹ e) watcher
      tells = told-only setup of_family closed watcher pair (before ▹ e) legal

      told_before : told setup (only of_family before) watcher ≡ told setup before watcher
      told_before = told-only setup of_family closed watcher pair before legal.0

      by_side : watching setup watcher (only of_family before) ≡ watching setup watcher before → (k : Bool) → is_kept of_family e ≡ k
          → watching setup watcher (only of_family (before ▹ e)) ≡ watching setup watcher (before ▹ e)
      by_side earlier true kept =
          let now : told setup (only of_family before ▹ e) watcher ≡ told setup (before ▹ e) watcher = rw kept at tells in
          let listens : is_open setup (listener setup watcher) (only of_family before ▹ e) ≡ is_open setup (listener setup watcher) (before ▹ e) =
          rw kept at (hears (before ▹ e)) in
          rw (kept, now, listens, asked-kept watcher before e legal kept e.kind, earlier) refl
      by_side earlier false out =
          let now : told setup (only of_family before) watcher ≡ told setup (before ▹ e) watcher = rw out at tells in
          let listens : is_open setup (listener setup watcher) (only of_family before) ≡ is_open setup (listener setup watcher) (before ▹ e) =
          rw out at (hears (before ▹ e)) in
          let still : told setup (before ▹ e) watcher ≡ told setup before watcher = sym now ∙ told_before in
          let same_open : is_open setup (listener setup watcher) (before ▹ e) ≡ is_open setup (listener setup watcher) before = sym listens ∙ hears before in
          let idle : asking (asked setup watcher before e) (watching setup watcher before) ≡ watching setup watcher before =
          ap (λ (a : Option Watch). asking a (watching setup watcher before)) (not-asked watcher pair before e legal e.kind out)
          ∙ asking-none (watching setup watcher before) in
          rw (out, earlier, still, same_open)
          (sym (ap (λ (w : Watching). settled (is_open setup (listener setup watcher) before) (told setup before watcher) w) idle
          ∙ at-rest setup watcher before))
