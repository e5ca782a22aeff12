-- What the watchers of a family's pairs tell depends on the family's entries and the frames alone.
use Rattle.std.proofs.Common.{◌≡◌, ℕ, Bool, true, false, List, [], refl, arith, ap, sym, ◌∙◌, cond}
use Rattle.std.specs.Prelude.{◌==◌, Option, Some, None, option_map, unwrap_or, length}
use Rattle.std.proofs.lemmas.Grind.{common_steps}
use Rattle.flat_base.specs.declared.ids.Actor.{Actor}
use Rattle.flat_base.specs.declared.ids.Actor.TheVariants.{Display, Session, Probe}
use Rattle.flat_base.specs.declared.ids.PairNo.{PairNo}
use Rattle.flat_base.specs.declared.ids.SessionNo.{SessionNo}
use Rattle.flat_scene.specs.declared.calls.Call.{Call}
use Rattle.flat_scene.specs.declared.journal.Entry.{Entry}
use Rattle.flat_scene.specs.declared.journal.EntryKind.{EntryKind}
use Rattle.flat_scene.specs.declared.journal.EntryKind.TheVariants.{View, Viewport, Begin, Finish, Dpr}
use Rattle.flat_scene.specs.declared.setup.Setup.{Setup}
use Rattle.flat_scene.specs.Draft.{Draft}
use Rattle.flat_rules.specs.Ends.{to_begin, to_finished, view_uses, viewport_uses, uses_view, uses_viewport, view_owner, viewport_owner, taken_calls, has_ended}
use Rattle.flat_rules.specs.Ends.{loses, is_viewport_lost, is_view_lost, clears_viewport, ends_view}
use Rattle.flat_scene.specs.Family.{only, is_kept, keeps}
use Rattle.flat_scene.specs.Laws.{IsClosedFamily}
use Rattle.flat_scene.specs.Frames.{taken, ratio, ratio_set}
use Rattle.flat_scene.specs.History.{◌▹◌, is_begin, is_finish, is_session}
use Rattle.flat_rules.specs.Legal.{Legal, may_act, owns_in_kind, owns_view, owns_viewport}
use Rattle.flat_rules.specs.Shown.{shown_view, is_pair, is_connected}
use Rattle.flat_rules.specs.Local.{pair_watched}
use Rattle.flat_rules.specs.Watch.{Watcher, layout_of, status_of, child_of, told, shows_view, is_connected_by, are_joined, is_used, props_seen, props_told}
use Rattle.flat_rules.specs.Watch.{ratio_told}
use Rattle.flat_rules.proofs.FramesLocal.{took-only}
use Rattle.flat_rules.proofs.lemmas.Locality.{own-only, entry-owned, same-number, session-of}
use Rattle.flat_rules.proofs.ShownLocal.{shown-only, connected-only}
use Rattle.std.proofs.lemmas.Bool.{false_from_ne_true}

module _ (setup : Setup) (of_family : SessionNo → Bool) (closed : IsClosedFamily setup of_family) where
  -- ---- frames

  pub legal-begin : (history : List Entry) → Legal setup history → Legal setup (to_begin history)
  legal-begin [] legal = tt
  legal-begin (before ▹ e) legal = by_kind (is_begin e.kind) (legal-begin before legal.0)
    where
      by_kind : (b : Bool) → Legal setup (to_begin before) → Legal setup (cond b (before ▹ e) (to_begin before))
      by_kind true earlier = legal
      by_kind false earlier = earlier

  pub legal-finished : (history : List Entry) → Legal setup history → Legal setup (to_finished history)
  legal-finished [] legal = tt
  legal-finished (before ▹ e) legal = by_kind (is_finish e.kind) (legal-finished before legal.0)
    where
      by_kind : (b : Bool) → Legal setup (to_finished before) → Legal setup (cond b (to_begin before) (to_finished before))
      by_kind true earlier = legal-begin before legal.0
      by_kind false earlier = earlier

  -- an entry that is dropped begins and ends no frame
  pub no-frame : (kind : EntryKind) (actor : Actor) → keeps of_family kind actor ≡ false → may_act setup kind actor ≡ true
      → (is_begin kind ≡ false) × (is_finish kind ≡ false)
  no-frame (Begin time) Display out acts = absurd (let h : true ≡ false = out in cc)
  no-frame (Begin time) (Session t) out acts = absurd (let h : false ≡ true = acts in cc)
  no-frame (Begin time) (Probe p) out acts = absurd (let h : false ≡ true = acts in cc)
  no-frame Finish Display out acts = absurd (let h : true ≡ false = out in cc)
  no-frame Finish (Session t) out acts = absurd (let h : false ≡ true = acts in cc)
  no-frame Finish (Probe p) out acts = absurd (let h : false ≡ true = acts in cc)
  no-frame _ actor out acts = (refl, refl)

  -- and it sets no pixel ratio
  no-ratio : (kind : EntryKind) (actor : Actor) → keeps of_family kind actor ≡ false → may_act setup kind actor ≡ true → ratio_set kind ≡ None
  no-ratio (Dpr r) Display out acts = absurd (let h : true ≡ false = out in cc)
  no-ratio (Dpr r) (Session t) out acts = absurd (let h : false ≡ true = acts in cc)
  no-ratio (Dpr r) (Probe p) out acts = absurd (let h : false ≡ true = acts in cc)
  no-ratio _ actor out acts = refl

  pub begin-only : (history : List Entry) → Legal setup history → to_begin (only of_family history) ≡ only of_family (to_begin history)
  begin-only [] legal = refl
  begin-only (before ▹ e) legal = by_side (begin-only before legal.0) (is_kept of_family e) refl (is_begin e.kind) refl
    where
      by_side : to_begin (only of_family before) ≡ only of_family (to_begin before) → (k : Bool) → is_kept of_family e ≡ k → (b : Bool) → is_begin e.kind ≡ b
          → to_begin (only of_family (before ▹ e)) ≡ only of_family (to_begin (before ▹ e))
      by_side earlier true kept true begins = rw (kept, begins, kept) refl
      by_side earlier true kept false other = rw (kept, other) earlier
      by_side earlier false out b is = rw (out, (no-frame e.kind e.actor out legal.1.may.acts).0) earlier

  pub finished-only : (history : List Entry) → Legal setup history → to_finished (only of_family history) ≡ only of_family (to_finished history)
  finished-only [] legal = refl
  finished-only (before ▹ e) legal = by_side (finished-only before legal.0) (is_kept of_family e) refl (is_finish e.kind) refl
    where
      by_side : to_finished (only of_family before) ≡ only of_family (to_finished before) → (k : Bool) → is_kept of_family e ≡ k → (b : Bool)
          → is_finish e.kind ≡ b
          → to_finished (only of_family (before ▹ e)) ≡ only of_family (to_finished (before ▹ e))
      by_side earlier true kept true ends = rw (kept, ends) (begin-only before legal.0)
      by_side earlier true kept false other = rw (kept, other) earlier
      by_side earlier false out b is = rw (out, (no-frame e.kind e.actor out legal.1.may.acts).1) earlier

  -- ---- uses

  -- A pair with its ends in the family, or at the display.
  pub record IsFamilyPair (p : PairNo) : Type 0 where
    pub view : (s : SessionNo) → owns_view setup s p ≡ true → of_family s ≡ true
    pub viewport : (s : SessionNo) → owns_viewport setup s p ≡ true → of_family s ≡ true

  -- a dropped entry is no use of such a pair
  pub no-view : (p : PairNo) → IsFamilyPair p → (kind : EntryKind) (actor : Actor) → keeps of_family kind actor ≡ false → may_act setup kind actor ≡ true
      → ((t : SessionNo) → is_session t actor ≡ true → owns_in_kind setup t kind ≡ true) → uses_view p kind ≡ false
  no-view p pair (View q) Display out acts owns = absurd (let h : false ≡ true = acts in cc)
  no-view p pair (View q) (Probe n) out acts owns = absurd (let h : false ≡ true = acts in cc)
  no-view p pair (View q) (Session t) out acts owns = false_from_ne_true (q.0 == p.0) (λ is.
      let same : q.0 ≡ p.0 = grind (arith, common_steps) in
      let owns_q : owns_view setup t q ≡ true = owns t (same-number t.0) in
      let moved : owns_view setup t q ≡ owns_view setup t p = ap (λ (n : ℕ). let r : PairNo = record { 0 = n } in owns_view setup t r) same in
      let inside : of_family t ≡ true = pair.view t (sym moved ∙ owns_q) in
      let both : true ≡ false = sym inside ∙ out in cc)
  no-view p pair _ actor out acts owns = refl

  pub views-only : (p : PairNo) → IsFamilyPair p → (history : List Entry) → Legal setup history → view_uses p (only of_family history) ≡ view_uses p history
  views-only p pair [] legal = refl
  views-only p pair (before ▹ e) legal = by_side (views-only p pair before legal.0) (is_kept of_family e) refl
    where
      by_side : view_uses p (only of_family before) ≡ view_uses p before → (k : Bool) → is_kept of_family e ≡ k
          → view_uses p (only of_family (before ▹ e)) ≡ view_uses p (before ▹ e)
      by_side earlier true kept = rw (kept, earlier) refl
      by_side earlier false out = rw (out, no-view p pair e.kind e.actor out legal.1.may.acts (entry-owned setup before e legal.1)) earlier

  pub no-viewport : (p : PairNo) → IsFamilyPair p → (kind : EntryKind) (actor : Actor) → keeps of_family kind actor ≡ false → may_act setup kind actor ≡ true
      → ((t : SessionNo) → is_session t actor ≡ true → owns_in_kind setup t kind ≡ true) → uses_viewport p kind ≡ false
  no-viewport p pair (Viewport q props) Display out acts owns = absurd (let h : false ≡ true = acts in cc)
  no-viewport p pair (Viewport q props) (Probe n) out acts owns = absurd (let h : false ≡ true = acts in cc)
  no-viewport p pair (Viewport q props) (Session t) out acts owns = false_from_ne_true (q.0 == p.0) (λ is.
      let same : q.0 ≡ p.0 = grind (arith, common_steps) in
      let owns_q : owns_viewport setup t q ≡ true = owns t (same-number t.0) in
      let moved : owns_viewport setup t q ≡ owns_viewport setup t p = ap (λ (n : ℕ). let r : PairNo = record { 0 = n } in owns_viewport setup t r) same in
      let inside : of_family t ≡ true = pair.viewport t (sym moved ∙ owns_q) in
      let both : true ≡ false = sym inside ∙ out in cc)
  no-viewport p pair _ actor out acts owns = refl

  pub viewports-only : (p : PairNo) → IsFamilyPair p → (history : List Entry) → Legal setup history
      → viewport_uses p (only of_family history) ≡ viewport_uses p history
  viewports-only p pair [] legal = refl
  viewports-only p pair (before ▹ e) legal = by_side (viewports-only p pair before legal.0) (is_kept of_family e) refl
    where
      by_side : viewport_uses p (only of_family before) ≡ viewport_uses p before → (k : Bool) → is_kept of_family e ≡ k
          → viewport_uses p (only of_family (before ▹ e)) ≡ viewport_uses p (before ▹ e)
      by_side earlier true kept = rw (kept, earlier) refl
      by_side earlier false out = rw (out, no-viewport p pair e.kind e.actor out legal.1.may.acts (entry-owned setup before e legal.1)) earlier

  -- the pixel ratio is the compositor's alone
  pub ratio-only : (history : List Entry) → Legal setup history → ratio setup (only of_family history) ≡ ratio setup history
  ratio-only [] legal = refl
  ratio-only (before ▹ e) legal = by_side (ratio-only before legal.0) (is_kept of_family e) refl
    where
      by_side : ratio setup (only of_family before) ≡ ratio setup before → (k : Bool) → is_kept of_family e ≡ k
          → ratio setup (only of_family (before ▹ e)) ≡ ratio setup (before ▹ e)
      by_side earlier true kept = rw (kept, earlier) refl
      by_side earlier false out = rw (out, no-ratio e.kind e.actor out legal.1.may.acts) earlier

  pub ratio-told-only : (history : List Entry) → Legal setup history → ratio_told setup (only of_family history) ≡ ratio_told setup history
  ratio-told-only history legal = rw (finished-only history legal) (ratio-only (to_finished history) (legal-finished history legal))

  -- ---- what is lost

  pub ended-only : (test : Draft → Call → Bool) (history : List Entry) → Legal setup history → (s : SessionNo) → of_family s ≡ true
      → has_ended setup test (only of_family history) s ≡ has_ended setup test history s
  ended-only test history legal s mine =
      let took : taken setup (only of_family history) s ≡ taken setup history s = took-only setup of_family closed history legal s mine in
      rw (own-only setup of_family s mine history, took) refl

  pub taken-calls-only : (history : List Entry) → Legal setup history → (s : SessionNo) → of_family s ≡ true
      → taken_calls setup (only of_family history) s ≡ taken_calls setup history s
  taken-calls-only history legal s mine =
      let took : taken setup (only of_family history) s ≡ taken setup history s = took-only setup of_family closed history legal s mine in
      rw (own-only setup of_family s mine history, took) refl

  -- the owners of such a pair
  pub view-in : (p : PairNo) → IsFamilyPair p → (w : SessionNo) → view_owner setup p ≡ Some w → of_family w ≡ true
  view-in p pair w is = pair.view w (rw is (same-number w.0))

  pub viewport-in : (p : PairNo) → IsFamilyPair p → (v : SessionNo) → viewport_owner setup p ≡ Some (Session v) → of_family v ≡ true
  viewport-in p pair v is = pair.viewport v (rw is (same-number v.0))

  pub lost-only : (test : Draft → Call → Bool) (history : List Entry) → Legal setup history → (owner : Option Actor)
      → ((v : SessionNo) → owner ≡ Some (Session v) → of_family v ≡ true)
      → loses setup test (only of_family history) owner ≡ loses setup test history owner
  lost-only test history legal None inside = refl
  lost-only test history legal (Some Display) inside = refl
  lost-only test history legal (Some (Probe n)) inside = refl
  lost-only test history legal (Some (Session v)) inside = ended-only test history legal v (inside v refl)

  -- what was lost at the last finished frame
  pub viewport-lost-only : (p : PairNo) → IsFamilyPair p → (history : List Entry) → Legal setup history
      → is_viewport_lost setup (to_finished (only of_family history)) p ≡ is_viewport_lost setup (to_finished history) p
  viewport-lost-only p pair history legal =
      rw (finished-only history legal) (lost-only (clears_viewport p) (to_finished history) (legal-finished history legal) (viewport_owner setup p)
      (viewport-in p pair))

  pub view-lost-only : (p : PairNo) → IsFamilyPair p → (history : List Entry) → Legal setup history
      → is_view_lost setup (to_finished (only of_family history)) p ≡ is_view_lost setup (to_finished history) p
  view-lost-only p pair history legal =
      rw (finished-only history legal) (lost-only (ends_view p) (to_finished history) (legal-finished history legal) (option_map Session (view_owner setup p))
      (λ v is. view-in p pair v (session-of (view_owner setup p) v is)))

  -- whether a pair's view is shown, and hangs below the display
  pub shows-only : (p : PairNo) → IsFamilyPair p → (history : List Entry) → Legal setup history
      → shows_view setup (only of_family history) p ≡ shows_view setup history p
  shows-only p pair history legal = by_owner (view_owner setup p) (view-in p pair)
    where
      by_owner : (o : Option SessionNo) → ((w : SessionNo) → o ≡ Some w → of_family w ≡ true)
          → unwrap_or (option_map (λ s. is_pair (shown_view setup (only of_family history) s) p) o) false
          ≡ unwrap_or (option_map (λ s. is_pair (shown_view setup history s) p) o) false
      by_owner None inside = refl
      by_owner (Some w) inside = rw (shown-only setup of_family closed history legal w (inside w refl)) refl

  pub connected-by-only : (p : PairNo) → IsFamilyPair p → (history : List Entry) → Legal setup history
      → is_connected_by setup (only of_family history) p ≡ is_connected_by setup history p
  connected-by-only p pair history legal = rw (shows-only p pair history legal, by_owner (view_owner setup p) (view-in p pair)) refl
    where
      by_owner : (o : Option SessionNo) → ((w : SessionNo) → o ≡ Some w → of_family w ≡ true)
          → unwrap_or (option_map (is_connected setup (only of_family history)) o) false ≡ unwrap_or (option_map (is_connected setup history) o) false
      by_owner None inside = refl
      by_owner (Some w) inside = connected-only setup of_family closed history legal w (inside w refl)

  pub joined-only : (p : PairNo) → IsFamilyPair p → (history : List Entry) → Legal setup history
      → are_joined setup (only of_family history) p ≡ are_joined setup history p
  joined-only p pair history legal = rw (views-only p pair history legal, by_owner (viewport_owner setup p)) refl
    where
      by_owner : (o : Option Actor) → is_used setup o p (only of_family history) ≡ is_used setup o p history
      by_owner (Some Display) = refl
      by_owner (Some (Session v)) = rw (viewports-only p pair history legal) refl
      by_owner (Some (Probe n)) = rw (viewports-only p pair history legal) refl
      by_owner None = rw (viewports-only p pair history legal) refl

  pub props-seen-only : (p : PairNo) (n : ℕ) (v : SessionNo) → of_family v ≡ true → (history : List Entry) → Legal setup history
      → props_seen setup p n v (only of_family history) ≡ props_seen setup p n v history
  props-seen-only p n v mine [] legal = refl
  props-seen-only p n v mine (before ▹ e) legal = by_side (props-seen-only p n v mine before legal.0) (is_kept of_family e) refl
    where
      by_side : props_seen setup p n v (only of_family before) ≡ props_seen setup p n v before → (k : Bool) → is_kept of_family e ≡ k
          → props_seen setup p n v (only of_family (before ▹ e)) ≡ props_seen setup p n v (before ▹ e)
      by_side earlier true kept = rw (kept, begin-only before legal.0, taken-calls-only (to_begin before) (legal-begin before legal.0) v mine, earlier) refl
      by_side earlier false out = rw (out, (no-frame e.kind e.actor out legal.1.may.acts).1) earlier

  pub props-told-only : (p : PairNo) → IsFamilyPair p → (history : List Entry) → Legal setup history
      → props_told setup (viewport_owner setup p) (only of_family history) p ≡ props_told setup (viewport_owner setup p) history p
  props-told-only p pair history legal = by_owner (viewport_owner setup p) (viewport-in p pair)
    where
      by_owner : (o : Option Actor) → ((v : SessionNo) → o ≡ Some (Session v) → of_family v ≡ true)
          → props_told setup o (only of_family history) p ≡ props_told setup o history p
      by_owner (Some Display) inside = rw (ratio-told-only history legal) refl
      by_owner (Some (Session v)) inside = rw (
        viewports-only p pair history legal,
        props-seen-only p (length (viewport_uses p history)) v (inside v refl) history legal,
      ) refl
      by_owner (Some (Probe n)) inside = refl
      by_owner None inside = refl

  pub told-only : (watcher : Watcher) → IsFamilyPair (pair_watched watcher) → (history : List Entry) → Legal setup history
      → told setup (only of_family history) watcher ≡ told setup history watcher
  told-only (layout_of p) pair history legal =
      rw (viewport-lost-only p pair history legal, joined-only p pair history legal, props-told-only p pair history legal, ratio-told-only history legal) refl
  told-only (status_of p) pair history legal =
      rw (
        viewport-lost-only p pair history legal,
        joined-only p pair history legal,
        finished-only history legal,
        connected-by-only p pair (to_finished history) (legal-finished history legal),
      ) refl
  told-only (child_of p n) pair history legal =
      rw (view-lost-only p pair history legal, finished-only history legal, shows-only p pair (to_finished history) (legal-finished history legal)) refl
