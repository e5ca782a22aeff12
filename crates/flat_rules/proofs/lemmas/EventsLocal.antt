-- What an entry posts to a family depends on the family's entries and the frames alone, and a dropped entry posts nothing to it.
use Rattle.std.proofs.Common.{◌≡◌, ℕ, suc, ◌+◌, ◌-◌, Bool, true, false, cond, List, [], ◌∷◌, ◌++◌, refl, arith, ap, sym, ◌∙◌, drop}
use Rattle.std.specs.Prelude.{◌==◌, Option, Some, None, option_map, unwrap_or, length, flat_map, slice_get, nat_lt, replicate}
use Rattle.std.specs.List.{list_all}
use Rattle.flat_base.specs.declared.ids.Actor.{Actor}
use Rattle.flat_base.specs.declared.ids.Actor.TheVariants.{Display, Session, Probe}
use Rattle.flat_base.specs.declared.ids.PairNo.{PairNo}
use Rattle.flat_base.specs.declared.ids.SessionNo.{SessionNo}
use Rattle.flat_scene.specs.declared.calls.Watch.{Watch}
use Rattle.flat_scene.specs.declared.journal.Entry.{Entry}
use Rattle.flat_scene.specs.declared.journal.Event.{Event}
use Rattle.flat_scene.specs.declared.journal.Event.TheVariants as event
use Rattle.flat_scene.specs.declared.journal.WatcherValue.{WatcherValue}
use Rattle.flat_scene.specs.declared.setup.PairDecl.{PairDecl}
use Rattle.flat_scene.specs.declared.setup.Setup.{Setup}
use Rattle.flat_rules.specs.Ends.{pairs_where, views_of, viewports_of, to_begin, view_owner, viewport_owner, viewport_uses}
use Rattle.flat_scene.specs.Family.{only, is_kept}
use Rattle.flat_scene.specs.Laws.{IsClosedFamily}
use Rattle.flat_scene.specs.Frames.{taken, credits}
use Rattle.flat_scene.specs.History.{◌▹◌, is_closed, is_session, is_begin, is_finish}
use Rattle.flat_rules.specs.Legal.{Legal, owns_view, owns_viewport}
use Rattle.flat_rules.specs.Posts.{up_to, event_of, told_event, frame_took, releases_seen, tokens_back, at_finish, at_begin, news_for, events_to}
use Rattle.flat_rules.specs.Local.{pair_watched}
use Rattle.flat_rules.specs.Watch.{Watcher, layout_of, status_of, child_of, watching, told, is_open, listener}
use Rattle.flat_watch.specs.Told.{Watching, answer, answered_by, settled}
use Rattle.flat_rules.proofs.FramesLocal.{took-only, credits-only}
use Rattle.flat_rules.proofs.lemmas.Locality.{own-only, same-session}
use Rattle.flat_rules.proofs.ToldLocal.{IsFamilyPair, told-only, viewports-only, begin-only, legal-begin, no-frame, taken-calls-only}
use Rattle.flat_rules.proofs.lemmas.WatchLocal.{watching-only, at-rest, pair-of-viewport, pair-of-view}
use Rattle.flat_rules.proofs.lemmas.ListLemmas.{flat-each, flat_map-none}

-- ---- lists

-- maps that agree on what passes a test
pub flat-same : {X Y : Type 0} (o : X → Bool) (f g : X → List Y) → ((x : X) → o x ≡ true → f x ≡ g x) → (xs : List X) → list_all o xs ≡ true
    → flat_map f xs ≡ flat_map g xs
flat-same o f g same [] all = refl
flat-same o f g same (x ∷ xs) all =
    let first : f x ≡ g x = same x (grind arith) in
    let rest : flat_map f xs ≡ flat_map g xs = flat-same o f g same xs (grind arith) in
    rw (first, rest) refl

pub flat-none : {X Y : Type 0} (o : X → Bool) (f : X → List Y) → ((x : X) → o x ≡ true → f x ≡ []) → (xs : List X) → list_all o xs ≡ true → flat_map f xs ≡ []
flat-none o f none [] all = refl
flat-none o f none (x ∷ xs) all =
    let first : f x ≡ [] = none x (grind arith) in
    let rest : flat_map f xs ≡ [] = flat-none o f none xs (grind arith) in
    rw (first, rest) refl

-- five parts in a row
pub five-same : {X : Type 0} (a a' b b' c c' d d' e e' : List X) → a ≡ a' → b ≡ b' → c ≡ c' → d ≡ d' → e ≡ e'
    → (a ++ b ++ c ++ d ++ e) ≡ (a' ++ b' ++ c' ++ d' ++ e')
five-same a a' b b' c c' d d' e e' pa pb pc pd pe = cc

-- ---- pairs of one owner

-- the pairs that pass a test have what each such pair has
where-all : (test : PairDecl → Bool) (o : PairNo → Bool) (all : List PairDecl)
    → ((n : ℕ) (pair : PairDecl) → slice_get all n ≡ Some pair → test pair ≡ true → (let p : PairNo = record { 0 = n } in o p ≡ true))
    → (number : ℕ) (pairs : List PairDecl) → ((i j : ℕ) → j ≡ number + i → slice_get all j ≡ slice_get pairs i)
    → list_all o (pairs_where test number pairs) ≡ true
where-all test o all has number [] at = refl
where-all test o all has number (pair ∷ pairs) at =
    by_test (where-all test o all has (number + 1) pairs (λ i j e. at (suc i) j (omega arith))) (test pair) refl
  where
    by_test : list_all o (pairs_where test (number + 1) pairs) ≡ true → (b : Bool) → test pair ≡ b → list_all o (pairs_where test number (pair ∷ pairs)) ≡ true
    by_test rest true is = rw (is, has number pair (at 0 number (omega arith)) is, rest) refl
    by_test rest false is = rw is rest

-- ---- a watcher at rest has no answer

pub rest-none : (p : PairNo) (a : Option WatcherValue) (w : Watching) → answered_by a w ≡ w → event_of p w.waits a ≡ []
rest-none p None w is = by_waits w.waits
  where
    by_waits : (o : Option Watch) → event_of p o None ≡ []
    by_waits None = refl
    by_waits (Some get) = refl
rest-none p (Some value) w is =
    let none : None ≡ w.waits = ap (λ (v : Watching). v.waits) is in
    rw (← none) refl

pub same-credits : (a a' b b' c c' d d' : ℕ) → a ≡ a' → b ≡ b' → c ≡ c' → d ≡ d'
    → cond (nat_lt a b) (event.Credits (c - d) ∷ []) [] ≡ cond (nat_lt a' b') (event.Credits (c' - d') ∷ []) []
same-credits a a' b b' c c' d d' pa pb pc pd = cc

module _ (setup : Setup) where
  pub views-owned : (s : SessionNo) → list_all (owns_view setup s) (views_of setup s) ≡ true
  views-owned s = where-all (λ pair. pair.view.0 == s.0) (owns_view setup s) setup.pairs (λ n pair at is. rw at is) 0 setup.pairs
      (λ i j e. ap (slice_get setup.pairs) (omega arith))

  pub viewports-owned : (s : SessionNo) → list_all (owns_viewport setup s) (viewports_of setup s) ≡ true
  viewports-owned s = where-all (λ pair. is_session s pair.viewport) (owns_viewport setup s) setup.pairs (λ n pair at is. rw at is) 0 setup.pairs
      (λ i j e. ap (slice_get setup.pairs) (omega arith))

  -- the owner listens while it is open
  pub hears-view : (o : Option SessionNo) (s : SessionNo) (history : List Entry) → unwrap_or (option_map (λ t. t.0 == s.0) o) false ≡ true
      → is_closed s history ≡ false
      → is_open setup (option_map Session o) history ≡ true
  hears-view None s history owns going = cc
  hears-view (Some t) s history owns going = rw (same-session s t owns, going) refl

  pub hears-viewport : (o : Option Actor) (s : SessionNo) (history : List Entry) → unwrap_or (option_map (is_session s) o) false ≡ true
      → is_closed s history ≡ false
      → is_open setup o history ≡ true
  hears-viewport None s history owns going = cc
  hears-viewport (Some Display) s history owns going = cc
  hears-viewport (Some (Probe n)) s history owns going = cc
  hears-viewport (Some (Session t)) s history owns going = rw (same-session s t owns, going) refl

module _ (setup : Setup) (of_family : SessionNo → Bool) (closed : IsClosedFamily setup of_family) where
  -- ---- what is before the begin of the last frame

  pub legal-begun : (history : List Entry) → Legal setup history → Legal setup (drop 1 (to_begin history))
  legal-begun [] legal = tt
  legal-begun (before ▹ e) legal = by_kind (is_begin e.kind) (legal-begun before legal.0)
    where
      by_kind : (b : Bool) → Legal setup (drop 1 (to_begin before)) → Legal setup (drop 1 (cond b (before ▹ e) (to_begin before)))
      by_kind true earlier = legal.0
      by_kind false earlier = earlier

  pub begun-only : (history : List Entry) → Legal setup history → drop 1 (to_begin (only of_family history)) ≡ only of_family (drop 1 (to_begin history))
  begun-only [] legal = refl
  begun-only (before ▹ e) legal = by_side (begun-only before legal.0) (is_kept of_family e) refl (is_begin e.kind) refl
    where
      by_side : drop 1 (to_begin (only of_family before)) ≡ only of_family (drop 1 (to_begin before)) → (k : Bool) → is_kept of_family e ≡ k → (b : Bool)
          → is_begin e.kind ≡ b
          → drop 1 (to_begin (only of_family (before ▹ e))) ≡ only of_family (drop 1 (to_begin (before ▹ e)))
      by_side earlier true kept true begins = rw (kept, begins) refl
      by_side earlier true kept false other = rw (kept, other) earlier
      by_side earlier false out b is = rw (out, (no-frame setup of_family closed e.kind e.actor out legal.1.may.acts).0) earlier

  -- ---- what is the same in both histories

  pub closed-only : (history : List Entry) (s : SessionNo) → of_family s ≡ true → is_closed s (only of_family history) ≡ is_closed s history
  closed-only history s mine = rw (own-only setup of_family s mine history) refl

  pub frame-took-only : (before : List Entry) → Legal setup before → (s : SessionNo) → of_family s ≡ true
      → frame_took setup (only of_family before) s ≡ frame_took setup before s
  frame-took-only before legal s mine =
      rw (
        begun-only before legal,
        begin-only setup of_family closed before legal,
        took-only setup of_family closed (to_begin before) (legal-begin setup of_family closed before legal) s mine,
        took-only setup of_family closed (drop 1 (to_begin before)) (legal-begun before legal) s mine,
      ) refl

  pub seen-only : (history : List Entry) → Legal setup history → (s : SessionNo) → of_family s ≡ true → (p : PairNo)
      → releases_seen setup (only of_family history) s p ≡ releases_seen setup history s p
  seen-only history legal s mine p = rw (taken-calls-only setup of_family closed history legal s mine) refl

  pub tokens-only : (before : List Entry) → Legal setup before → (s : SessionNo) → of_family s ≡ true
      → tokens_back setup (only of_family before) s ≡ tokens_back setup before s
  tokens-only before legal s mine = flat-each (came_back (only of_family before)) (came_back before) each-same (viewports_of setup s)
    where
      came_back : List Entry → PairNo → List Event
      came_back history p = replicate (releases_seen setup (to_begin history) s p - releases_seen setup (drop 1 (to_begin history)) s p) (event.TokenBack p)

      each-same : (p : PairNo) → came_back (only of_family before) p ≡ came_back before p
      each-same p =
          let now : releases_seen setup (to_begin (only of_family before)) s p ≡ releases_seen setup (to_begin before) s p =
          ap (λ (h : List Entry). releases_seen setup h s p) (begin-only setup of_family closed before legal)
          ∙ seen-only (to_begin before) (legal-begin setup of_family closed before legal) s mine p in
          let earlier : releases_seen setup (drop 1 (to_begin (only of_family before))) s p ≡ releases_seen setup (drop 1 (to_begin before)) s p =
          ap (λ (h : List Entry). releases_seen setup h s p) (begun-only before legal)
          ∙ seen-only (drop 1 (to_begin before)) (legal-begun before legal) s mine p in
          cc

  pub at-finish-only : (before : List Entry) → Legal setup before → (s : SessionNo) → of_family s ≡ true
      → at_finish setup (only of_family before) s ≡ at_finish setup before s
  at-finish-only before legal s mine = rw (frame-took-only before legal s mine, tokens-only before legal s mine) refl

  -- ---- an entry that is kept

  module _ (before : List Entry) (e : Entry) (legal : Legal setup (before ▹ e)) (kept : is_kept of_family e ≡ true) where
    pub kept-is : only of_family (before ▹ e) ≡ (only of_family before ▹ e)
    kept-is = rw kept refl

    told-same : (p : PairNo) (watcher : Watcher) → IsFamilyPair setup of_family closed (pair_watched watcher)
        → told_event setup p watcher (only of_family before) e ≡ told_event setup p watcher before e
    told-same p watcher pair =
        let now : told setup (only of_family before ▹ e) watcher ≡ told setup (before ▹ e) watcher =
        rw kept at (told-only setup of_family closed watcher pair (before ▹ e) legal) in
        rw (watching-only setup of_family closed watcher pair before legal.0, now) refl

    at-begin-same : (s : SessionNo) → of_family s ≡ true → at_begin setup (only of_family before) e s ≡ at_begin setup before e s
    at-begin-same s mine =
        same-credits _ _ _ _ _ _ _ _
        (took-only setup of_family closed before legal.0 s mine)
        (ap (λ (h : List Entry). taken setup h s) (sym kept-is) ∙ took-only setup of_family closed (before ▹ e) legal s mine)
        (ap (λ (h : List Entry). credits setup h s) (sym kept-is) ∙ credits-only setup of_family closed (before ▹ e) legal s mine)
        (credits-only setup of_family closed before legal.0 s mine)

    news-same : (s : SessionNo) → of_family s ≡ true → news_for setup (only of_family before) e s ≡ news_for setup before e s
    news-same s mine =
        five-same _ _ _ _ _ _ _ _ _ _
        (flat-same (owns_view setup s) _ _ (λ p owns. told-same p (layout_of p) (pair-of-view setup of_family closed p s mine owns)) (views_of setup s)
        (views-owned setup s))
        (flat-same (owns_view setup s) _ _ (λ p owns. told-same p (status_of p) (pair-of-view setup of_family closed p s mine owns)) (views_of setup s)
        (views-owned setup s))
        (flat-same (owns_viewport setup s) _ _ (λ p owns.
        rw (viewports-only setup of_family closed p (pair-of-viewport setup of_family closed p s mine owns) before legal.0)
        (flat-each _ _ (λ n. told-same p (child_of p n) (pair-of-viewport setup of_family closed p s mine owns)) (up_to (length (viewport_uses p before)))))
        (viewports_of setup s) (viewports-owned setup s))
        (ap (λ (l : List Event). cond (is_finish e.kind) l []) (at-finish-only before legal.0 s mine))
        (ap (λ (l : List Event). cond (is_begin e.kind) l []) (at-begin-same s mine))

    -- it posts the same to a session of the family
    pub events-kept : (s : SessionNo) → of_family s ≡ true → events_to setup (only of_family before) e s ≡ events_to setup before e s
    events-kept s mine =
        let shut : is_closed s (only of_family before ▹ e) ≡ is_closed s (before ▹ e) = ap (is_closed s) (sym kept-is) ∙ closed-only (before ▹ e) s mine in
        ap (λ (b : Bool). cond b [] (news_for setup (only of_family before) e s)) shut
        ∙ ap (λ (l : List Event). cond (is_closed s (before ▹ e)) [] l) (news-same s mine)

  -- ---- an entry that is dropped

  module _ (before : List Entry) (e : Entry) (legal : Legal setup (before ▹ e)) (out : is_kept of_family e ≡ false) where
    dropped-is : only of_family (before ▹ e) ≡ only of_family before
    dropped-is = rw out refl

    told-none : (p : PairNo) (watcher : Watcher) → IsFamilyPair setup of_family closed (pair_watched watcher)
        → is_open setup (listener setup watcher) before ≡ true → told_event setup p watcher before e ≡ []
    told-none p watcher pair listens =
        let still : told setup (before ▹ e) watcher ≡ told setup before watcher =
        sym (told-only setup of_family closed watcher pair (before ▹ e) legal)
        ∙ (ap (λ (h : List Entry). told setup h watcher) dropped-is ∙ told-only setup of_family closed watcher pair before legal.0) in
        let rests : settled true (told setup before watcher) (watching setup watcher before) ≡ watching setup watcher before =
        rw listens at (at-rest setup watcher before) in
        rw still (rest-none p (answer (told setup before watcher) (watching setup watcher before)) (watching setup watcher before) rests)

    still-open : (s : SessionNo) → of_family s ≡ true → is_closed s (before ▹ e) ≡ is_closed s before
    still-open s mine = sym (closed-only (before ▹ e) s mine) ∙ (ap (is_closed s) dropped-is ∙ closed-only before s mine)

    news-none : (s : SessionNo) → of_family s ≡ true → is_closed s before ≡ false → news_for setup before e s ≡ []
    news-none s mine going =
        five-same _ [] _ [] _ [] _ [] _ []
        (flat-none (owns_view setup s) _ (λ p owns. told-none p (layout_of p) (pair-of-view setup of_family closed p s mine owns)
        (hears-view setup (view_owner setup p) s before owns going)) (views_of setup s) (views-owned setup s))
        (flat-none (owns_view setup s) _ (λ p owns. told-none p (status_of p) (pair-of-view setup of_family closed p s mine owns)
        (hears-view setup (view_owner setup p) s before owns going)) (views_of setup s) (views-owned setup s))
        (flat-none (owns_viewport setup s) _ (λ p owns.
        flat_map-none _ (up_to (length (viewport_uses p before)))
        (λ n. told-none p (child_of p n) (pair-of-viewport setup of_family closed p s mine owns)
        (hears-viewport setup (viewport_owner setup p) s before owns going))) (viewports_of setup s) (viewports-owned setup s))
        (ap (λ (b : Bool). cond b (at_finish setup before s) []) (no-frame setup of_family closed e.kind e.actor out legal.1.may.acts).1)
        (ap (λ (b : Bool). cond b (at_begin setup before e s) []) (no-frame setup of_family closed e.kind e.actor out legal.1.may.acts).0)

    -- it posts nothing to a session of the family
    pub events-dropped : (s : SessionNo) → of_family s ≡ true → events_to setup before e s ≡ []
    events-dropped s mine = by_open (is_closed s (before ▹ e)) refl
      where
        by_open : (b : Bool) → is_closed s (before ▹ e) ≡ b → cond b [] (news_for setup before e s) ≡ []
        by_open true shut = refl
        by_open false going = news-none s mine (sym (still-open s mine) ∙ going)
