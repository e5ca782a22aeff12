-- What the watchers of a session hold, and what an entry that asks none of them answers.
use Rattle.std.proofs.Common.{◌≡◌, ◌≢◌, ◌∙◌, sym, ℕ, ◌<◌, Bool, true, false, List, [], ◌∷◌, ◌++◌, length, map, refl, arith, ap, Some, None, inl, inr, ◌⊎◌}
use Rattle.std.specs.Prelude.{cond, Option, flat_map, option_and_then, option_map, unwrap_or, ◌==◌, ◌&&◌}
use Rattle.std.specs.List.{list_all}
use Rattle.std.specs.Result.{result_ok}
use Rattle.std.proofs.lemmas.Bool.Decides.{nat_tests}
use Rattle.std.proofs.lemmas.List.{append-nil}
use Rattle.flat_base.specs.declared.ids.Actor.{Actor}
use Rattle.flat_base.specs.declared.ids.Actor.TheVariants.{Display, Session, Probe}
use Rattle.flat_base.specs.declared.ids.PairNo.{PairNo}
use Rattle.flat_base.specs.declared.ids.SessionNo.{SessionNo}
use Rattle.flat_scene.specs.declared.calls.Call.{Call}
use Rattle.flat_scene.specs.declared.calls.Watch.{Watch}
use Rattle.flat_scene.specs.declared.calls.Watch.TheVariants as watch
use Rattle.flat_scene.specs.declared.journal.Entry.{Entry}
use Rattle.flat_scene.specs.declared.journal.Event.{Event}
use Rattle.flat_scene.specs.declared.journal.WatcherValue.{WatcherValue}
use Rattle.flat_scene.specs.declared.setup.Setup.{Setup}
use Rattle.flat_scene.specs.Draft.{Draft, Made, an_image, a_fill, a_viewport, made_of}
use Rattle.flat_scene.specs.Effect.{draft_of}
use Rattle.flat_scene.specs.History.{◌▹◌, calls, is_closed, is_finish, is_begin, is_session}
use Rattle.flat_watch.specs.Told.{Watching, answer, news, settled}
use Rattle.flat_rules.specs.Ends.{view_owner, viewport_owner, viewport_uses, views_of, viewports_of}
use Rattle.flat_gets.specs.Gets.{held_with, held_of, helds_of, hears, watchers_of, news_of, answers_to}
use Rattle.flat_rules.specs.Legal.{owns_view, owns_viewport}
use Rattle.flat_rules.specs.Local.{pair_watched}
use Rattle.flat_rules.specs.Posts.{told_event, event_of, events_to, at_finish, at_begin, up_to}
use Rattle.flat_rules.specs.Watch.{Watcher, layout_of, status_of, child_of, watching, told, asked, is_open, listener, watcher_of, watcher_in, watcher_of_made}
use Rattle.flat_rules.specs.Watch.{is_watcher}
use Rattle.flat_rules.proofs.lemmas.AllOrSome.{all-append, all-every, all-flat, all-map, flat-nested}
use Rattle.flat_rules.proofs.lemmas.SameWatchers.{nothing-settled}
use Rattle.std.proofs.lemmas.Grind.{flat_map-append}
use Rattle.flat_rules.proofs.lemmas.EventsLocal.{views-owned, viewports-owned, hears-viewport}
use Rattle.flat_rules.proofs.lemmas.Watchers.{settled-now, unasked}
use Rattle.flat_rules.proofs.lemmas.ListLemmas.{flat-each}
use Rattle.std.proofs.lemmas.List.Folds.{flat_map-map}

-- ---- who hears

pub owner-hears : (s : SessionNo) (o : Option SessionNo) → unwrap_or (option_map (λ t. t.0 == s.0) o) false ≡ true
    → unwrap_or (option_map (is_session s) (option_map Session o)) false ≡ true
owner-hears s None owned = owned
owner-hears s (Some t) owned = owned

pub owner-heard : (s : SessionNo) (o : Option SessionNo) → unwrap_or (option_map (is_session s) (option_map Session o)) false ≡ true
    → unwrap_or (option_map (λ t. t.0 == s.0) o) false ≡ true
owner-heard s None heard = heard
owner-heard s (Some t) heard = heard

module _ (setup : Setup) where
  -- a session is told of all its watchers
  pub watchers-heard : (h : List Entry) (s : SessionNo) → list_all (hears setup s) (watchers_of setup h s) ≡ true
  watchers-heard h s =
      let o : Watcher → Bool = hears setup s in
      let children : PairNo → List Watcher = λ p. map (child_of p) (up_to (length (viewport_uses p h))) in
      let views : (p : PairNo) → owns_view setup s p ≡ true → unwrap_or (option_map (is_session s) (option_map Session (view_owner setup p))) false ≡ true =
      λ p owned. owner-hears s (view_owner setup p) owned in
      all-append o (map layout_of (views_of setup s) ++ map status_of (views_of setup s)) _
      (all-append o (map layout_of (views_of setup s)) _ (all-map o (owns_view setup s) layout_of views (views_of setup s) (views-owned setup s))
      (all-map o (owns_view setup s) status_of views (views_of setup s) (views-owned setup s)))
      (all-flat o (owns_viewport setup s) children (λ p owned. all-map o (λ n. true) (child_of p) (λ n any. owned) (up_to (length (viewport_uses p h)))
      (all-every (λ n. true) (λ n. refl) (up_to (length (viewport_uses p h))))) (viewports_of setup s) (viewports-owned setup s))

  pub hears-open : (s : SessionNo) (w : Watcher) (h : List Entry) → hears setup s w ≡ true → is_closed s h ≡ false → is_open setup (listener setup w) h ≡ true
  hears-open s w h heard opened = hears-viewport setup (listener setup w) s h heard opened

shaped : (closed ends begins : Bool) (all finish begin : List Event) → closed ≡ false → begins ≡ false
    → cond closed [] (all ++ cond ends finish [] ++ cond begins begin []) ≡ (all ++ cond ends finish [])
shaped true ends begins all finish begin opened no_begin = cc
shaped false ends true all finish begin opened no_begin = cc
shaped false ends false all finish begin opened no_begin = append-nil (all ++ cond ends finish [])

-- ---- the answer to a held get is the event

event-answers : (w : Watcher) (now : Watcher → Option WatcherValue) (last : Option WatcherValue) (waits : Option Watch)
    → event_of (pair_watched w) waits (answer (now w) (record { last = last; waits = waits })) ≡ answers_to now (held_with w last waits)
event-answers w now last None = refl
event-answers w now last (Some get) = sym (append-nil (event_of (pair_watched w) (Some get) (news (now w) last)))

module _ (setup : Setup) where
  -- ---- what an entry answers

  pub event-after : (w : Watcher) (h : List Entry) (e : Entry) → told_event setup (pair_watched w) w h e ≡ answers_to (told setup (h ▹ e)) (held_of setup h w)
  event-after w h e = let v : Watching = watching setup w h in event-answers w (told setup (h ▹ e)) v.last v.waits

  -- the answers that an entry gives to a session are those to its held gets
  pub told-part : (s : SessionNo) (h : List Entry) (e : Entry)
      → (flat_map (λ p. told_event setup p (layout_of p) h e) (views_of setup s) ++ flat_map (λ p. told_event setup p (status_of p) h e) (views_of setup s)
      ++ flat_map (λ p. flat_map (λ n. told_event setup p (child_of p n) h e) (up_to (length (viewport_uses p h)))) (viewports_of setup s))
      ≡ answers_to (told setup (h ▹ e)) (helds_of setup h s)
  told-part s h e =
      let now : Watcher → Option WatcherValue = told setup (h ▹ e) in
      let f : Watcher → List Event = λ w. answers_to now (held_of setup h w) in
      let t : Watcher → List Event = λ w. told_event setup (pair_watched w) w h e in
      let views : List PairNo = views_of setup s in
      let uses : PairNo → List ℕ = λ p. up_to (length (viewport_uses p h)) in
      let children : List Watcher = flat_map (λ p. map (child_of p) (uses p)) (viewports_of setup s) in
      let inner : (p : PairNo) → flat_map t (map (child_of p) (uses p)) ≡ flat_map (λ n. told_event setup p (child_of p n) h e) (uses p) =
      λ p. flat_map-map t (child_of p) (uses p) in
      let third : flat_map t children ≡ flat_map (λ p. flat_map (λ n. told_event setup p (child_of p n) h e) (uses p)) (viewports_of setup s) =
      flat-nested t (λ p. map (child_of p) (uses p)) (viewports_of setup s)
      ∙ flat-each (λ p. flat_map t (map (child_of p) (uses p))) (λ p. flat_map (λ n. told_event setup p (child_of p n) h e) (uses p)) inner
      (viewports_of setup s) in
      let whole : flat_map t (watchers_of setup h s)
      ≡ (flat_map (λ p. told_event setup p (layout_of p) h e) views ++ flat_map (λ p. told_event setup p (status_of p) h e) views
      ++ flat_map (λ p. flat_map (λ n. told_event setup p (child_of p n) h e) (uses p)) (viewports_of setup s)) =
      flat_map-append t (map layout_of views ++ map status_of views) children
      ∙ ap (λ (l : List Event). l ++ flat_map t children) (flat_map-append t (map layout_of views) (map status_of views))
      ∙ three-same (flat_map-map t layout_of views) (flat_map-map t status_of views) third in
      sym whole ∙ flat-each t f (λ w. event-after w h e) (watchers_of setup h s)
      ∙ sym (flat-nested (λ one. event_of (pair_watched one.watcher) (Some one.get) (news_of now one)) (held_of setup h) (watchers_of setup h s))
    where
      three-same : {a a' b b' c c' : List Event} → a ≡ a' → b ≡ b' → c ≡ c' → (a ++ b ++ c) ≡ (a' ++ b' ++ c')
      three-same pa pb pc = cc

  -- what an entry of no frame posts to a session that is open
  pub events-told : (s : SessionNo) (h : List Entry) (e : Entry) → is_finish e.kind ≡ false → is_begin e.kind ≡ false → is_closed s (h ▹ e) ≡ false
      → events_to setup h e s ≡ answers_to (told setup (h ▹ e)) (helds_of setup h s)
  events-told s h e no_finish no_begin opened = shaped (is_closed s (h ▹ e)) (is_finish e.kind) (is_begin e.kind) _ (at_finish setup h s) (at_begin setup h e s)
      opened no_begin ∙ if-finish (is_finish e.kind) no_finish
    where
      all : List Event
      all =
          flat_map (λ p. told_event setup p (layout_of p) h e) (views_of setup s) ++ flat_map (λ p. told_event setup p (status_of p) h e) (views_of setup s)
          ++ flat_map (λ p. flat_map (λ n. told_event setup p (child_of p n) h e) (up_to (length (viewport_uses p h)))) (viewports_of setup s)

      if-finish : (b : Bool) → b ≡ false → (all ++ cond b (at_finish setup h s) []) ≡ answers_to (told setup (h ▹ e)) (helds_of setup h s)
      if-finish true is = cc
      if-finish false is = append-nil all ∙ told-part s h e

  -- and the end of a frame
  pub events-finished : (s : SessionNo) (h : List Entry) (e : Entry) → is_finish e.kind ≡ true → is_begin e.kind ≡ false → is_closed s (h ▹ e) ≡ false
      → events_to setup h e s ≡ answers_to (told setup (h ▹ e)) (helds_of setup h s) ++ at_finish setup h s
  events-finished s h e ends no_begin opened = shaped (is_closed s (h ▹ e)) (is_finish e.kind) (is_begin e.kind) _ (at_finish setup h s) (at_begin setup h e s)
      opened no_begin ∙ if-finish (is_finish e.kind) ends
    where
      all : List Event
      all =
          flat_map (λ p. told_event setup p (layout_of p) h e) (views_of setup s) ++ flat_map (λ p. told_event setup p (status_of p) h e) (views_of setup s)
          ++ flat_map (λ p. flat_map (λ n. told_event setup p (child_of p n) h e) (up_to (length (viewport_uses p h)))) (viewports_of setup s)

      if-finish : (b : Bool) → b ≡ true → (all ++ cond b (at_finish setup h s) []) ≡ answers_to (told setup (h ▹ e)) (helds_of setup h s) ++ at_finish setup h s
      if-finish false is = cc
      if-finish true is = ap (λ (l : List Event). l ++ at_finish setup h s) (told-part s h e)

  -- ---- uses to come

  -- the child of a use to come was never asked
  same-use : (p : PairNo) (m : ℕ) (h : List Entry) (w : Option Watcher) → length (viewport_uses p h) < m
      → (w ≡ None) ⊎ ((q : PairNo) × (w ≡ Some (child_of q (length (viewport_uses q h)))))
      ⊎ ((q : PairNo) × ((w ≡ Some (layout_of q)) ⊎ (w ≡ Some (status_of q)))) → is_watcher setup (child_of p m) w ≡ false
  same-use p m h w past (inl none) = rw none refl
  same-use p m h w past (inr (inl (q, is))) = rw is (by_pair (p.0 == q.0) refl)
    where
      by_pair : (b : Bool) → (p.0 == q.0) ≡ b → (b && m == length (viewport_uses q h)) ≡ false
      by_pair false differ = refl
      by_pair true same =
          let number : p.0 ≡ q.0 = grind (arith, nat_tests) in
          let uses : length (viewport_uses p h) ≡ length (viewport_uses q h) = ap (λ (n : ℕ). length (viewport_uses (record { 0 = n }) h)) number in
          let other : m ≢ length (viewport_uses q h) = λ e. absurd (omega (arith, past, uses, e)) in
          grind (arith, nat_tests)
  same-use p m h w past (inr (inr (q, inl is))) = rw is refl
  same-use p m h w past (inr (inr (q, inr is))) = rw is refl

-- what a get watches: a view's, or the child of the last use
means-in : (setup : Setup) (h : List Entry) (d : Draft) (get : Watch)
    → (watcher_in setup h d get ≡ None) ⊎ ((q : PairNo) × (watcher_in setup h d get ≡ Some (child_of q (length (viewport_uses q h)))))
    ⊎ ((q : PairNo) × ((watcher_in setup h d get ≡ Some (layout_of q)) ⊎ (watcher_in setup h d get ≡ Some (status_of q))))
means-in setup h d watch.Layout = by_view d.view
  where
    by_view : (o : Option PairNo) → (option_map layout_of o ≡ None) ⊎ ((q : PairNo) × (option_map layout_of o ≡ Some (child_of q (length (viewport_uses q h)))))
        ⊎ ((q : PairNo) × ((option_map layout_of o ≡ Some (layout_of q)) ⊎ (option_map layout_of o ≡ Some (status_of q))))
    by_view None = inl refl
    by_view (Some q) = inr (inr (q, inl refl))
means-in setup h d watch.Status = by_view d.view
  where
    by_view : (o : Option PairNo) → (option_map status_of o ≡ None) ⊎ ((q : PairNo) × (option_map status_of o ≡ Some (child_of q (length (viewport_uses q h)))))
        ⊎ ((q : PairNo) × ((option_map status_of o ≡ Some (layout_of q)) ⊎ (option_map status_of o ≡ Some (status_of q))))
    by_view None = inl refl
    by_view (Some q) = inr (inr (q, inr refl))
means-in setup h d (watch.Child c) = by_made (made_of d c)
  where
    W : Option Made → Option Watcher
    W m = option_and_then (watcher_of_made setup h) m

    by_made : (m : Option Made) → (W m ≡ None) ⊎ ((q : PairNo) × (W m ≡ Some (child_of q (length (viewport_uses q h)))))
        ⊎ ((q : PairNo) × ((W m ≡ Some (layout_of q)) ⊎ (W m ≡ Some (status_of q))))
    by_made None = inl refl
    by_made (Some (an_image i)) = inl refl
    by_made (Some (a_fill x)) = inl refl
    by_made (Some (a_viewport q props)) = inr (inl (q, refl))

module _ (setup : Setup) (p : PairNo) (m : ℕ) where
  means-other : (h : List Entry) (who : Actor) (carries : List Call) (get : Watch) → length (viewport_uses p h) < m
      → is_watcher setup (child_of p m) (watcher_of setup h who carries get) ≡ false
  means-other h Display carries get past = refl
  means-other h (Probe n) carries get past = refl
  means-other h (Session s) carries get past = by_draft (result_ok (draft_of setup (calls s h ++ carries)))
    where
      by_draft : (o : Option Draft) → is_watcher setup (child_of p m) (option_and_then (λ d. watcher_in setup h d get) o) ≡ false
      by_draft None = refl
      by_draft (Some d) = same-use setup p m h (watcher_in setup h d get) past (means-in setup h d get)

  fewer-uses : (b : Bool) (e : Entry) (xs : List Entry) → length (cond b (e ∷ xs) xs) < m → length xs < m
  fewer-uses true e xs past = omega (arith, past)
  fewer-uses false e xs past = past

  -- the next entry doesn't ask it either
  pub next-fresh : (h : List Entry) (e : Entry) → length (viewport_uses p h) < m → watching setup (child_of p m) h ≡ record { last = None; waits = None }
      → watching setup (child_of p m) (h ▹ e) ≡ record { last = None; waits = None }
  next-fresh h e past old =
      let none : asked setup (child_of p m) h e ≡ None = unasked setup (child_of p m) h e (λ get is. means-other h e.actor e.calls get past) in
      settled-now setup (child_of p m) h e none ∙ ap (λ (v : Watching). settled (is_open setup (viewport_owner setup p) (h ▹ e))
      (told setup (h ▹ e) (child_of p m)) v) old
      ∙ nothing-settled (is_open setup (viewport_owner setup p) (h ▹ e)) (told setup (h ▹ e) (child_of p m))

  pub fresh-use : (h : List Entry) → length (viewport_uses p h) < m → watching setup (child_of p m) h ≡ record { last = None; waits = None }
  fresh-use [] past = refl
  fresh-use (h ▹ e) past =
      let before : length (viewport_uses p h) < m = fewer-uses _ e (viewport_uses p h) past in
      next-fresh h e before (fresh-use h before)
