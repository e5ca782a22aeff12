-- What is kept of all gets after a get.
use Rattle.std.proofs.Common.{◌≡◌, ◌≢◌, ◌∙◌, sym, subst, ℕ, ◌+◌, ◌-◌, ◌<◌, Bool, true, false, List, length, refl, arith, ap, slice_set, slice_index_or, inl}
use Rattle.std.proofs.Common.{inr, ◌⊎◌, None, Some}
use Rattle.std.specs.Prelude.{Option, cond, not, option_map, unwrap_or, sum_by, ◌&&◌, ◌==◌}
use Rattle.std.proofs.lemmas.Bool.Decides.{nat_tests}
use Rattle.std.proofs.lemmas.List.{length-set}
use Rattle.std.proofs.lemmas.List.Sums.{sum_by-set}
use Rattle.flat_base.specs.declared.ids.Actor.TheVariants.{Session}
use Rattle.flat_base.specs.declared.ids.PairNo.{PairNo}
use Rattle.flat_base.specs.declared.ids.SessionNo.{SessionNo}
use Rattle.flat_scene.specs.declared.calls.Watch.{Watch}
use Rattle.flat_scene.specs.declared.journal.Entry.{Entry}
use Rattle.flat_scene.specs.declared.journal.EntryKind.{EntryKind}
use Rattle.flat_scene.specs.declared.journal.EntryKind.TheVariants.{Get}
use Rattle.flat_scene.specs.declared.journal.Reply.{Reply}
use Rattle.flat_scene.specs.declared.journal.WatcherValue.{WatcherValue}
use Rattle.flat_scene.specs.declared.setup.Setup.{Setup}
use Rattle.flat_scene.specs.History.{◌▹◌, is_finish, is_session, own}
use Rattle.flat_scene.specs.Setups.{is_declared}
use Rattle.flat_watch.specs.HangingGets.{after_get}
use Rattle.flat_watch.specs.Told.{Watching}
use Rattle.flat_facts.specs.Pairs.{pair}
use Rattle.flat_facts.proofs.lemmas.Between.{is_viewport}
use Rattle.flat_states.proofs.lemmas.Changes.{changed-one, not-session}
use Rattle.flat_states.proofs.lemmas.Counts.{at-session, declared-some, same-number}
use Rattle.flat_rules.specs.Ends.{viewport_uses, viewport_owner, view_owner, viewports_of, views_of}
use Rattle.flat_rules.specs.Legal.{Legal, answers, is_now, number_if, owns_view, owns_viewport}
use Rattle.flat_rules.specs.Kinds.{is_get}
use Rattle.flat_rules.specs.Local.{pair_watched}
use Rattle.flat_rules.specs.Numbers.{number, AllNumbered}
use Rattle.flat_rules.specs.Watch.{Watcher, layout_of, status_of, child_of, watching, told, asked, same_watcher, watcher_of}
use Rattle.flat_rules.proofs.lemmas.SameWatchers.{same-is}
use Rattle.flat_gets.specs.declared.pair.PairWatchers.{PairWatchers}
use Rattle.flat_gets.specs.declared.pair.WatchedPart.{WatchedPart}
use Rattle.flat_gets.specs.declared.pair.WatchedPart.TheVariants as parts
use Rattle.flat_gets.specs.declared.watching.Watchers.{Watchers}
use Rattle.flat_gets.specs.Listed.{AreListed, IsList, KeptGets, view_waits, viewport_waits, waits_at, with_pair}
use Rattle.flat_gets.specs.Pairs.{AreAt, IsGot, former_gets, is_child, part_of, waiting_in, watcher_at}
use Rattle.flat_gets.specs.Watchers.{AreWatched, IsAsked, answers_in, is_held, watcher_meant}
use Rattle.flat_gets.proofs.GetOwners.{IsMeant, of_layout, of_status, of_child, others-unasked}
use Rattle.flat_gets.proofs.GetSteps.{rests-between}
use Rattle.flat_gets.proofs.WatchFacts.{no-use}
use Rattle.flat_gets.proofs.WatchedAnswers.{answers-rest}
use Rattle.flat_gets.proofs.WatchLists.{list-fewer, list-more, list-owned, view-decl, viewport-decl, views_test, viewports_test, waits-other}
use Rattle.flat_gets.proofs.WatchedJoins.{due-set, fewer-set}
use Rattle.flat_rules.proofs.lemmas.WatchLocal.{one-viewport}
use Rattle.flat_gets.proofs.WatchedPairs.{at-rested, formers-below, formers-same}
use Rattle.flat_gets.proofs.GotHangingGets.{answer_of, got-few, got-viewports, got-views, meant, other-rests, own-counted, own-got, unheld-viewports}
use Rattle.flat_gets.proofs.GotHangingGets.{unheld-views}
use Rattle.flat_gets.proofs.GotHangingGets.{watched-pair}

-- ---- all of them

module _ (setup : Setup) (h : List Entry) (e : Entry) (legal : Legal setup (h ▹ e)) (s : SessionNo) (is : e.actor ≡ Session s) (get : Watch)
    (asks : e.kind ≡ Get get) (p : PairNo) (means : watcher_of setup h (Session s) e.calls get ≡ Some (watcher_meant h get p)) where
  abbrev w : Watcher
  w = watcher_meant h get p

  abbrev K : EntryKind → Type 0
  K kind = (is_finish kind ≡ false) × (is_viewport kind ≡ false)

  kind_is : K e.kind
  kind_is = subst K (sym asks) (refl, refl)

  same-uses : (q : PairNo) → length (viewport_uses q (h ▹ e)) ≡ length (viewport_uses q h)
  same-uses q = no-use setup h e legal kind_is.1 q

  rest : (v : Watcher) → same_watcher v w ≡ false → watching setup v (h ▹ e) ≡ watching setup v h
  rest v other = other-rests setup h e legal s is get asks w means v other

  other-at : (j : ℕ) (x : PairWatchers) → j ≢ p.0 → AreAt setup h h (pair j) x → AreAt setup (h ▹ e) (h ▹ e) (pair j) x
  other-at j x differ old = at-rested setup h (h ▹ e) (pair j) x old (λ v of. rest v (apart v of (same_watcher v w) refl)) (same-uses (pair j))
    where
      apart : (v : Watcher) → pair_watched v ≡ pair j → (b : Bool) → same_watcher v w ≡ b → b ≡ false
      apart v of false other = refl
      apart v of true same =
          let it : v ≡ w = same-is v w same in
          let number : j ≡ p.0 = ap (λ (x : PairNo). x.0) (sym of) ∙ ap (λ (x : Watcher). (pair_watched x).0) it
          ∙ ap (λ (x : PairNo). x.0) (watched-pair (part_of get) p (length (viewport_uses p h))) in
          absurd (differ number)

  own-at : (was then : PairWatchers) → AreAt setup h h p was → IsGot (part_of get) get (told setup h (watcher_at (part_of get) p 0)) was then
      → AreAt setup (h ▹ e) (h ▹ e) p then
  own-at was then old gets = by_part (part_of get) gets (own-got setup h e legal s is get asks w means) rest
    where
      n : ℕ
      n = length (viewport_uses p h)

      f : ℕ → Watching
      f k = watching setup (child_of p k) h

      g : ℕ → Watching
      g k = watching setup (child_of p k) (h ▹ e)

      itself : (p.0 == p.0) ≡ true
      itself = grind (arith, nat_tests)

      by_part : (part : WatchedPart) → IsGot part get (told setup h (watcher_at part p 0)) was then
          → watching setup (watcher_at part p n) (h ▹ e) ≡ after_get get (told setup h (watcher_at part p n)) (watching setup (watcher_at part p n) h)
          → ((v : Watcher) → same_watcher v (watcher_at part p n) ≡ false → watching setup v (h ▹ e) ≡ watching setup v h) → AreAt setup (h ▹ e) (h ▹ e) p then
      by_part parts.Layout got_one own_one rests = record {
        layout = got_one.layout ∙ ap (after_get get (told setup h (layout_of p))) old.layout ∙ sym own_one;
        status = got_one.status ∙ old.status ∙ sym (rests (status_of p) refl);
        child = got_one.child ∙ old.child ∙ sym (rests (child_of p n) refl) ∙ ap g (sym (same-uses p));
        former = got_one.former ∙ old.former ∙ formers-same f g (λ k. sym (rests (child_of p k) refl)) (n - 1)
            ∙ ap (λ (m : ℕ). former_gets g (m - 1)) (sym (same-uses p));
      }
      by_part parts.Status got_one own_one rests = record {
        layout = got_one.layout ∙ old.layout ∙ sym (rests (layout_of p) refl);
        status = got_one.status ∙ ap (after_get get (told setup h (status_of p))) old.status ∙ sym own_one;
        child = got_one.child ∙ old.child ∙ sym (rests (child_of p n) refl) ∙ ap g (sym (same-uses p));
        former = got_one.former ∙ old.former ∙ formers-same f g (λ k. sym (rests (child_of p k) refl)) (n - 1)
            ∙ ap (λ (m : ℕ). former_gets g (m - 1)) (sym (same-uses p));
      }
      by_part parts.Child got_one own_one rests = record {
        layout = got_one.layout ∙ old.layout ∙ sym (rests (layout_of p) refl);
        status = got_one.status ∙ old.status ∙ sym (rests (status_of p) refl);
        child = got_one.child ∙ ap (after_get get (told setup h (child_of p n))) old.child ∙ sym own_one ∙ ap g (sym (same-uses p));
        former =
            got_one.former ∙ old.former ∙ formers-below f g (n - 1)
            (λ k some low. sym (rests (child_of p k) (let differ : (k == n) ≡ false = grind (arith, nat_tests) in rw (itself, differ) refl)))
            ∙ ap (λ (m : ℕ). former_gets g (m - 1)) (sym (same-uses p));
      }

  -- who isn't the asking session
  other-answers : (j : ℕ) → 0 < s.0 → j ≢ s.0 - 1 → answers setup (number j) (h ▹ e) ≡ answers setup (number j) h
  other-answers j some other =
      let theirs : is_session (number j) e.actor ≡ false = ap (is_session (number j)) is ∙ not-session s j some other in
      answers-rest setup h e legal (number j) (ap (λ (b : Bool). b && is_now e.reply) theirs)
      (λ v heard. let idle = others-unasked setup h e legal (number j) theirs v heard in (idle, rests-between setup h e legal kind_is.0 kind_is.1 v idle))

  -- who owns the end that is watched
  owner-is : (part : WatchedPart) → IsMeant setup h s (watcher_at part p (length (viewport_uses p h)))
      → ((is_child part ≡ false) × (owns_view setup s p ≡ true)) ⊎ ((is_child part ≡ true) × (owns_viewport setup s p ≡ true))
  owner-is part meant_is = by_meant part (watcher_at part p (length (viewport_uses p h))) refl meant_is
    where
      by_meant : (part : WatchedPart) (v : Watcher) → v ≡ watcher_at part p (length (viewport_uses p h)) → IsMeant setup h s v
          → ((is_child part ≡ false) × (owns_view setup s p ≡ true)) ⊎ ((is_child part ≡ true) × (owns_viewport setup s p ≡ true))
      by_meant parts.Layout v at (of_layout q owned) = let same : q ≡ p = cc in inl (refl, subst (λ (r : PairNo). owns_view setup s r ≡ true) same owned)
      by_meant parts.Layout v at (of_status q owned) = absurd (cc)
      by_meant parts.Layout v at (of_child q owned some) = absurd (cc)
      by_meant parts.Status v at (of_layout q owned) = absurd (cc)
      by_meant parts.Status v at (of_status q owned) = let same : q ≡ p = cc in inl (refl, subst (λ (r : PairNo). owns_view setup s r ≡ true) same owned)
      by_meant parts.Status v at (of_child q owned some) = absurd (cc)
      by_meant parts.Child v at (of_layout q owned) = absurd (cc)
      by_meant parts.Child v at (of_status q owned) = absurd (cc)
      by_meant parts.Child v at (of_child q owned some) = let same : q ≡ p = cc in inr (refl, subst (λ (r : PairNo). owns_viewport setup s r ≡ true) same owned)

  -- what is listed then
  module _ (old : List PairWatchers) (was then : PairWatchers) (now : Option WatcherValue) (below : p.0 < length old) (at : was ≡ slice_index_or old p.0 was)
      (gets : IsGot (part_of get) get now was then) where
    abbrev new_pairs : List PairWatchers
    new_pairs = slice_set old p.0 then

    own-lists : (held : Bool) → is_held (answer_of get now was then (part_of get)) ≡ held → (from to : KeptGets)
        → to.views ≡ cond (held && not (is_child (part_of get))) (with_pair p from.views) from.views
        → to.viewports ≡ cond (held && is_child (part_of get)) (with_pair p from.viewports) from.viewports → AreListed setup s old from
        → AreListed setup s new_pairs to
    own-lists false silent from to views viewports lists = record {
      views = subst (λ (l : List PairNo). IsList (owns_view setup s) (views_of setup s) view_waits new_pairs l) (sym views)
          (list-fewer (owns_view setup s) (views_of setup s) view_waits old new_pairs from.views
          (fewer-set view_waits old p.0 was then below at (unheld-views get now was then (part_of get) gets silent)) lists.views);
      viewports = subst (λ (l : List PairNo). IsList (owns_viewport setup s) (viewports_of setup s) viewport_waits new_pairs l) (sym viewports)
          (list-fewer (owns_viewport setup s) (viewports_of setup s) viewport_waits old new_pairs from.viewports
          (fewer-set viewport_waits old p.0 was then below at (unheld-viewports get now was then (part_of get) gets silent)) lists.viewports);
    }
    own-lists true waits from to views viewports lists = by_owner (owner-is (part_of get) (meant setup h e legal s is get asks w means))
      where
        by_owner : ((is_child (part_of get) ≡ false) × (owns_view setup s p ≡ true)) ⊎ ((is_child (part_of get) ≡ true) × (owns_viewport setup s p ≡ true))
            → AreListed setup s new_pairs to
        by_owner (inl own) =
            let d = view-decl setup s p own.1 in
            let more : to.views ≡ with_pair p from.views = views ∙ ap (λ (b : Bool). cond (not b) (with_pair p from.views) from.views) own.0 in
            let same : to.viewports ≡ from.viewports = viewports ∙ ap (λ (b : Bool). cond b (with_pair p from.viewports) from.viewports) own.0 in
            record {
              views = subst (λ (l : List PairNo). IsList (owns_view setup s) (views_of setup s) view_waits new_pairs l) (sym more)
                  (list-more (owns_view setup s) (views_test s) setup.pairs view_waits p d.decl d.at d.tested old new_pairs from.views
                  (λ q differ none. waits-other view_waits old p.0 then q differ ∙ none) lists.views);
              viewports = subst (λ (l : List PairNo). IsList (owns_viewport setup s) (viewports_of setup s) viewport_waits new_pairs l) (sym same)
                  (list-fewer (owns_viewport setup s) (viewports_of setup s) viewport_waits old new_pairs from.viewports
                  (fewer-set viewport_waits old p.0 was then below at (got-viewports get now was then (part_of get) own.0 gets)) lists.viewports);
            }
        by_owner (inr own) =
            let d = viewport-decl setup s p own.1 in
            let same : to.views ≡ from.views = views ∙ ap (λ (b : Bool). cond (not b) (with_pair p from.views) from.views) own.0 in
            let more : to.viewports ≡ with_pair p from.viewports = viewports ∙ ap (λ (b : Bool). cond b (with_pair p from.viewports) from.viewports) own.0 in
            record {
              views = subst (λ (l : List PairNo). IsList (owns_view setup s) (views_of setup s) view_waits new_pairs l) (sym same)
                  (list-fewer (owns_view setup s) (views_of setup s) view_waits old new_pairs from.views
                  (fewer-set view_waits old p.0 was then below at (got-views get now was then (part_of get) own.0 gets)) lists.views);
              viewports = subst (λ (l : List PairNo). IsList (owns_viewport setup s) (viewports_of setup s) viewport_waits new_pairs l) (sym more)
                  (list-more (owns_viewport setup s) (viewports_test s) setup.pairs viewport_waits p d.decl d.at d.tested old new_pairs from.viewports
                  (λ q differ none. waits-other viewport_waits old p.0 then q differ ∙ none) lists.viewports);
            }

    other-lists : (t : SessionNo) → t.0 ≢ s.0 → (from : KeptGets) → AreListed setup t old from → AreListed setup t new_pairs from
    other-lists t differ from lists = by_owner (owner-is (part_of get) (meant setup h e legal s is get asks w means))
      where
        kept : (waits : PairWatchers → Bool) (q : PairNo) → (q.0 ≡ p.0 → ⊥) → waits_at waits old q ≡ false → waits_at waits new_pairs q ≡ false
        kept waits q other none = waits-other waits old p.0 then q other ∙ none

        by_owner : ((is_child (part_of get) ≡ false) × (owns_view setup s p ≡ true)) ⊎ ((is_child (part_of get) ≡ true) × (owns_viewport setup s p ≡ true))
            → AreListed setup t new_pairs from
        by_owner (inl own) = record {
          views = list-owned (owns_view setup t) (views_of setup t) view_waits old new_pairs from.views
              (λ q mine none. kept view_waits q (λ same. differ
              (one-view (view_owner setup p) (ap (λ (n : ℕ). owns_view setup t (record { 0 = n })) (sym same) ∙ mine) own.1)) none) lists.views;
          viewports = list-fewer (owns_viewport setup t) (viewports_of setup t) viewport_waits old new_pairs from.viewports
              (fewer-set viewport_waits old p.0 was then below at (got-viewports get now was then (part_of get) own.0 gets)) lists.viewports;
        }
          where
            one-view : (o : Option SessionNo) → unwrap_or (option_map (λ u. u.0 == t.0) o) false ≡ true
                → unwrap_or (option_map (λ u. u.0 == s.0) o) false ≡ true → t.0 ≡ s.0
            one-view None a b = cc
            one-view (Some u) a b = grind (arith, nat_tests)
        by_owner (inr own) = record {
          views = list-fewer (owns_view setup t) (views_of setup t) view_waits old new_pairs from.views
              (fewer-set view_waits old p.0 was then below at (got-views get now was then (part_of get) own.0 gets)) lists.views;
          viewports = list-owned (owns_viewport setup t) (viewports_of setup t) viewport_waits old new_pairs from.viewports
              (λ q mine none. kept viewport_waits q (λ same. differ
              (ap (λ (r : SessionNo). r.0) (one-viewport (viewport_owner setup p) t s
              (ap (λ (n : ℕ). owns_viewport setup t (record { 0 = n })) (sym same) ∙ mine) own.1))) none) lists.viewports;
        }

  pub watched-asked : is_declared setup s ≡ true → p.0 < length setup.pairs → (old new : Watchers) → IsAsked setup h s p get e.reply old new
      → AreWatched setup h old → AreWatched setup (h ▹ e) new
  watched-asked declared within old new asked are =
      let here = declared-some s.0 setup.sessions declared in
      let value : Option WatcherValue = told setup h (watcher_at (part_of get) p 0) in
      let below : p.0 < length old.pairs.items = omega (arith, within, are.count) in
      let place : s.0 - 1 < length old.sessions.items = omega (arith, here.0, here.1, are.sessions) in
      let its : AreAt setup h h p asked.was = subst (AreAt setup h h p) (sym asked.of_was) (are.each p.0 asked.was below) in
      let from_own : asked.from.answers ≡ answers setup s h =
      at-session (λ t one. one.answers ≡ answers setup t h) old.sessions.items s asked.from are.answered here.0 (omega (arith, here.1, are.sessions))
      asked.of_from in
      let from_lists : AreListed setup s old.pairs.items asked.from =
      at-session (λ t one. AreListed setup t old.pairs.items one) old.sessions.items s asked.from are.listed here.0 (omega (arith, here.1, are.sessions))
      asked.of_from in
      let silent : is_held (answer_of get value asked.was asked.then (part_of get)) ≡ is_held e.reply = ap is_held (sym asked.replied) in
      let few = got-few get value asked.was asked.then (part_of get) asked.gets in
      let now_is : number_if (is_now (answer_of get value asked.was asked.then (part_of get))) ≡ number_if (is_now e.reply) =
      ap (λ (r : Reply). number_if (is_now r)) (sym asked.replied) in
      let made : number_if (is_get e.kind) ≡ 1 = ap (λ (k : EntryKind). number_if (is_get k)) asks in
      let total : sum_by answers_in (slice_set old.sessions.items (s.0 - 1) asked.to) ≡ sum_by answers_in old.sessions.items + number_if (is_now e.reply) =
      omega (arith, sum_by-set answers_in old.sessions.items (s.0 - 1) asked.to asked.from place, ap answers_in asked.of_from, asked.counted) in
      record {
        count = ap (length {A = PairWatchers}) asked.pairs_are ∙ length-set old.pairs.items p.0 asked.then ∙ are.count;
        sessions = ap (length {A = KeptGets}) asked.sessions_are ∙ length-set old.sessions.items (s.0 - 1) asked.to ∙ are.sessions;
        each =
            let A : List PairWatchers → Type 0 = AllNumbered (λ i. AreAt setup (h ▹ e) (h ▹ e) (pair i)) in
            subst A (sym asked.pairs_are)
            (changed-one (λ i. AreAt setup h h (pair i)) (λ i. AreAt setup (h ▹ e) (h ▹ e) (pair i)) old.pairs.items p.0 asked.then other-at
            (own-at asked.was asked.then its asked.gets) are.each);
        answered =
            let A : List KeptGets → Type 0 = AllNumbered (λ i one. one.answers ≡ answers setup (number i) (h ▹ e)) in
            let N : SessionNo → Type 0 = λ t. asked.to.answers ≡ answers setup t (h ▹ e) in
            let own_now : asked.to.answers ≡ answers setup s (h ▹ e) =
            own-counted setup h e legal s is get asks w means asked.from.answers asked.to.answers from_own asked.counted in
            subst A (sym asked.sessions_are)
            (changed-one (λ i one. one.answers ≡ answers setup (number i) h) (λ i one. one.answers ≡ answers setup (number i) (h ▹ e)) old.sessions.items
            (s.0 - 1) asked.to (λ j one other kept. kept ∙ sym (other-answers j here.0 other))
            (subst N (sym (same-number s here.0)) own_now) are.answered);
        listed =
            let L : List PairWatchers → List KeptGets → Type 0 = λ ps ss. AllNumbered (λ i. AreListed setup (number i) ps) ss in
            let pairs : List PairWatchers = slice_set old.pairs.items p.0 asked.then in
            let own_now : AreListed setup s pairs asked.to = own-lists old.pairs.items asked.was asked.then value below asked.of_was asked.gets
            (is_held e.reply) silent asked.from asked.to asked.views asked.viewports from_lists in
            let N : SessionNo → Type 0 = λ t. AreListed setup t pairs asked.to in
            let changed : L pairs (slice_set old.sessions.items (s.0 - 1) asked.to) =
            changed-one (λ i. AreListed setup (number i) old.pairs.items) (λ i. AreListed setup (number i) pairs) old.sessions.items (s.0 - 1) asked.to
            (λ j one other kept. other-lists old.pairs.items asked.was asked.then value below asked.of_was asked.gets (number j)
            (λ same. other (omega (arith, same))) one kept)
            (subst N (sym (same-number s here.0)) own_now) are.listed in
            subst (λ (ss : List KeptGets). L new.pairs.items ss) (sym asked.sessions_are)
            (subst (λ (ps : List PairWatchers). L ps (slice_set old.sessions.items (s.0 - 1) asked.to)) (sym asked.pairs_are) changed);
        few =
            omega (
              arith,
              are.few,
              due-set old.pairs.items p.0 asked.was asked.then below asked.of_was,
              ap (sum_by waiting_in) asked.pairs_are,
              ap (sum_by answers_in) asked.sessions_are,
              total,
              few,
              now_is,
              made,
            );
      }
