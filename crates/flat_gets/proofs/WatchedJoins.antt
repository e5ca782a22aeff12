-- What is kept of all gets after the use of a viewport end.
use Rattle.std.proofs.Common.{◌≡◌, ◌≢◌, ◌∙◌, sym, subst, ℕ, ◌+◌, ◌-◌, ◌<◌, Bool, true, false, List, [], ◌∷◌, ◌++◌, length, map, refl, arith, ap, slice_set}
use Rattle.std.proofs.Common.{slice_index_or, inl, inr, ◌⊎◌, None, Some, length-append}
use Rattle.std.specs.Prelude.{Option, cond, is_some, nat_lt, option_map, unwrap_or, sum_by, ◌==◌}
use Rattle.std.proofs.lemmas.Bool.Decides.{eqb_tells, nat_tests}
use Rattle.std.proofs.lemmas.List.{get_or-set_same, get_or-set_other, get_or_default, length-set, set-get_or, set-set}
use Rattle.std.proofs.lemmas.List.Sums.{sum_by-set}
use Rattle.flat_base.proofs.lemmas.Tests.{none-left, none-right}
use Rattle.flat_base.specs.declared.ids.Actor.TheVariants.{Session}
use Rattle.flat_base.specs.declared.ids.PairNo.{PairNo}
use Rattle.flat_base.specs.declared.ids.SessionNo.{SessionNo}
use Rattle.flat_scene.specs.declared.calls.ViewportProps.{ViewportProps}
use Rattle.flat_scene.specs.declared.calls.Watch.{Watch}
use Rattle.flat_scene.specs.declared.journal.Entry.{Entry}
use Rattle.flat_scene.specs.declared.journal.Event.{Event}
use Rattle.flat_scene.specs.declared.journal.EntryKind.TheVariants.{Viewport}
use Rattle.flat_scene.specs.declared.journal.PostedEvent.{PostedEvent}
use Rattle.flat_scene.specs.declared.journal.WatcherValue.{WatcherValue}
use Rattle.flat_scene.specs.declared.setup.Setup.{Setup}
use Rattle.flat_scene.specs.History.{◌▹◌, closes, is_closed, is_session, own}
use Rattle.flat_scene.specs.Setups.{is_declared}
use Rattle.flat_watch.specs.Told.{Watching, answer, settled}
use Rattle.flat_facts.specs.Begins.{post_of}
use Rattle.flat_facts.specs.Pairs.{pair}
use Rattle.flat_states.proofs.lemmas.Changes.{changed-one}
use Rattle.flat_states.proofs.lemmas.Counts.{at-session, declared-some, same-number}
use Rattle.flat_rules.specs.Ends.{is_done, uses_viewport, view_owner, viewport_uses}
use Rattle.std.proofs.lemmas.Bool.{and_right}
use Rattle.flat_states.proofs.lemmas.Lists.{number-declared}
use Rattle.flat_rules.specs.Legal.{Legal, answers, number_if, owns_view}
use Rattle.flat_rules.specs.Kinds.{is_get}
use Rattle.flat_rules.specs.Numbers.{number, AllNumbered}
use Rattle.flat_rules.specs.Posts.{event_of, told_event}
use Rattle.flat_rules.specs.AllPosts.{posts}
use Rattle.flat_rules.specs.Watch.{Watcher, layout_of, status_of, child_of, is_open, told, watching}
use Rattle.flat_rules.proofs.lemmas.Watchers.{settled-now, unheld-stays}
use Rattle.flat_gets.specs.declared.pair.PairWatchers.{PairWatchers}
use Rattle.flat_gets.specs.declared.watching.Watchers.{Watchers}
use Rattle.flat_gets.specs.Dues.{due_told}
use Rattle.flat_gets.specs.Gets.{hears}
use Rattle.flat_gets.specs.Listed.{AreListed, KeptGets, view_waits, viewport_waits}
use Rattle.flat_gets.specs.Pairs.{AreAt, IsSameBut, IsStarted, former_of, former_with, waiting_in}
use Rattle.flat_gets.specs.Watchers.{AreWatched, IsJoin, IsViewTold, TellsView, answers_in}
use Rattle.flat_gets.proofs.lemmas.GetHistory.{hears-open, owner-hears}
use Rattle.flat_gets.proofs.GetSteps.{idle-kind, rests-joined, rests-refused}
use Rattle.flat_gets.proofs.lemmas.GetPosts.{closed-posts, foreign-posts, joined-posts, one-owner, refused-posts}
use Rattle.flat_gets.proofs.PartSteps.{settled-none}
use Rattle.flat_gets.proofs.WatchFacts.{apart-view, new-use, other-uses, rests-shut, undeclared-waits}
use Rattle.flat_gets.proofs.WatchLists.{Fewer, fewer-from, lists-fewer}
use Rattle.flat_gets.proofs.WatchedAnswers.{answers-joined, answers-rest, answers-shut, answers-unowned, closed-after, closed-not, not-told}
use Rattle.flat_gets.proofs.WatchedPairs.{at-rested, at-same, at-started}

-- ---- one pair changes

pub fewer-set : (waits : PairWatchers → Bool) (old : List PairWatchers) (q : ℕ) (was then : PairWatchers) → q < length old → was ≡ slice_index_or old q was
    → (waits was ≡ false → waits then ≡ false) → Fewer waits old (slice_set old q then)
fewer-set waits old q was then below at less = fewer-from waits old (slice_set old q then) (length-set old q then)
    (λ i d within none. by_place i d within none (eqb_tells i q))
  where
    by_place : (i : ℕ) (d : PairWatchers) → i < length old → waits (slice_index_or old i d) ≡ false → ((i == q) ≡ true) × (i ≡ q) ⊎ ((i == q) ≡ false) × (i ≢ q)
        → waits (slice_index_or (slice_set old q then) i d) ≡ false
    by_place i d within none (inl here) =
        let is : slice_index_or old i d ≡ was = ap (λ (n : ℕ). slice_index_or old n d) here.1 ∙ get_or_default old q d was below ∙ sym at in
        ap (λ (n : ℕ). waits (slice_index_or (slice_set old q then) n d)) here.1 ∙ ap waits (get_or-set_same old q then d below)
        ∙ less (ap waits (sym is) ∙ none)
    by_place i d within none (inr other) = ap waits (get_or-set_other old q i then d other.1) ∙ none

pub due-set : (old : List PairWatchers) (q : ℕ) (was then : PairWatchers) → q < length old → was ≡ slice_index_or old q was
    → sum_by waiting_in (slice_set old q then) + waiting_in was ≡ sum_by waiting_in old + waiting_in then
due-set old q was then below at = omega (arith, sum_by-set waiting_in old q then was below, ap waiting_in at)

-- ---- room alone

pub watched-roomy : (setup : Setup) (h : List Entry) (old new : Watchers) (q : ℕ) (was then : PairWatchers) → q < length old.pairs.items
    → was ≡ slice_index_or old.pairs.items q was → new.pairs.items ≡ slice_set old.pairs.items q then → new.sessions.items ≡ old.sessions.items
    → IsSameBut was then
    → AreWatched setup h old → AreWatched setup h new × (due_told new ≡ due_told old)
watched-roomy setup h old new q was then below at pairs sessions same are =
    let due : waiting_in then ≡ waiting_in was = rw (same.layout, same.status, same.child, same.former) refl in
    let all : due_told new ≡ due_told old = ap (sum_by waiting_in) pairs ∙ omega (arith, due-set old.pairs.items q was then below at, due) in
    let views : Fewer view_waits old.pairs.items (slice_set old.pairs.items q then) =
    fewer-set view_waits old.pairs.items q was then below at (λ none. rw (same.layout, same.status) none) in
    let viewports : Fewer viewport_waits old.pairs.items (slice_set old.pairs.items q then) =
    fewer-set viewport_waits old.pairs.items q was then below at (λ none. rw (same.child, same.former) none) in (
      record {
        count = ap (length {A = PairWatchers}) pairs ∙ length-set old.pairs.items q then ∙ are.count;
        sessions = ap (length {A = KeptGets}) sessions ∙ are.sessions;
        each =
            let A : List PairWatchers → Type 0 = AllNumbered (λ i. AreAt setup h h (pair i)) in
            let here : AreAt setup h h (pair q) was = subst (AreAt setup h h (pair q)) (sym at) (are.each q was below) in
            subst A (sym pairs) (changed-one (λ i. AreAt setup h h (pair i)) (λ i. AreAt setup h h (pair i)) old.pairs.items q then
            (λ j x other kept. kept) (at-same setup h h (pair q) was then same here) are.each);
        answered = let A : List KeptGets → Type 0 = AllNumbered (λ i one. one.answers ≡ answers setup (number i) h) in subst A (sym sessions) are.answered;
        listed =
            let L : List PairWatchers → List KeptGets → Type 0 = λ ps ss. AllNumbered (λ i. AreListed setup (number i) ps) ss in
            let first : L (slice_set old.pairs.items q then) old.sessions.items =
            λ i d w. lists-fewer setup (number i) old.pairs.items (slice_set old.pairs.items q then) (slice_index_or old.sessions.items i d) views viewports
            (are.listed i d w) in
            subst (λ (ss : List KeptGets). L new.pairs.items ss) (sym sessions) (subst (λ (ps : List PairWatchers). L ps old.sessions.items) (sym pairs) first);
        few = omega (arith, are.few, all, ap (sum_by answers_in) sessions);
      },
      all,
    )

-- ---- what a use does to the waits of a pair

former-waits : (w : Watching) → is_some w.waits ≡ false → former_of w ≡ []
former-waits w none = by_waits w.waits none
  where
    by_waits : (o : Option Watch) → is_some o ≡ false → former_with w.last o ≡ []
    by_waits None h = refl
    by_waits (Some get) h = cc

former-length : (w : Watching) → length (former_of w) ≡ number_if (is_some w.waits)
former-length w = by_waits w.waits
  where
    by_waits : (o : Option Watch) → length (former_with w.last o) ≡ number_if (is_some o)
    by_waits None = refl
    by_waits (Some get) = refl

module _ (old new : PairWatchers) (started : IsStarted old new) where
  pub started-views : view_waits old ≡ false → view_waits new ≡ false
  started-views none = rw (started.layout, started.status) none

  pub started-viewports : viewport_waits old ≡ false → viewport_waits new ≡ false
  started-viewports none =
      let first : is_some old.child.waits ≡ false = none-left (is_some old.child.waits) _ none in
      let second : nat_lt 0 (length old.former.items) ≡ false = none-right (is_some old.child.waits) _ none in
      let all : new.former.items ≡ old.former.items ++ [] = started.former ∙ ap (λ l. old.former.items ++ l) (former-waits old.child first) in
      let same : length new.former.items ≡ length old.former.items = ap length all ∙ length-append old.former.items [] ∙ omega arith in
      rw (started.child, same) second

  pub started-due : waiting_in new ≡ waiting_in old
  started-due =
      let child : number_if (is_some new.child.waits) ≡ 0 = ap (λ (w : Watching). number_if (is_some w.waits)) started.child in
      let former : length new.former.items ≡ length old.former.items + number_if (is_some old.child.waits) =
      ap length started.former ∙ length-append old.former.items (former_of old.child)
      ∙ ap (λ (n : ℕ). length old.former.items + n) (former-length old.child) in
      let layout : number_if (is_some new.layout.waits) ≡ number_if (is_some old.layout.waits) =
      ap (λ (w : Watching). number_if (is_some w.waits)) started.layout in
      let status : number_if (is_some new.status.waits) ≡ number_if (is_some old.status.waits) =
      ap (λ (w : Watching). number_if (is_some w.waits)) started.status in
      omega (arith, child, former, layout, status)

pub told-views : (now : Watcher → Option WatcherValue) {p : PairNo} (old new : PairWatchers) → IsViewTold now p old new → view_waits old ≡ false
    → view_waits new ≡ false
told-views now {p} old new told none =
    let first : is_some old.layout.waits ≡ false = none-left (is_some old.layout.waits) _ none in
    let second : is_some old.status.waits ≡ false = none-right (is_some old.layout.waits) _ none in
    rw (told.layout, told.status, settled-none true (now (layout_of p)) old.layout first) (settled-none true (now (status_of p)) old.status second)

-- ---- an entry that uses a viewport end

-- a pair's view whose owner is closed isn't open
not-open : (setup : Setup) (q : PairNo) (t : SessionNo) (h : List Entry) → owns_view setup t q ≡ true → is_closed t h ≡ true
    → is_open setup (option_map Session (view_owner setup q)) h ≡ false
not-open setup q t h owned closed = by_owner (view_owner setup q) owned
  where
    by_owner : (o : Option SessionNo) → unwrap_or (option_map (λ u. u.0 == t.0) o) false ≡ true → is_open setup (option_map Session o) h ≡ false
    by_owner None mine = refl
    by_owner (Some u) mine =
        let same : u.0 ≡ t.0 = grind (arith, nat_tests) in
        let it : is_closed u h ≡ true = subst (λ (n : ℕ). is_closed (record { 0 = n }) h ≡ true) (sym same) closed in
        rw it refl

module _ (setup : Setup) (h : List Entry) (e : Entry) (legal : Legal setup (h ▹ e)) (q : PairNo) (props : ViewportProps) (is : e.kind ≡ Viewport q props) where
  no-get : is_get e.kind ≡ false
  no-get = ap is_get is

  -- a refused one
  pub watched-refused : is_done e.reply ≡ false → (watchers : Watchers) → AreWatched setup h watchers
      → AreWatched setup (h ▹ e) watchers × (posts setup (h ▹ e) ≡ posts setup h)
  watched-refused refused watchers old = (
    record {
      count = old.count;
      sessions = old.sessions;
      each = λ i d below.
          at-rested setup h (h ▹ e) (pair i) (slice_index_or watchers.pairs.items i d) (old.each i d below)
          (λ w of. rests-refused setup h e legal q props is refused w)
          (ap (λ (b : Bool). length (cond b (e ∷ viewport_uses (pair i) h) (viewport_uses (pair i) h)))
          (and_right (uses_viewport (pair i) e.kind) (is_done e.reply) refused));
      answered = λ i d below. old.answered i d below ∙ sym
          (answers-rest setup h e legal (number i) (not-told setup h e legal no-get (number i))
          (λ w heard. (idle-kind setup h e no-get w, rests-refused setup h e legal q props is refused w)));
      listed = old.listed;
      few = omega (arith, old.few);
    },
    refused-posts setup h e legal q props is refused,
  )

  module _ (t : SessionNo) (done : is_done e.reply ≡ true) (owned : owns_view setup t q ≡ true) where
    -- the children of its earlier uses rest
    children-rest : (k : ℕ) → watching setup (child_of q k) (h ▹ e) ≡ watching setup (child_of q k) h
    children-rest k = rests-joined setup h e legal q props is (child_of q k) (refl, refl)

    -- the other pairs do
    other-at : (j : ℕ) (x : PairWatchers) → j ≢ q.0 → AreAt setup h h (pair j) x → AreAt setup (h ▹ e) (h ▹ e) (pair j) x
    other-at j x differ old =
        let other : (j == q.0) ≡ false = grind (arith, nat_tests) in
        at-rested setup h (h ▹ e) (pair j) x old (λ w of. rests-joined setup h e legal q props is w (apart-view setup h e legal q (pair j) other w of))
        (other-uses setup h e legal q props is (pair j) other)

    started-each : (pairs : List PairWatchers) (mid then : PairWatchers) → AreAt setup (h ▹ e) h q mid → IsStarted mid then
        → AllNumbered (λ i. AreAt setup h h (pair i)) pairs → AllNumbered (λ i. AreAt setup (h ▹ e) (h ▹ e) (pair i)) (slice_set pairs q.0 then)
    started-each pairs mid then at started each =
        changed-one (λ i. AreAt setup h h (pair i)) (λ i. AreAt setup (h ▹ e) (h ▹ e) (pair i)) pairs q.0 then other-at
        (at-started setup h e legal q mid then started (new-use setup h e legal q props is done) children-rest at) each

    -- ---- where nobody hears of it

    module _ (rests : (watching setup (layout_of q) (h ▹ e) ≡ watching setup (layout_of q) h)
        × (watching setup (status_of q) (h ▹ e) ≡ watching setup (status_of q) h))
        (quiet : (i : ℕ) → i < setup.sessions → answers setup (number i) (h ▹ e) ≡ answers setup (number i) h) where
      pub watched-quiet : (old new : Watchers) (was then : PairWatchers) → q.0 < length old.pairs.items → was ≡ slice_index_or old.pairs.items q.0 was
          → new.pairs.items ≡ slice_set old.pairs.items q.0 then → new.sessions.items ≡ old.sessions.items → IsStarted was then
          → AreWatched setup h old → AreWatched setup (h ▹ e) new
      watched-quiet old new was then below at pairs sessions started are =
          let here : AreAt setup h h q was = subst (AreAt setup h h q) (sym at) (are.each q.0 was below) in
          let mid : AreAt setup (h ▹ e) h q was = record {
            layout = here.layout ∙ sym rests.0;
            status = here.status ∙ sym rests.1;
            child = here.child;
            former = here.former;
          } in
          let all : due_told new ≡ due_told old = ap (sum_by waiting_in) pairs
          ∙ omega (arith, due-set old.pairs.items q.0 was then below at, started-due was then started) in
          let views : Fewer view_waits old.pairs.items (slice_set old.pairs.items q.0 then) =
          fewer-set view_waits old.pairs.items q.0 was then below at (started-views was then started) in
          let viewports : Fewer viewport_waits old.pairs.items (slice_set old.pairs.items q.0 then) =
          fewer-set viewport_waits old.pairs.items q.0 was then below at (started-viewports was then started) in
          record {
            count = ap (length {A = PairWatchers}) pairs ∙ length-set old.pairs.items q.0 then ∙ are.count;
            sessions = ap (length {A = KeptGets}) sessions ∙ are.sessions;
            each = let A : List PairWatchers → Type 0 = AllNumbered (λ i. AreAt setup (h ▹ e) (h ▹ e) (pair i)) in
                subst A (sym pairs) (started-each old.pairs.items was then mid started are.each);
            answered =
                let A : List KeptGets → Type 0 = AllNumbered (λ i one. one.answers ≡ answers setup (number i) (h ▹ e)) in
                subst A (sym sessions) (λ i d w. are.answered i d w ∙ sym (quiet i (omega (arith, w, are.sessions))));
            listed =
                let L : List PairWatchers → List KeptGets → Type 0 = λ ps ss. AllNumbered (λ i. AreListed setup (number i) ps) ss in
                let first : L (slice_set old.pairs.items q.0 then) old.sessions.items =
                λ i d w. lists-fewer setup (number i) old.pairs.items (slice_set old.pairs.items q.0 then) (slice_index_or old.sessions.items i d) views
                viewports (are.listed i d w) in
                subst (λ (ss : List KeptGets). L new.pairs.items ss) (sym sessions)
                (subst (λ (ps : List PairWatchers). L ps old.sessions.items) (sym pairs) first);
            few = omega (arith, are.few, all, ap (sum_by answers_in) sessions);
          }

    quiet-by : ((i : ℕ) → i < setup.sessions → owns_view setup (number i) q ≡ true → answers setup (number i) (h ▹ e) ≡ answers setup (number i) h) → (i : ℕ)
        → i < setup.sessions → answers setup (number i) (h ▹ e) ≡ answers setup (number i) h
    quiet-by own i below = by_owner (owns_view setup (number i) q) refl
      where
        by_owner : (b : Bool) → owns_view setup (number i) q ≡ b → answers setup (number i) (h ▹ e) ≡ answers setup (number i) h
        by_owner false foreign = answers-unowned setup h e legal q props is (number i) foreign
        by_owner true mine = own i below mine

    -- the view's owner is closed
    pub watched-shut : is_closed t h ≡ true → (old new : Watchers) (was then : PairWatchers) → q.0 < length old.pairs.items
        → was ≡ slice_index_or old.pairs.items q.0 was → new.pairs.items ≡ slice_set old.pairs.items q.0 then → new.sessions.items ≡ old.sessions.items
        → IsStarted was then
        → AreWatched setup h old → AreWatched setup (h ▹ e) new × (posts setup (h ▹ e) ≡ posts setup h)
    watched-shut closed old new was then below at pairs sessions started are =
        let now : is_closed t (h ▹ e) ≡ true = closed-after (is_session t e.actor) e (own t h) closed in
        let shut : is_open setup (option_map Session (view_owner setup q)) (h ▹ e) ≡ false = not-open setup q t (h ▹ e) owned now in
        let rests : (watching setup (layout_of q) (h ▹ e) ≡ watching setup (layout_of q) h)
        × (watching setup (status_of q) (h ▹ e) ≡ watching setup (status_of q) h) = (
          rests-shut setup h e (layout_of q) shut (idle-kind setup h e no-get (layout_of q)),
          rests-shut setup h e (status_of q) shut (idle-kind setup h e no-get (status_of q)),
        ) in (
          watched-quiet rests (quiet-by (λ i w mine.
              let same : t.0 ≡ i + 1 = one-owner setup h e legal q props is (view_owner setup q) t (number i) owned mine in
              let it : is_closed (number i) (h ▹ e) ≡ true = subst (λ (n : ℕ). is_closed (record { 0 = n }) (h ▹ e) ≡ true) same now in
              answers-shut setup h e legal (number i) it (not-told setup h e legal no-get (number i)))) old new was then below at pairs sessions started are,
          closed-posts setup h e legal q props is t owned now,
        )

    -- or isn't declared
    pub watched-foreign : is_declared setup t ≡ false → (old new : Watchers) (was then : PairWatchers) → q.0 < length old.pairs.items
        → was ≡ slice_index_or old.pairs.items q.0 was → new.pairs.items ≡ slice_set old.pairs.items q.0 then → new.sessions.items ≡ old.sessions.items
        → IsStarted was then
        → AreWatched setup h old → AreWatched setup (h ▹ e) new × (posts setup (h ▹ e) ≡ posts setup h)
    watched-foreign out old new was then below at pairs sessions started are =
        let heard : hears setup t (layout_of q) ≡ true = owner-hears t (view_owner setup q) owned in
        let rests : (watching setup (layout_of q) (h ▹ e) ≡ watching setup (layout_of q) h)
        × (watching setup (status_of q) (h ▹ e) ≡ watching setup (status_of q) h) = (
          unheld-stays setup (layout_of q) h e (undeclared-waits setup h legal.0 t out (layout_of q) heard) (idle-kind setup h e no-get (layout_of q)),
          unheld-stays setup (status_of q) h e (undeclared-waits setup h legal.0 t out (status_of q) heard) (idle-kind setup h e no-get (status_of q)),
        ) in (
          watched-quiet rests (quiet-by (λ i w mine.
              let same : t.0 ≡ i + 1 = one-owner setup h e legal q props is (view_owner setup q) t (number i) owned mine in
              let inside : is_declared setup t ≡ true = subst (λ (n : ℕ). is_declared setup (record { 0 = n }) ≡ true) (sym same)
              (number-declared setup i setup.sessions refl w) in
              let wrong : true ≡ false = sym inside ∙ out in absurd (cc))) old new was then below at pairs sessions started are,
          foreign-posts setup h e legal q props is t owned out,
        )

    -- or is open, and was told
    pub watched-joined : is_declared setup t ≡ true → is_closed t (h ▹ e) ≡ false
        → (old mid new : Watchers) (was then : PairWatchers) (before after : List PostedEvent) (count : ℕ) → q.0 < length old.pairs.items
        → TellsView (told setup (h ▹ e)) (length h) t q old mid before after count → due_told mid + count ≡ due_told old
        → was ≡ slice_index_or mid.pairs.items q.0 was → new.pairs.items ≡ slice_set mid.pairs.items q.0 then → new.sessions.items ≡ mid.sessions.items
        → IsStarted was then → before ≡ posts setup h
        → AreWatched setup h old → AreWatched setup (h ▹ e) new × (after ≡ posts setup (h ▹ e))
    watched-joined declared opened old mid new was then before after count below tells fewer at pairs sessions started posted are =
        let here = declared-some t.0 setup.sessions declared in
        let e_told = told setup (h ▹ e) in
        let first : AreAt setup h h q tells.was = subst (AreAt setup h h q) (sym tells.of_was) (are.each q.0 tells.was below) in
        let listens : is_open setup (option_map Session (view_owner setup q)) (h ▹ e) ≡ true =
        hears-open setup t (layout_of q) (h ▹ e) (owner-hears t (view_owner setup q) owned) opened in
        let layout : watching setup (layout_of q) (h ▹ e) ≡ settled true (e_told (layout_of q)) tells.was.layout =
        settled-now setup (layout_of q) h e (idle-kind setup h e no-get (layout_of q))
        ∙ ap (λ (b : Bool). settled b (e_told (layout_of q)) (watching setup (layout_of q) h)) listens
        ∙ ap (settled true (e_told (layout_of q))) (sym first.layout) in
        let status : watching setup (status_of q) (h ▹ e) ≡ settled true (e_told (status_of q)) tells.was.status =
        settled-now setup (status_of q) h e (idle-kind setup h e no-get (status_of q))
        ∙ ap (λ (b : Bool). settled b (e_told (status_of q)) (watching setup (status_of q) h)) listens
        ∙ ap (settled true (e_told (status_of q))) (sym first.status) in
        let was_is : was ≡ tells.then =
        at ∙ ap (λ (ps : List PairWatchers). slice_index_or ps q.0 was) tells.pairs_are ∙ get_or-set_same old.pairs.items q.0 tells.then was below in
        let mid_at : AreAt setup (h ▹ e) h q tells.then = record {
          layout = tells.told.layout ∙ sym layout;
          status = tells.told.status ∙ sym status;
          child = tells.told.child ∙ first.child;
          former = tells.told.former ∙ first.former;
        } in
        let was_at : AreAt setup (h ▹ e) h q was = subst (AreAt setup (h ▹ e) h q) (sym was_is) mid_at in
        let pairs_is : new.pairs.items ≡ slice_set old.pairs.items q.0 then =
        pairs ∙ ap (λ (ps : List PairWatchers). slice_set ps q.0 then) tells.pairs_are ∙ set-set old.pairs.items q.0 tells.then then in
        let events : List Event = told_event setup q (layout_of q) h e ++ told_event setup q (status_of q) h e in
        let given : List Event = event_of q tells.was.layout.waits (answer (e_told (layout_of q)) tells.was.layout)
        ++ event_of q tells.was.status.waits (answer (e_told (status_of q)) tells.was.status) in
        let same : given ≡ events =
        ap (λ (w : Watching). event_of q w.waits (answer (e_told (layout_of q)) w)
        ++ event_of q tells.was.status.waits (answer (e_told (status_of q)) tells.was.status)) first.layout
        ∙ ap (λ (w : Watching). told_event setup q (layout_of q) h e ++ event_of q w.waits (answer (e_told (status_of q)) w)) first.status in
        let counted : count ≡ length events = tells.counted ∙ ap (length {A = Event}) same in
        let sessions_is = sessions ∙ tells.sessions_are in
        let mid_below : q.0 < length mid.pairs.items = omega
        (arith, below, ap (length {A = PairWatchers}) tells.pairs_are, length-set old.pairs.items q.0 tells.then) in
        let due_new : due_told new ≡ due_told mid = ap (sum_by waiting_in) pairs
        ∙ omega (arith, due-set mid.pairs.items q.0 was then mid_below at, started-due was then started) in
        let place : t.0 - 1 < length old.sessions.items = omega (arith, here.0, here.1, are.sessions) in
        let to : KeptGets = record tells.from { answers = tells.from.answers + count } in
        let total : sum_by answers_in (slice_set old.sessions.items (t.0 - 1) to) ≡ sum_by answers_in old.sessions.items + count =
        omega (arith, sum_by-set answers_in old.sessions.items (t.0 - 1) to tells.from place, ap answers_in tells.of_from) in
        let views : Fewer view_waits old.pairs.items (slice_set old.pairs.items q.0 then) =
        fewer-set view_waits old.pairs.items q.0 tells.was then
        below tells.of_was (λ none. started-views was then started (rw was_is (told-views e_told tells.was tells.then tells.told none))) in
        let viewports : Fewer viewport_waits old.pairs.items (slice_set old.pairs.items q.0 then) =
        fewer-set viewport_waits old.pairs.items q.0 tells.was then
        below tells.of_was (λ none. started-viewports was then started (rw (was_is, tells.told.child, tells.told.former) none)) in
        let from_own : tells.from.answers ≡ answers setup t h =
        at-session (λ s one. one.answers ≡ answers setup s h) old.sessions.items t tells.from are.answered here.0 (omega (arith, here.1, are.sessions))
        tells.of_from in (
          record {
            count = ap (length {A = PairWatchers}) pairs_is ∙ length-set old.pairs.items q.0 then ∙ are.count;
            sessions = ap (length {A = KeptGets}) sessions_is ∙ length-set old.sessions.items (t.0 - 1) to ∙ are.sessions;
            each = let A : List PairWatchers → Type 0 = AllNumbered (λ i. AreAt setup (h ▹ e) (h ▹ e) (pair i)) in
                subst A (sym pairs_is) (started-each old.pairs.items was then was_at started are.each);
            answered =
                let A : List KeptGets → Type 0 = AllNumbered (λ i one. one.answers ≡ answers setup (number i) (h ▹ e)) in
                let N : SessionNo → Type 0 = λ s. to.answers ≡ answers setup s (h ▹ e) in
                let own_now : to.answers ≡ answers setup t (h ▹ e) =
                omega (arith, from_own, counted, answers-joined setup h e legal q props is t owned opened) in
                subst A (sym sessions_is)
                (changed-one (λ i one. one.answers ≡ answers setup (number i) h) (λ i one. one.answers ≡ answers setup (number i) (h ▹ e)) old.sessions.items
                (t.0 - 1) to
                (λ j one other kept. kept ∙ sym (answers-unowned setup h e legal q props is (number j) (not-owner j here.0 other)))
                (subst N (sym (same-number t here.0)) own_now) are.answered);
            listed =
                let L : List PairWatchers → List KeptGets → Type 0 = λ ps ss. AllNumbered (λ i. AreListed setup (number i) ps) ss in
                let fewer_pairs : List PairWatchers = slice_set old.pairs.items q.0 then in
                let kept : AreListed setup t old.pairs.items tells.from =
                at-session (λ s one. AreListed setup s old.pairs.items one) old.sessions.items t tells.from are.listed here.0
                (omega (arith, here.1, are.sessions)) tells.of_from in
                let own_lists : AreListed setup t fewer_pairs to =
                lists-fewer setup t old.pairs.items fewer_pairs to views viewports (record { views = kept.views; viewports = kept.viewports }) in
                let N : SessionNo → Type 0 = λ s. AreListed setup s fewer_pairs to in
                let changed : L fewer_pairs (slice_set old.sessions.items (t.0 - 1) to) =
                changed-one (λ i. AreListed setup (number i) old.pairs.items) (λ i. AreListed setup (number i) fewer_pairs) old.sessions.items (t.0 - 1) to
                (λ j one other k. lists-fewer setup (number j) old.pairs.items fewer_pairs one views viewports k)
                (subst N (sym (same-number t here.0)) own_lists) are.listed in
                subst (λ (ss : List KeptGets). L new.pairs.items ss) (sym sessions_is)
                (subst (λ (ps : List PairWatchers). L ps (slice_set old.sessions.items (t.0 - 1) to)) (sym pairs_is) changed);
            few = omega (arith, are.few, fewer, due_new, total, ap (sum_by answers_in) sessions_is);
          },
          tells.posted ∙ ap (λ (ps : List PostedEvent). ps ++ map (post_of (length h) t) given) posted
              ∙ ap (λ (l : List Event). posts setup h ++ map (post_of (length h) t) l) same
              ∙ sym (joined-posts setup h e legal q props is t declared owned opened),
        )
      where
        not-owner : (j : ℕ) → 0 < t.0 → j ≢ t.0 - 1 → owns_view setup (number j) q ≡ false
        not-owner j some other = by_owner (owns_view setup (number j) q) refl
          where
            by_owner : (b : Bool) → owns_view setup (number j) q ≡ b → b ≡ false
            by_owner false foreign = refl
            by_owner true mine =
                let same : t.0 ≡ j + 1 = one-owner setup h e legal q props is (view_owner setup q) t (number j) owned mine in
                absurd (other (omega (arith, same)))

-- ---- by what the board asks

pub unjoined-is : (setup : Setup) (h : List Entry) (e : Entry) (t : SessionNo) (shut : Bool) (q : PairNo) → IsJoin setup h e false t shut q
    → (watchers : Watchers) (before : List PostedEvent) → before ≡ posts setup h → AreWatched setup h watchers
    → AreWatched setup (h ▹ e) watchers × (before ≡ posts setup (h ▹ e))
unjoined-is setup h e t shut q join watchers before posted old =
    let two = watched-refused setup h e join.legal q join.props join.kind (ap is_done join.replied) watchers old in
    (two.0, posted ∙ sym two.1)

pub shut-is : (setup : Setup) (h : List Entry) (e : Entry) (t : SessionNo) (q : PairNo) → IsJoin setup h e true t true q
    → (old new : Watchers) (was then : PairWatchers) (before : List PostedEvent) → q.0 < length old.pairs.items → was ≡ slice_index_or old.pairs.items q.0 was
    → new.pairs.items ≡ slice_set old.pairs.items q.0 then → new.sessions.items ≡ old.sessions.items → IsStarted was then → before ≡ posts setup h
    → AreWatched setup h old → AreWatched setup (h ▹ e) new × (before ≡ posts setup (h ▹ e))
shut-is setup h e t q join old new was then before below at pairs sessions started posted are = by_why (join.closed refl)
  where
    done : is_done e.reply ≡ true
    done = ap is_done join.replied

    by_why : (is_declared setup t ≡ false) ⊎ (is_closed t h ≡ true) → AreWatched setup (h ▹ e) new × (before ≡ posts setup (h ▹ e))
    by_why (inl out) = let two = watched-foreign setup h e join.legal q join.props join.kind t done join.owned out old new was then
        below at pairs sessions started are in (two.0, posted ∙ sym two.1)
    by_why (inr closed) = let two = watched-shut setup h e join.legal q join.props join.kind t done join.owned closed old new was then
        below at pairs sessions started are in (two.0, posted ∙ sym two.1)

pub joined-is : (setup : Setup) (h : List Entry) (e : Entry) (t : SessionNo) (q : PairNo) → IsJoin setup h e true t false q
    → (old mid new : Watchers) (was then : PairWatchers) (before after : List PostedEvent) (count : ℕ) → q.0 < length old.pairs.items
    → TellsView (told setup (h ▹ e)) (length h) t q old mid before after count → due_told mid + count ≡ due_told old
    → was ≡ slice_index_or mid.pairs.items q.0 was → new.pairs.items ≡ slice_set mid.pairs.items q.0 then → new.sessions.items ≡ mid.sessions.items
    → IsStarted was then → before ≡ posts setup h → AreWatched setup h old → AreWatched setup (h ▹ e) new × (after ≡ posts setup (h ▹ e))
joined-is setup h e t q join old mid new was then before after count below tells fewer at pairs sessions started posted are =
    let opened = join.opened refl in
    let stays : closes e.reply ≡ false = ap closes join.replied in
    watched-joined setup h e join.legal q join.props join.kind t (ap is_done join.replied) join.owned opened.0
    (closed-not (is_session t e.actor) e (own t h) stays opened.1) old mid new was then
    before after count below tells fewer at pairs sessions started posted are

-- ---- items alone count

pub same-set : {A : Type 0} (xs : List A) (i : ℕ) (was : A) → was ≡ slice_index_or xs i was → slice_set xs i was ≡ xs
same-set xs i was at = ap (slice_set xs i) at ∙ set-get_or xs i was

pub watched-items : (setup : Setup) (h : List Entry) (old new : Watchers) → new.pairs.items ≡ old.pairs.items → new.sessions.items ≡ old.sessions.items
    → AreWatched setup h old → AreWatched setup h new
watched-items setup h old new pairs sessions are = record {
  count = ap (length {A = PairWatchers}) pairs ∙ are.count;
  sessions = ap (length {A = KeptGets}) sessions ∙ are.sessions;
  each = subst (λ (ps : List PairWatchers). AllNumbered (λ i. AreAt setup h h (pair i)) ps) (sym pairs) are.each;
  answered = subst (λ (ss : List KeptGets). AllNumbered (λ i one. one.answers ≡ answers setup (number i) h) ss) (sym sessions) are.answered;
  listed =
      let L : List PairWatchers → List KeptGets → Type 0 = λ ps ss. AllNumbered (λ i. AreListed setup (number i) ps) ss in
      subst (λ (ss : List KeptGets). L new.pairs.items ss) (sym sessions) (subst (λ (ps : List PairWatchers). L ps old.sessions.items) (sym pairs) are.listed);
  few = omega (arith, are.few, ap (sum_by waiting_in) pairs, ap (sum_by answers_in) sessions);
}
