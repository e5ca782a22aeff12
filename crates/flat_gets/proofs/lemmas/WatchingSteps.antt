-- What is kept of all gets, entry by entry.
use Rattle.std.proofs.Common.{◌≡◌, ◌≢◌, ◌∙◌, sym, subst, ℕ, ◌+◌, ◌-◌, ◌<◌, ◌≤◌, ◌^◌, true, false, List, [], ◌∷◌, ◌++◌, length, map, refl, arith, ap, All}
use Rattle.std.proofs.Common.{slice_index_or, inl, inr, ◌⊎◌, None}
use Rattle.std.specs.Prelude.{cond, nat_lt, sum_by, ◌==◌}
use Rattle.std.proofs.lemmas.Bool.Decides.{eqb_tells}
use Rattle.std.proofs.lemmas.List.{length-set}
use Rattle.std.proofs.lemmas.List.Elements.{All-head, All-tail}
use Rattle.std.proofs.lemmas.List.Sums.{sum_by-cons, sum_by-set}
use Rattle.flat_base.specs.declared.ids.Actor.{Actor}
use Rattle.flat_base.specs.declared.ids.PairNo.{PairNo}
use Rattle.flat_base.specs.declared.ids.SessionNo.{SessionNo}
use Rattle.flat_scene.specs.declared.calls.Call.{Call}
use Rattle.flat_scene.specs.declared.journal.Entry.{Entry}
use Rattle.flat_scene.specs.declared.journal.Event.{Event}
use Rattle.flat_scene.specs.declared.journal.EntryKind.{EntryKind}
use Rattle.flat_scene.specs.declared.journal.PostedEvent.{PostedEvent}
use Rattle.flat_scene.specs.declared.journal.Reply.{Reply}
use Rattle.flat_scene.specs.declared.setup.Setup.{Setup}
use Rattle.flat_scene.specs.History.{◌▹◌, is_finish, is_closed}
use Rattle.flat_facts.specs.Begins.{finish_entry, finished, post_of, entry_of}
use Rattle.flat_facts.specs.Pairs.{pair}
use Rattle.flat_states.specs.Machines.{Machine, MayCall}
use Rattle.flat_facts.proofs.lemmas.Between.{is_viewport}
use Rattle.flat_states.proofs.lemmas.Steps.{legal-entered}
use Rattle.flat_rules.specs.Ends.{viewport_owner, viewports_of, views_of}
use Rattle.flat_rules.specs.Watch.{Watcher, asked, layout_of, listener, told, watching}
use Rattle.flat_watch.specs.HangingGets.{new_hanging_get}
use Rattle.flat_states.proofs.lemmas.BeginLoop.{not-below, same-side, this-side}
use Rattle.flat_states.proofs.lemmas.Counts.{at-session, same-number}
use Rattle.flat_states.proofs.lemmas.DoneSteps.{UpTo, up-end, up-here, up-next, up-start}
use Rattle.flat_rules.specs.Legal.{Legal, answers, owns_view, owns_viewport, reply_to}
use Rattle.flat_rules.specs.Kinds.{is_get}
use Rattle.flat_rules.specs.Numbers.{number, AllNumbered}
use Rattle.flat_gets.specs.declared.pair.PairWatchers.{PairWatchers}
use Rattle.flat_gets.specs.declared.watching.Watchers.{Watchers}
use Rattle.flat_gets.specs.Dues.{due_told}
use Rattle.flat_gets.specs.Gets.{answers_to, hears, helds_of}
use Rattle.flat_facts.specs.Told.{TellsTheSame}
use Rattle.flat_gets.specs.Listed.{AreListed, IsList, KeptGets, no_gets, view_waits, viewport_waits}
use Rattle.flat_gets.specs.Pairs.{AreAt, IsUnasked, waiting_in}
use Rattle.flat_gets.specs.Watchers.{AreWatched, IsSettled, WatchedUpTo, all_answers, answers_in, reached, told_and_due}
use Rattle.flat_gets.proofs.FinishSteps.{at-kept, at-last, at-passed, reached-none, rests-told}
use Rattle.flat_gets.proofs.SettledAt.{settled-at, settled-views, settled-viewports}
use Rattle.flat_gets.proofs.SettledEvents.{settled-events}
use Rattle.flat_gets.proofs.GetSteps.{answers-more, idle-kind, quiet-all, rests-between}
use Rattle.flat_gets.proofs.WatchFacts.{no-use}
use Rattle.flat_gets.proofs.WatchLists.{Fewer, fewer-from, list-left, list-none, lists-fewer, unwaited}
use Rattle.flat_states.proofs.lemmas.Changes.{changed-one}
use Rattle.flat_gets.proofs.WatchedAnswers.{answers-rest, answers-shut, gets-few, not-told}
use Rattle.flat_gets.proofs.WatchedPairs.{at-rested, at-unasked}
-- the lemmas of a get
pub use Rattle.flat_gets.proofs.GotHangingGets.{asked-known, asked-replied}
pub use Rattle.flat_gets.proofs.WatchedGets.{watched-asked}

-- ---- before any entry

pub due-none : (pairs : List PairWatchers) → All IsUnasked pairs → sum_by waiting_in pairs ≡ 0
due-none [] none = refl
due-none (one ∷ more) none =
    let is : IsUnasked one = All-head IsUnasked one more none in
    let here : waiting_in one ≡ 0 = rw (is.layout, is.status, is.child, is.former) refl in
    sum_by-cons waiting_in one more ∙ omega (arith, here, due-none more (All-tail IsUnasked one more none))

answers-none : (sessions : List KeptGets) → All (λ (one : KeptGets). one ≡ no_gets) sessions → sum_by answers_in sessions ≡ 0
answers-none [] none = refl
answers-none (one ∷ more) none =
    let here : answers_in one ≡ 0 = ap answers_in (All-head (λ (x : KeptGets). x ≡ no_gets) one more none) in
    sum_by-cons answers_in one more ∙ omega (arith, here, answers-none more (All-tail (λ (x : KeptGets). x ≡ no_gets) one more none))

pub watched-new : (setup : Setup) (watchers : Watchers) → length watchers.pairs.items ≡ length setup.pairs → length watchers.sessions.items ≡ setup.sessions
    → All IsUnasked watchers.pairs.items → All (λ (one : KeptGets). one ≡ no_gets) watchers.sessions.items
    → AreWatched setup [] watchers
watched-new setup watchers count sessions pairs none = record {
  count = count;
  sessions = sessions;
  each = λ i d below. at-unasked setup (pair i) (slice_index_or watchers.pairs.items i d) (pairs i d below);
  answered = λ i d below. ap answers_in (none i d below);
  listed = λ i d below. rw (none i d below) (record {
    views = list-none _ _ view_waits watchers.pairs.items (unwaited view_waits (λ w is. rw (is.layout, is.status) refl) watchers.pairs.items pairs);
    viewports = list-none _ _ viewport_waits watchers.pairs.items (unwaited viewport_waits (λ w is. rw (is.child, is.former) refl) watchers.pairs.items pairs);
  });
  few = omega (arith, answers-none watchers.sessions.items none, due-none watchers.pairs.items pairs);
}

-- ---- how many

-- what is kept is little, where the history is short
pub few-all : (setup : Setup) (h : List Entry) (watchers : Watchers) → AreWatched setup h watchers → length h < 2 ^ 32 - 1 → told_and_due watchers < 2 ^ 32 - 1
few-all setup h watchers are short = omega (arith, are.few, gets-few h, short)

-- ---- an entry that ends no frame, uses no viewport end and is no get

pub watched-between : (setup : Setup) (h : List Entry) (e : Entry) → Legal setup (h ▹ e) → is_finish e.kind ≡ false → is_viewport e.kind ≡ false
    → is_get e.kind ≡ false → (watchers : Watchers) → AreWatched setup h watchers → AreWatched setup (h ▹ e) watchers
watched-between setup h e legal no_finish no_viewport no_get watchers old = record {
  count = old.count;
  sessions = old.sessions;
  each = λ i d below.
      at-rested setup h (h ▹ e) (pair i) (slice_index_or watchers.pairs.items i d) (old.each i d below)
      (λ w of. rests-between setup h e legal no_finish no_viewport w (idle-kind setup h e no_get w))
      (no-use setup h e legal no_viewport (pair i));
  answered = λ i d below.
      old.answered i d below
      ∙ sym (answers-rest setup h e legal (number i) (not-told setup h e legal no_get (number i))
      (λ w heard. let idle = idle-kind setup h e no_get w in (idle, rests-between setup h e legal no_finish no_viewport w idle)));
  listed = old.listed;
  few = omega (arith, old.few);
}

pub watched-after : (m : Machine) (who : Actor) (line : ℕ) (calls : List Call) (kind : EntryKind) (reply : Reply) → MayCall m who calls kind
    → reply ≡ reply_to m.setup m.history who calls kind
    → is_finish kind ≡ false → is_viewport kind ≡ false → is_get kind ≡ false → Legal m.setup m.history → (watchers : Watchers)
    → AreWatched m.setup m.history watchers
    → AreWatched m.setup (m.history ▹ entry_of who line calls kind reply) watchers
watched-after m who line calls kind reply call replied no_finish no_viewport no_get old watchers watched =
    watched-between m.setup m.history (entry_of who line calls kind reply) (old, legal-entered m who line calls kind reply call replied) no_finish no_viewport
    no_get watchers watched

-- as much may still be told
pub told-too : {a b : ℕ} (watchers : Watchers) → a ≡ b → a + due_told watchers ≡ b + due_told watchers
told-too watchers same = ap (λ (n : ℕ). n + due_told watchers) same

-- ---- the end of a frame

pub few-to : (setup : Setup) (n : ℕ) (k h : List Entry) (watchers : Watchers) → WatchedUpTo setup n k h watchers → length h < 2 ^ 32 - 1
    → told_and_due watchers < 2 ^ 32 - 1
few-to setup n k h watchers are short = omega (arith, are.few, gets-few h, short)

-- any pair's, where nothing waits
nobody : Watchers → PairWatchers
nobody watchers = record {
  layout = new_hanging_get;
  status = new_hanging_get;
  child = new_hanging_get;
  former = record { ptr = watchers.pairs.ptr; len = 0; cap = 0; alloc = watchers.pairs.alloc; items = []; ok = (refl, omega arith); small = omega arith };
}

module _ (setup : Setup) (h : List Entry) (line : ℕ) (legal : Legal setup (finished h line)) where
  abbrev K : List Entry
  K = finished h line

  abbrev Had : List Entry → ℕ → KeptGets → Type 0
  Had l i one = one.answers ≡ answers setup (number i) l

  -- before the first session
  pub watched-first : (watchers : Watchers) → AreWatched setup h watchers → WatchedUpTo setup 0 K h watchers
  watched-first watchers are = record {
    count = are.count;
    sessions = are.sessions;
    each = λ i d below. rw (reached-none (listener setup (layout_of (pair i))) K h, reached-none (viewport_owner setup (pair i)) K h) (are.each i d below);
    answered = up-start Had h K watchers.sessions.items are.answered;
    listed = are.listed;
    few = are.few;
  }

  -- after the last
  pub watched-last : (watchers : Watchers) → WatchedUpTo setup setup.sessions K h watchers → AreWatched setup K watchers
  watched-last watchers are = record {
    count = are.count;
    sessions = are.sessions;
    each = λ i d below. at-last setup h line legal (pair i) (slice_index_or watchers.pairs.items i d) (are.each i d below);
    answered = up-end Had h K setup.sessions watchers.sessions.items are.sessions are.answered;
    listed = are.listed;
    few = omega (arith, are.few);
  }

  -- the next one, where it is closed
  pub watched-passed : (s : SessionNo) → 0 < s.0 → s.0 ≤ setup.sessions → is_closed s h ≡ true → (watchers : Watchers)
      → WatchedUpTo setup (s.0 - 1) K h watchers → WatchedUpTo setup s.0 K h watchers
  watched-passed s some few closed watchers are =
      let n : ℕ = s.0 - 1 in
      let next : s.0 ≡ n + 1 = omega (arith, some) in
      let back : n + 1 ≡ s.0 = omega (arith, some) in
      subst (λ (m : ℕ). WatchedUpTo setup m K h watchers) back (record {
        count = are.count;
        sessions = are.sessions;
        each = λ i d below. at-passed setup h line legal n s next closed (pair i) (slice_index_or watchers.pairs.items i d) (are.each i d below);
        answered = λ i d below. by_place i d below (eqb_tells i n);
        listed = are.listed;
        few = are.few;
      })
    where
      by_place : (i : ℕ) (d : KeptGets) → i < length watchers.sessions.items
          → ((i == (s.0 - 1)) ≡ true) × (i ≡ (s.0 - 1)) ⊎ ((i == (s.0 - 1)) ≡ false) × (i ≢ (s.0 - 1))
          → Had (cond (nat_lt i (s.0 - 1 + 1)) K h) i (slice_index_or watchers.sessions.items i d)
      by_place i d below (inl here) =
          let n : ℕ = s.0 - 1 in
          let was : Had h i (slice_index_or watchers.sessions.items i d) = rw (ap (nat_lt i) (sym here.1) ∙ not-below i) at (are.answered i d below) in
          let it : number i ≡ s = ap number here.1 ∙ same-number s some in
          let shut : is_closed (number i) K ≡ true = ap (λ (t : SessionNo). is_closed t h) it ∙ closed in
          let within : nat_lt i (n + 1) ≡ true = ap (λ (m : ℕ). nat_lt i (m + 1)) (sym here.1) ∙ this-side i in
          rw within (was ∙ sym (answers-shut setup h (finish_entry line) legal (number i) shut refl))
      by_place i d below (inr other) = rw (← same-side (s.0 - 1) i other.1) (are.answered i d below)

  -- where it is told nothing anew: what is kept stays, and nothing is posted
  pub watched-kept : (s : SessionNo) → 0 < s.0 → s.0 ≤ setup.sessions → is_closed s h ≡ false → TellsTheSame setup h K s → (watchers : Watchers)
      → WatchedUpTo setup (s.0 - 1) K h watchers
      → WatchedUpTo setup s.0 K h watchers × (answers_to (told setup K) (helds_of setup h s) ≡ [])
  watched-kept s some few opened same watchers are =
      let n : ℕ = s.0 - 1 in
      let next : s.0 ≡ n + 1 = omega (arith, some) in
      let back : n + 1 ≡ s.0 = omega (arith, some) in (
        subst (λ (m : ℕ). WatchedUpTo setup m K h watchers) back (record {
          count = are.count;
          sessions = are.sessions;
          each = λ i d below. at-kept setup h line legal n s next same (pair i) (slice_index_or watchers.pairs.items i d) (are.each i d below);
          answered = λ i d below. by_place i d below (eqb_tells i n);
          listed = are.listed;
          few = are.few;
        }),
        quiet-all setup h (finish_entry line) s opened rest,
      )
    where
      rest : (w : Watcher) → hears setup s w ≡ true → (asked setup w h (finish_entry line) ≡ None) × (watching setup w K ≡ watching setup w h)
      rest w heard = (idle-kind setup h (finish_entry line) refl w, rests-told setup h line legal s same w heard)

      by_place : (i : ℕ) (d : KeptGets) → i < length watchers.sessions.items
          → ((i == (s.0 - 1)) ≡ true) × (i ≡ (s.0 - 1)) ⊎ ((i == (s.0 - 1)) ≡ false) × (i ≢ (s.0 - 1))
          → Had (cond (nat_lt i (s.0 - 1 + 1)) K h) i (slice_index_or watchers.sessions.items i d)
      by_place i d below (inl here) =
          let n : ℕ = s.0 - 1 in
          let was : Had h i (slice_index_or watchers.sessions.items i d) = rw (ap (nat_lt i) (sym here.1) ∙ not-below i) at (are.answered i d below) in
          let it : number i ≡ s = ap number here.1 ∙ same-number s some in
          let within : nat_lt i (n + 1) ≡ true = ap (λ (m : ℕ). nat_lt i (m + 1)) (sym here.1) ∙ this-side i in
          let mine : answers setup s K ≡ answers setup s h = answers-rest setup h (finish_entry line) legal s refl rest in
          rw within (was ∙ ap (λ (t : SessionNo). answers setup t h) it ∙ sym mine ∙ ap (λ (t : SessionNo). answers setup t K) (sym it))
      by_place i d below (inr other) = rw (← same-side (s.0 - 1) i other.1) (are.answered i d below)

  -- and where it is open, and was told: what is kept then, and the posts
  pub watched-told : (s : SessionNo) → 0 < s.0 → s.0 ≤ setup.sessions → is_closed s h ≡ false
      → (old new : Watchers) (before after : List PostedEvent) (count : ℕ)
      → IsSettled (told setup K) (length h) s old new before after count → due_told new + count ≡ due_told old → WatchedUpTo setup (s.0 - 1) K h old
      → WatchedUpTo setup s.0 K h new × (after ≡ before ++ map (post_of (length h) s) (answers_to (told setup K) (helds_of setup h s)))
  watched-told s some few opened old new before after count settles fewer are =
      let back : s.0 - 1 + 1 ≡ s.0 = omega (arith, some) in (
        subst (λ (m : ℕ). WatchedUpTo setup m K h new) back (record {
          count = settles.length_is ∙ are.count;
          sessions = ap (length {A = KeptGets}) settles.sessions_are ∙ length-set old.sessions.items n settles.to ∙ are.sessions;
          each = λ i d below. told-each i d (omega (arith, below, settles.length_is));
          answered = subst (AllNumbered (UpTo Had h K (n + 1))) (sym settles.sessions_are) (up-next Had h K n old.sessions.items settles.to are.answered total);
          listed = listed-now;
          few = omega (
            arith,
            are.few,
            fewer,
            ap (sum_by answers_in) settles.sessions_are,
            sum_by-set answers_in old.sessions.items n settles.to settles.from place,
            ap answers_in settles.of_from,
            settles.total,
          );
        }),
        settles.posted none ∙ ap (λ (l : List Event). before ++ map (post_of (length h) s) l) (events none),
      )
    where
      n : ℕ
      n = s.0 - 1

      next : s.0 ≡ n + 1
      next = omega (arith, some)

      none : PairWatchers
      none = nobody old

      place : n < length old.sessions.items
      place = omega (arith, some, few, are.sessions)

      lists : AreListed setup s old.pairs.items settles.from
      lists = at-session (λ t one. AreListed setup t old.pairs.items one) old.sessions.items s settles.from are.listed some (omega (arith, few, are.sessions))
          settles.of_from

      events : (d : PairWatchers) → all_answers (told setup K) settles.from old.pairs.items d ≡ answers_to (told setup K) (helds_of setup h s)
      events d = settled-events setup h line legal n s next old.pairs.items are.count are.each settles.from lists d

      total : settles.to.answers ≡ answers setup (number n) K
      total =
          let was : Had h n settles.from = up-here Had h K n old.sessions.items settles.from are.answered place settles.of_from in
          let mine : settles.from.answers ≡ answers setup s h = was ∙ ap (λ (t : SessionNo). answers setup t h) (same-number s some) in
          let all : settles.to.answers ≡ answers setup s K =
          omega (
            arith,
            settles.total,
            mine,
            settles.counted none,
            ap (length {A = Event}) (events none),
            answers-more setup h (finish_entry line) s opened,
          ) in
          all ∙ ap (λ (t : SessionNo). answers setup t K) (sym (same-number s some))

      told-each : (i : ℕ) (d : PairWatchers) → i < length old.pairs.items
          → AreAt setup (reached (n + 1) (listener setup (layout_of (pair i))) K h) (reached (n + 1) (viewport_owner setup (pair i)) K h) (pair i)
          (slice_index_or new.pairs.items i d)
      told-each i d below = settled-at setup h line legal n s next opened old.pairs.items settles.from lists i d below (slice_index_or new.pairs.items i d)
          (settles.each (pair i) d below) (are.each i d below)

      listed-now : AllNumbered (λ i. AreListed setup (number i) new.pairs.items) new.sessions.items
      listed-now =
          let views : Fewer view_waits old.pairs.items new.pairs.items =
          fewer-from view_waits old.pairs.items new.pairs.items settles.length_is
          (λ i d below silent. settled-views (told setup K) settles.from (pair i) (slice_index_or old.pairs.items i d) (slice_index_or new.pairs.items i d)
          (settles.each (pair i) d below) silent) in
          let viewports : Fewer viewport_waits old.pairs.items new.pairs.items =
          fewer-from viewport_waits old.pairs.items new.pairs.items settles.length_is
          (λ i d below silent. settled-viewports (told setup K) settles.from (pair i) (slice_index_or old.pairs.items i d)
          (slice_index_or new.pairs.items i d) (settles.each (pair i) d below) silent) in
          let mine : AreListed setup s new.pairs.items settles.to = record {
            views = subst (λ (l : List PairNo). IsList (owns_view setup s) (views_of setup s) view_waits new.pairs.items l) (sym settles.views)
                (list-left (owns_view setup s) (views_of setup s) view_waits old.pairs.items new.pairs.items settles.from.views views lists.views);
            viewports = subst (λ (l : List PairNo). IsList (owns_viewport setup s) (viewports_of setup s) viewport_waits new.pairs.items l)
                (sym settles.viewports) (list-left (owns_viewport setup s) (viewports_of setup s) viewport_waits old.pairs.items new.pairs.items
                settles.from.viewports viewports lists.viewports);
          } in
          subst (AllNumbered (λ i. AreListed setup (number i) new.pairs.items)) (sym settles.sessions_are)
          (changed-one (λ i. AreListed setup (number i) old.pairs.items) (λ i. AreListed setup (number i) new.pairs.items) old.sessions.items n settles.to
          (λ j one other kept. lists-fewer setup (number j) old.pairs.items new.pairs.items one views viewports kept)
          (subst (λ (t : SessionNo). AreListed setup t new.pairs.items settles.to) (sym (same-number s some)) mine) are.listed)
