-- A poll of the board.
use Rattle.std.proofs.Common.{◌≡◌, ℕ, ◌-◌, ◌<◌, ◌≤◌, ◌^◌, Bool, false, List, ◌++◌, length, arith, ◌∙◌, ap, drop, slice_index_or}
use Rattle.std.specs.Prelude.{IsTrue, sum, not}
use Rattle.std.specs.List.{list_any}
use Rattle.std.proofs.lemmas.Bool.{not-true}
use Rattle.std.proofs.lemmas.List.{get_or_default}
use Rattle.flat_base.specs.declared.ids.Actor.TheVariants.{Session}
use Rattle.flat_base.specs.declared.ids.SessionNo.{SessionNo}
use Rattle.flat_scene.specs.declared.calls.Call.{Call}
use Rattle.flat_scene.specs.declared.journal.Entry.{Entry}
use Rattle.flat_scene.specs.declared.journal.Event.{Event}
use Rattle.flat_scene.specs.declared.setup.Setup.{Setup}
use Rattle.flat_scene.specs.History.{is_closed, is_end, own}
use Rattle.flat_base.proofs.lemmas.Tests.{and-right}
use Rattle.std.proofs.lemmas.List.Sums.{sum_by-set}
use Rattle.flat_gets.specs.declared.watching.Watchers.{Watchers}
use Rattle.flat_gets.specs.Listed.{KeptGets, no_gets}
use Rattle.flat_gets.specs.Gets.{gets_made}
use Rattle.flat_gets.specs.Watchers.{AreWatched, answers_in}
use Rattle.flat_core.proofs.FewEvents.{unread-short}
use Rattle.flat_scene.specs.declared.journal.EntryKind.TheVariants.{Poll}
use Rattle.flat_scene.specs.declared.journal.PostedEvent.{PostedEvent}
use Rattle.flat_states.specs.declared.frame_clock.FrameClock.{FrameClock}
use Rattle.flat_states.specs.declared.state.SessionCounts.{SessionCounts}
use Rattle.flat_states.specs.declared.state.SessionState.{SessionState}
use Rattle.flat_states.specs.Machines.{Machine, MayCall, Stands, HasRoom}
use Rattle.flat_states.specs.Kept.{IsKept}
use Rattle.flat_rules.specs.Legal.{answers, goes_on, unread, unread_events}
use Rattle.flat_states.specs.Logs.{Logged}
use Rattle.flat_core.specs.Polls.{events_for}
use Rattle.flat_rules.specs.AllPosts.{posts}
use Rattle.flat_states.specs.Seen.{seen_of}
use Rattle.flat_states.proofs.lemmas.Counts.{at-session, kept-session, declared-some}
use Rattle.flat_states.proofs.lemmas.Ones.{declared-of}
use Rattle.flat_core.proofs.Polled.{polled-le, handed-over, handed-count}
use Rattle.flat_states.proofs.lemmas.Steps.{few-history}

-- where the session's events begin is in the posts
pub polled-within : (m : Machine) (s : SessionNo) (calls : List Call) → MayCall m (Session s) calls Poll
    → (clock : FrameClock) (fences views : List Bool) (sessions : List SessionState) (log : Logged) (owed : ℕ) {dues : ℕ} (state : SessionState)
    (all : List PostedEvent)
    → state ≡ slice_index_or sessions (s.0 - 1) state
    → log.history ≡ m.history → Stands m.setup log.history clock fences views sessions → HasRoom m.setup m.shares log owed dues → all ≡ log.posts
    → state.account.polled ≤ length all
polled-within m s calls call clock fences views sessions log owed {dues} state all is same stands room posted =
    let kept : IsKept m.setup (seen_of m.setup log.history s) state =
    kept-session m.setup log.history clock fences views sessions s state stands (declared-of m.setup Poll s call.may.acts) is in
    let long : length all ≡ length (posts m.setup log.history) = ap length (posted ∙ room.posts) in
    omega (arith, ap (λ (a : SessionCounts). a.polled) kept.account, polled-le m.setup log.history s, long)

-- What was handed over: as many as are unread, a number of the machine.
pub record Handed (m : Machine) (s : SessionNo) (count : ℕ) (into list : List Event) (all : List PostedEvent) : Type 0 where
  pub events : list ≡ into ++ unread_events m.setup s m.history
  pub as_many : count ≡ unread m.setup s m.history
  pub small : count < 2 ^ 32
  pub place : length all ≡ length (posts m.setup m.history)

-- a session has no more answers than gets were made
told-few : (setup : Setup) (h : List Entry) (s : SessionNo) (watchers : Watchers) → AreWatched setup h watchers → 0 < s.0 → s.0 ≤ length watchers.sessions.items
    → answers setup s h ≤ gets_made h
told-few setup h s watchers are some few =
    let all : List KeptGets = watchers.sessions.items in
    let at : s.0 - 1 < length all = omega (arith, some, few) in
    let own : KeptGets = slice_index_or all (s.0 - 1) no_gets in
    let is : own ≡ slice_index_or all (s.0 - 1) own = get_or_default all (s.0 - 1) no_gets own at in
    let counted : own.answers ≡ answers setup s h = at-session (λ t one. one.answers ≡ answers setup t h) all s own are.answered some few is in
    omega (arith, are.few, counted, sum_by-set answers_in all (s.0 - 1) no_gets own at, ap answers_in is)

-- a session that polls is open
polls-open : (before : List Entry) (s : SessionNo) → IsTrue (goes_on before Poll (Session s)) → is_closed s before ≡ false
polls-open before s goes = not-true (is_closed s before)
    (and-right (not (list_any (λ entry. is_end entry.kind) (own s before))) (not (is_closed s before)) goes)

pub handed : (m : Machine) (s : SessionNo) (calls : List Call) → MayCall m (Session s) calls Poll
    → (clock : FrameClock) (fences views : List Bool) (sessions : List SessionState) (log : Logged) (owed : ℕ) {dues : ℕ} (state : SessionState)
    (all : List PostedEvent)
    (into list : List Event) (count : ℕ)
    → state ≡ slice_index_or sessions (s.0 - 1) state
    → log.history ≡ m.history → Stands m.setup log.history clock fences views sessions → HasRoom m.setup m.shares log owed dues → all ≡ log.posts
    → list ≡ into ++ events_for s (drop state.account.polled all) → count ≡ length list - length into → (watchers : Watchers)
    → AreWatched m.setup m.history watchers → Handed m s count into list all
handed m s calls call clock fences views sessions log owed {dues} state all into list count is same stands room posted pushed counted watchers watched =
    let old : Stands m.setup m.history clock fences views sessions = rw (← same) stands in
    let declared = declared-of m.setup Poll s call.may.acts in
    let here = declared-some s.0 m.setup.sessions declared in
    let kept : IsKept m.setup (seen_of m.setup m.history s) state = kept-session m.setup m.history clock fences views sessions s state old declared is in
    let all_posts : all ≡ posts m.setup m.history = posted ∙ rw (← same) room.posts in
    let events : list ≡ into ++ unread_events m.setup s m.history =
    handed-over m.setup m.history s into list state.account.polled all here.0 here.1 pushed (ap (λ (a : SessionCounts). a.polled) kept.account) all_posts in
    let as_many : count ≡ unread m.setup s m.history = counted ∙ handed-count m.setup m.history s into list events in
    let opened : is_closed s m.history ≡ false = polls-open m.history s call.may.lasts in
    let told = told-few m.setup m.history s watchers watched here.0 (omega (arith, here.1, watched.sessions)) in
    let few : length m.history < sum m.shares = few-history m (Session s) calls Poll call old.legal log owed dues same room in
    record {
      events = events;
      as_many = as_many;
      small = omega (arith, as_many, unread-short m.setup s m.history old.legal opened told, few, room.total);
      place = ap length all_posts;
    }
