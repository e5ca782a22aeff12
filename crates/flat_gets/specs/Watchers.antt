-- What is kept of the gets of all sessions, by the watchers of all pairs.
use Rattle.std.specs.Prelude.{◌≡◌, ◌⊎◌, ◌<◌, ◌≤◌, ◌+◌, ◌-◌, ◌++◌, ℕ, Bool, true, false, not, nat_lt, nat_le, cond, ◌&&◌}
use Rattle.std.specs.Prelude.{◌==◌, option_map, unwrap_or, slice_get, List, filter, flat_map, map, length}
use Rattle.std.specs.Prelude.{slice_index_or, slice_set, sum_by, vec_capacity, Option, Some, None, is_some}
use Rattle.flat_base.specs.declared.ids.Actor.{Actor}
use Rattle.flat_base.specs.declared.ids.Actor.TheVariants.{Session}
use Rattle.flat_base.specs.declared.ids.PairNo.{PairNo}
use Rattle.flat_base.specs.declared.ids.SessionNo.{SessionNo}
use Rattle.flat_scene.specs.declared.calls.ViewportProps.{ViewportProps}
use Rattle.flat_scene.specs.declared.calls.Watch.{Watch}
use Rattle.flat_scene.specs.declared.journal.Entry.{Entry}
use Rattle.flat_scene.specs.declared.journal.Event.{Event}
use Rattle.flat_scene.specs.declared.journal.EntryKind.TheVariants.{Viewport}
use Rattle.flat_scene.specs.declared.journal.PostedEvent.{PostedEvent}
use Rattle.flat_scene.specs.declared.journal.Reply.{Reply}
use Rattle.flat_scene.specs.declared.journal.Reply.TheVariants.{Closed, Held, Now}
use Rattle.flat_base.specs.declared.errors.FlatlandError.TheVariants.{BadHangingGet}
use Rattle.flat_watch.specs.declared.hanging_get.GetAnswer.{GetAnswer}
use Rattle.flat_watch.specs.declared.hanging_get.GetAnswer.TheVariants as answers_at_once
use Rattle.flat_scene.specs.declared.journal.WatcherValue.{WatcherValue}
use Rattle.flat_scene.specs.declared.setup.Setup.{Setup}
use Rattle.flat_scene.specs.History.{◌▹◌, is_closed}
use Rattle.flat_scene.specs.Setups.{is_declared}
use Rattle.flat_gets.specs.declared.pair.PairWatchers.{PairWatchers}
use Rattle.flat_gets.specs.declared.pair.WatchedPart.{WatchedPart}
use Rattle.flat_gets.specs.declared.pair.WatchedPart.TheVariants as parts
use Rattle.flat_gets.specs.declared.watching.Watchers.{Watchers}
use Rattle.flat_states.specs.declared.state.SessionState.{SessionState}
use Rattle.flat_facts.specs.Begins.{post_of}
use Rattle.flat_facts.specs.Pairs.{pair}
use Rattle.flat_states.specs.Presents.{use_reply}
use Rattle.flat_rules.specs.Numbers.{number, AllNumbered}
use Rattle.flat_rules.specs.Ends.{view_uses, viewport_owner, viewport_uses}
use Rattle.flat_rules.specs.Legal.{Legal, answers, got, is_now, number_if, owns_view}
use Rattle.flat_rules.specs.Posts.{event_of}
use Rattle.flat_rules.specs.Watch.{Watcher, layout_of, status_of, listener, ratio_told, told}
use Rattle.flat_watch.specs.Told.{answer, news, settled}
use Rattle.flat_gets.specs.Dues.{due_told}
use Rattle.flat_gets.specs.Gets.{gets_made}
use Rattle.flat_gets.specs.Listed.{AreListed, KeptGets, is_listed, view_waits, viewport_waits, waits_at, with_pair}
use Rattle.flat_gets.specs.Pairs.{AreAt, IsGot, IsTold, hanging_get_at, is_child, part_events, part_of, still_waiting}
use Rattle.flat_gets.specs.Pairs.{watcher_at}

-- ---- a get

-- the watcher of a pair that a get means
abbrev pub watcher_meant : List Entry → Watch → PairNo → Watcher
watcher_meant history get p = watcher_at (part_of get) p (length (viewport_uses p history))

-- the reply to a get by the answer of its hanging get
abbrev pub replied : GetAnswer → Reply
replied (answers_at_once.Now value) = Now value
replied answers_at_once.Held = Held
replied answers_at_once.BadHangingGet = Closed (Some BadHangingGet) None

-- whether a get waits by its reply
abbrev pub is_held : Reply → Bool
is_held Held = true
is_held _ = false

-- A session asks for a value of a pair, as it is told after the history.
pub record IsAsked (setup : Setup) (history : List Entry) (s : SessionNo) (p : PairNo) (get : Watch) (reply : Reply)
    (old new : Watchers) : Type 0 where
  pub was : PairWatchers
  pub then : PairWatchers
  pub from : KeptGets
  pub to : KeptGets
  pub of_was : was ≡ slice_index_or old.pairs.items p.0 was
  pub pairs_are : new.pairs.items ≡ slice_set old.pairs.items p.0 then
  pub of_from : from ≡ slice_index_or old.sessions.items (s.0 - 1) from
  pub sessions_are : new.sessions.items ≡ slice_set old.sessions.items (s.0 - 1) to
  pub gets : IsGot (part_of get) get (told setup history (watcher_at (part_of get) p 0)) was then
  pub replied : reply ≡ got (is_some (hanging_get_at (part_of get) was).waits)
      (news (told setup history (watcher_at (part_of get) p 0)) (hanging_get_at (part_of get) was).last)
  pub counted : to.answers ≡ from.answers + number_if (is_now reply)
  pub views : to.views ≡ cond (is_held reply && not (is_child (part_of get))) (with_pair p from.views) from.views
  pub viewports : to.viewports ≡ cond (is_held reply && is_child (part_of get)) (with_pair p from.viewports)
      from.viewports

-- ---- gets are answered

-- what the listed pairs answer of a part, where this is told of each now
abbrev pub part_answers : WatchedPart → (PairNo → Option WatcherValue) → List PairWatchers → PairWatchers → List PairNo
    → List Event
part_answers part now pairs d = flat_map (λ p. part_events part p (now p) (slice_index_or pairs p.0 d))

-- The listed pairs answer a part, by an entry of that place.
pub record TellsEach (part : WatchedPart) (now : PairNo → Option WatcherValue) (place : ℕ) (s : SessionNo)
    (listed : List PairNo)
    (old new : List PairWatchers) (posts after : List PostedEvent) (count : ℕ) : Type 0 where
  pub length_is : length new ≡ length old
  pub told : (p : PairNo) (d : PairWatchers) → p.0 < length old → is_listed p.0 listed ≡ true
      → IsTold part (now p) (slice_index_or old p.0 d) (slice_index_or new p.0 d)
  pub others : (i : ℕ) (d : PairWatchers) → i < length old → is_listed i listed ≡ false
      → slice_index_or new i d ≡ slice_index_or old i d
  pub posted : (d : PairWatchers) → after ≡ posts ++ map (post_of place s) (part_answers part now old d listed)
  pub counted : (d : PairWatchers) → count ≡ length (part_answers part now old d listed)

-- What is kept of a pair after all answers to a session, of which these pairs were listed.
pub record IsToldAll (now : Watcher → Option WatcherValue) (from : KeptGets) (p : PairNo) (old new : PairWatchers)
    : Type 0
  where
    pub layout : new.layout ≡ settled (is_listed p.0 from.views) (now (watcher_at parts.Layout p 0)) old.layout
    pub status : new.status ≡ settled (is_listed p.0 from.views) (now (watcher_at parts.Status p 0)) old.status
    pub child : new.child ≡ settled (is_listed p.0 from.viewports) (now (watcher_at parts.Child p 0)) old.child
    pub former : new.former.items ≡ cond (is_listed p.0 from.viewports)
        (still_waiting (now (watcher_at parts.Child p 0)) old.former.items) old.former.items

-- all answers to a session, in order: layouts, statuses, children
abbrev pub all_answers : (Watcher → Option WatcherValue) → KeptGets → List PairWatchers → PairWatchers → List Event
all_answers now from pairs d =
    part_answers parts.Layout (λ p. now (watcher_at parts.Layout p 0)) pairs d from.views
    ++ part_answers parts.Status (λ p. now (watcher_at parts.Status p 0)) pairs d from.views
    ++ part_answers parts.Child (λ p. now (watcher_at parts.Child p 0)) pairs d from.viewports

-- The gets of a session that wait are answered where there is news, and others aren't.
pub record IsSettled (now : Watcher → Option WatcherValue) (place : ℕ) (s : SessionNo) (old new : Watchers)
    (posts after : List PostedEvent) (count : ℕ) : Type 0 where
  pub from : KeptGets
  pub to : KeptGets
  pub of_from : from ≡ slice_index_or old.sessions.items (s.0 - 1) from
  pub sessions_are : new.sessions.items ≡ slice_set old.sessions.items (s.0 - 1) to
  pub length_is : length new.pairs.items ≡ length old.pairs.items
  pub each : (p : PairNo) (d : PairWatchers) → p.0 < length old.pairs.items
      → IsToldAll now from p (slice_index_or old.pairs.items p.0 d) (slice_index_or new.pairs.items p.0 d)
  pub posted : (d : PairWatchers) → after ≡ posts ++ map (post_of place s) (all_answers now from old.pairs.items d)
  pub counted : (d : PairWatchers) → count ≡ length (all_answers now from old.pairs.items d)
  pub total : to.answers ≡ from.answers + count
  pub views : to.views ≡ filter (waits_at view_waits new.pairs.items) from.views
  pub viewports : to.viewports ≡ filter (waits_at viewport_waits new.pairs.items) from.viewports

-- What is kept of a pair after the answers to gets of its view.
pub record IsViewTold (now : Watcher → Option WatcherValue) (p : PairNo) (old new : PairWatchers) : Type 0 where
  pub layout : new.layout ≡ settled true (now (layout_of p)) old.layout
  pub status : new.status ≡ settled true (now (status_of p)) old.status
  pub child : new.child ≡ old.child
  pub former : new.former.items ≡ old.former.items

-- The gets of a pair's view that wait are answered where there is news, to a session.
pub record TellsView (now : Watcher → Option WatcherValue) (place : ℕ) (s : SessionNo) (p : PairNo) (old new : Watchers)
    (posts after : List PostedEvent) (count : ℕ) : Type 0 where
  pub was : PairWatchers
  pub then : PairWatchers
  pub from : KeptGets
  pub of_was : was ≡ slice_index_or old.pairs.items p.0 was
  pub pairs_are : new.pairs.items ≡ slice_set old.pairs.items p.0 then
  pub of_from : from ≡ slice_index_or old.sessions.items (s.0 - 1) from
  pub sessions_are : new.sessions.items ≡ slice_set old.sessions.items (s.0 - 1)
      (record from { answers = from.answers + count })
  pub told : IsViewTold now p was then
  pub posted : after ≡ posts ++ map (post_of place s)
      (event_of p was.layout.waits (answer (now (layout_of p)) was.layout)
      ++ event_of p was.status.waits (answer (now (status_of p)) was.status))
  pub counted : count ≡ length (event_of p was.layout.waits (answer (now (layout_of p)) was.layout)
      ++ event_of p was.status.waits (answer (now (status_of p)) was.status))

-- the room is there for one more use of the viewport end of a pair
abbrev pub HasRoomAt : PairNo → Watchers → Type 0
HasRoomAt p watchers = (d : PairWatchers)
    → length (slice_index_or watchers.pairs.items p.0 d).former.items < vec_capacity
    (slice_index_or watchers.pairs.items p.0 d).former

-- ---- what is kept stands for a history

abbrev pub answers_in : KeptGets → ℕ
answers_in gets = gets.answers

-- answers and gets that wait are no more than the gets made
abbrev pub told_and_due : Watchers → ℕ
told_and_due watchers = sum_by answers_in watchers.sessions.items + due_told watchers

-- What is kept of all sessions and all pairs stands for a history.
pub record AreWatched (setup : Setup) (history : List Entry) (watchers : Watchers) : Type 0 where
  pub count : length watchers.pairs.items ≡ length setup.pairs
  pub sessions : length watchers.sessions.items ≡ setup.sessions
  pub each : AllNumbered (λ i. AreAt setup history history (pair i)) watchers.pairs.items
  pub answered : AllNumbered (λ i one. one.answers ≡ answers setup (number i) history) watchers.sessions.items
  pub listed : AllNumbered (λ i. AreListed setup (number i) watchers.pairs.items) watchers.sessions.items
  pub few : told_and_due watchers ≤ gets_made history

-- a history, or the one after an entry where this actor is one of the first sessions, up to that number
abbrev pub reached : ℕ → Option Actor → List Entry → List Entry → List Entry
reached n (Some (Session s)) after before = cond (nat_lt 0 s.0 && nat_le s.0 n) after before
reached n _ after before = before

-- The same at the end of a frame, where the first so many sessions were told.
pub record WatchedUpTo (setup : Setup) (n : ℕ) (after before : List Entry) (watchers : Watchers) : Type 0 where
  pub count : length watchers.pairs.items ≡ length setup.pairs
  pub sessions : length watchers.sessions.items ≡ setup.sessions
  pub each : AllNumbered (λ i. AreAt setup (reached n (listener setup (layout_of (pair i))) after before)
      (reached n (viewport_owner setup (pair i)) after before) (pair i)) watchers.pairs.items
  pub answered : AllNumbered (λ i one. one.answers ≡ answers setup (number i) (cond (nat_lt i n) after before))
      watchers.sessions.items
  pub listed : AllNumbered (λ i. AreListed setup (number i) watchers.pairs.items) watchers.sessions.items
  pub few : told_and_due watchers ≤ gets_made before

-- ---- a viewport

-- whether a session is closed by its state, or isn't one of these
abbrev pub is_shut : List SessionState → SessionNo → Bool
is_shut sessions s = cond (s.0 == 0) true
    (unwrap_or (option_map (λ state. state.closed) (slice_get sessions (s.0 - 1))) true)

-- An entry uses the viewport end of a pair, whose view this session owns, or is refused to.
-- The session is shut where it is closed, or isn't one of the setup.
pub record IsJoin (setup : Setup) (history : List Entry) (entry : Entry) (is_held : Bool) (owner : SessionNo)
    (shut : Bool) (p : PairNo) : Type 0 where
  pub legal : Legal setup (history ▹ entry)
  pub props : ViewportProps
  pub kind : entry.kind ≡ Viewport p props
  pub replied : entry.reply ≡ use_reply is_held
  pub owned : owns_view setup owner p ≡ true
  pub known : p.0 < length setup.pairs
  pub opened : shut ≡ false → (is_declared setup owner ≡ true) × (is_closed owner history ≡ false)
  pub closed : shut ≡ true → (is_declared setup owner ≡ false) ⊎ (is_closed owner history ≡ true)
