-- Which replies the entries of a history have, and which histories there are.
use Rattle.std.specs.Prelude.{ℕ, ◌+◌, ◌-◌, ◌≡◌, IsTrue, Bool, true, false, cond, not, ◌&&◌, ◌||◌, ◌==◌, nat_lt, nat_le}
use Rattle.std.specs.Prelude.{List, [], ◌∷◌, ◌++◌, length, filter, Option, Some, None, unwrap_or, option_map, Result}
use Rattle.std.specs.Prelude.{Ok, Err, is_some, is_none, slice_get}
use Rattle.std.specs.List.{list_any, list_all}
use Rattle.flat_base.specs.declared.ids.Actor.{Actor}
use Rattle.flat_base.specs.declared.ids.Actor.TheVariants.{Display, Session, Probe}
use Rattle.flat_base.specs.declared.ids.BufferNo.{BufferNo}
use Rattle.flat_base.specs.declared.ids.FenceNo.{FenceNo}
use Rattle.flat_base.specs.declared.errors.FlatlandError.TheVariants.{BadOperation, NoPresentsRemaining, BadHangingGet}
use Rattle.flat_base.specs.declared.ids.PairNo.{PairNo}
use Rattle.flat_base.specs.declared.errors.Reason.{Reason}
use Rattle.flat_base.specs.declared.errors.Reason.TheVariants.{TokenNotHeld}
use Rattle.flat_base.specs.declared.ids.SessionNo.{SessionNo}
use Rattle.flat_scene.specs.declared.calls.Call.{Call}
use Rattle.flat_scene.specs.declared.calls.Call.TheVariants.{CreateView, CreateViewport, CreateImage}
use Rattle.flat_scene.specs.declared.calls.Inset.{Inset}
use Rattle.flat_scene.specs.declared.calls.ViewportProps.{ViewportProps}
use Rattle.flat_scene.specs.declared.journal.Entry.{Entry}
use Rattle.flat_scene.specs.declared.journal.Event.{Event}
use Rattle.flat_scene.specs.declared.journal.Event.TheVariants as event
use Rattle.flat_scene.specs.declared.journal.EntryKind.{EntryKind}
use Rattle.flat_scene.specs.declared.journal.EntryKind.TheVariants.{View, Viewport, Present, Get, Signal, Poll, Wait}
use Rattle.flat_scene.specs.declared.journal.EntryKind.TheVariants.{Close}
use Rattle.flat_scene.specs.declared.journal.EntryKind.TheVariants.{End, Begin, Finish, Hit, Dpr}
use Rattle.flat_scene.specs.declared.journal.Reply.{Reply}
use Rattle.flat_scene.specs.declared.journal.Reply.TheVariants.{Done, Presented, Held, Now, Polled, Met, Unmet, Closed}
use Rattle.flat_scene.specs.declared.journal.WatcherValue.{WatcherValue}
use Rattle.flat_scene.specs.declared.script.WaitCondition.{WaitCondition}
use Rattle.flat_scene.specs.declared.script.WaitCondition.TheVariants as asks
use Rattle.flat_scene.specs.declared.setup.Setup.{Setup}
use Rattle.flat_scene.specs.History.{◌▹◌, is_begin, is_finish, is_end, is_display, is_closed, is_session, calls, own}
use Rattle.flat_scene.specs.History.{presents}
use Rattle.flat_scene.specs.Setups.{is_declared, is_ratio}
use Rattle.flat_scene.specs.Frames.{taken, credits, is_signalled}
use Rattle.flat_scene.specs.Effect.{draft_of}
use Rattle.std.specs.Result.{result_ok}
use Rattle.flat_scene.specs.Draft.{Draft}
use Rattle.flat_scene.specs.Interleave.{entry_of_call}
use Rattle.flat_scene.specs.Misuse.{first_reason}
use Rattle.flat_scene.specs.Tree.{present_tests}
use Rattle.flat_rules.specs.Ends.{view_uses, uses_viewport, is_done, viewport_owner, view_owner}
use Rattle.flat_rules.specs.Watch.{Watcher, watching, watcher_of, told}
use Rattle.flat_watch.specs.Told.{news}
use Rattle.flat_rules.specs.Posts.{posted, events_to}
use Rattle.flat_rules.specs.Refusals.{may_refuse, same_reason}

-- ---- replies

-- the reply where a token isn't held
abbrev pub refused_token : Reply
refused_token = Closed (Some BadOperation) (Some TokenNotHeld)

-- the events, the kinds and the replies by which others are told apart
abbrev pub is_token_back : PairNo → Event → Bool
is_token_back p (event.TokenBack q) = q.0 == p.0
is_token_back p _ = false

abbrev pub is_told : Event → Bool
is_told (event.Told p get value) = true
is_told _ = false

abbrev pub is_poll : EntryKind → Bool
is_poll Poll = true
is_poll _ = false

abbrev pub is_now : Reply → Bool
is_now (Now value) = true
is_now _ = false

-- a fence's value
abbrev pub number_if : Bool → ℕ
number_if b = cond b 1 0

-- no entry of the actor after its End, and none but an End after it was closed
abbrev pub goes_on : List Entry → EntryKind → Actor → Bool
goes_on before kind (Session s) = not (list_any (λ entry. is_end entry.kind) (own s before))
    && (is_end kind || not (is_closed s before))
goes_on before kind _ = true

-- the time of a begin
abbrev pub time_of : EntryKind → ℕ
time_of (Begin time) = time
time_of _ = 0

-- the time of the last begin
abbrev pub begin_time : List Entry → ℕ
begin_time [] = 0
begin_time (before ▹ entry) = cond (is_begin entry.kind) (time_of entry.kind) (begin_time before)

-- the last of Begin and Finish is a Begin
abbrev pub is_frame_open : List Entry → Bool
is_frame_open [] = false
is_frame_open (before ▹ entry) = is_begin entry.kind || (not (is_finish entry.kind) && is_frame_open before)

-- Begin and Finish alternate, and begin times never fall
abbrev pub keeps_time : List Entry → EntryKind → Bool
keeps_time before (Begin time) = not (is_frame_open before) && nat_le (begin_time before) time
keeps_time before Finish = is_frame_open before
keeps_time before _ = true

-- a call that uses an end
abbrev pub is_link : Call → Bool
is_link call = is_some (entry_of_call call)

-- a call that makes this view, and one that makes a viewport with these properties
abbrev pub same_inset : Inset → Inset → Bool
same_inset a b = a.top == b.top && a.right == b.right && a.bottom == b.bottom && a.left == b.left

abbrev pub makes_view : PairNo → Option Call → Bool
makes_view p (Some (CreateView q)) = q.0 == p.0
makes_view p _ = false

abbrev pub makes_viewport : PairNo → ViewportProps → Option Call → Bool
makes_viewport p props (Some (CreateViewport c q w h inset)) = q.0 == p.0 && w == props.w && h == props.h
    && same_inset inset props.inset
makes_viewport p props _ = false

-- the last call of a View or a Viewport is its own
abbrev pub own_call : EntryKind → Option Call → Bool
own_call (View p) call = makes_view p call
own_call (Viewport p props) call = makes_viewport p props call
own_call _ call = true

-- a list without its last item
abbrev pub all_but_last : {A : Type 0} → List A → List A
all_but_last [] = []
all_but_last (x ∷ xs) = cond (length xs == 0) [] (x ∷ all_but_last xs)

-- no other call is a CreateView or a CreateViewport, but for the last one of a Close
abbrev pub links_alone : EntryKind → List Call → Bool
links_alone (View p) carries = not (list_any is_link (all_but_last carries))
links_alone (Viewport p props) carries = not (list_any is_link (all_but_last carries))
links_alone (Close reason) carries = not (list_any is_link (all_but_last carries))
links_alone _ carries = not (list_any is_link carries)

-- What a Close may say, by what all calls of the session make. A session that leaves says no reason.
-- Else it is the misuse of the last call, or
-- a present or a get is refused.
abbrev pub may_close : List Call → Result Draft Reason → Option Reason → Bool
may_close carries (Ok draft) None = not (list_any is_link carries)
may_close carries (Ok draft) (Some reason) = not (list_any is_link carries) && may_refuse draft reason
may_close carries (Err misused) (Some reason) = same_reason misused reason
may_close carries (Err misused) None = false

-- the number of finished frames
abbrev pub frames : List Entry → ℕ
frames history = length (filter (λ entry. is_finish entry.kind) history)

-- the number that a condition asks for
abbrev pub asked_of : WaitCondition → ℕ
asked_of (asks.Frames n) = n
asked_of (asks.Credits n) = n
asked_of (asks.Taken n) = n
asked_of (asks.Answers n) = n
asked_of (asks.Fence f) = 1
asked_of (asks.Presents s n) = n

-- the reply to a Wait that asks for so many
abbrev pub waited : ℕ → ℕ → Reply
waited wanted value = cond (nat_le wanted value) (Met value) (Unmet value)

-- the reply to a get, where one is held, or where there is a value to tell or none
abbrev pub got : Bool → Option WatcherValue → Reply
got true value = Closed (Some BadHangingGet) None
got false (Some value) = Now value
got false None = Held

-- the entries of the compositor, and those of a session
abbrev pub display_may : EntryKind → Bool
display_may (Begin time) = true
display_may Finish = true
display_may (Hit x y) = true
display_may (Dpr ratio) = true
display_may (Signal f) = true
display_may (Wait (asks.Presents s n)) = true
display_may (Wait (asks.Fence f)) = true
display_may _ = false

abbrev pub session_may : EntryKind → Bool
session_may (View p) = true
session_may (Viewport p props) = true
session_may (Present args) = true
session_may (Get get) = true
session_may (Signal f) = true
session_may Poll = true
session_may (Wait (asks.Presents s n)) = false
session_may (Wait c) = true
session_may (Close reason) = true
session_may (End refused) = true
session_may _ = false

module _ (setup : Setup) where
  -- whether the viewport end of a pair can be used: it wasn't yet, or its token came back since
  abbrev pub has_token : PairNo → List Entry → Bool
  has_token p [] = true
  has_token p (before ▹ entry) =
      not (uses_viewport p entry.kind && is_done entry.reply)
      && (has_token p before || list_any (λ sent. is_token_back p sent.event) (posted setup before entry))

  -- how many events of a sort an entry posts to a session
  abbrev pub sent_to : SessionNo → (Event → Bool) → List Entry → Entry → ℕ
  sent_to s test before entry = length (filter test (events_to setup before entry s))

  -- the events posted to a session since its last Poll, the oldest first
  abbrev pub unread_events : SessionNo → List Entry → List Event
  unread_events s [] = []
  unread_events s (before ▹ entry) = cond (is_session s entry.actor && is_poll entry.kind) [] (unread_events s before)
      ++ events_to setup before entry s

  -- how many they are
  abbrev pub unread : SessionNo → List Entry → ℕ
  unread s history = length (unread_events s history)

  -- the answers that a session has had from its watchers
  abbrev pub answers : SessionNo → List Entry → ℕ
  answers s [] = 0
  answers s (before ▹ entry) =
      answers s before + number_if (is_session s entry.actor && is_now entry.reply) + sent_to s is_told before entry

  -- the value of a condition
  abbrev pub value_of : List Entry → Actor → WaitCondition → ℕ
  value_of history actor (asks.Frames n) = frames history
  value_of history (Session s) (asks.Credits n) = credits setup history s
  value_of history (Session s) (asks.Taken n) = taken setup history s
  value_of history (Session s) (asks.Answers n) = answers s history
  value_of history actor (asks.Fence f) = number_if (is_signalled setup history f)
  value_of history actor (asks.Presents s n) = length (presents s history)
  value_of history _ _ = 0

  -- the reply to a get: refused while another is held, the news at once, or held
  abbrev pub reply_to_get : List Entry → Option Watcher → Reply
  reply_to_get before (Some watcher) =
      got (is_some (watching setup watcher before).waits)
      (news (told setup before watcher) (watching setup watcher before).last)
  reply_to_get before None = Held

  -- the reply to a present: its number and the credits left, or refused where there is none
  abbrev pub reply_to_present : List Entry → Actor → Reply
  reply_to_present before (Session s) =
      cond (nat_lt 0 (credits setup before s)) (Presented (length (presents s before) + 1) (credits setup before s - 1))
      (Closed (Some NoPresentsRemaining) None)
  reply_to_present before _ = Done

  -- how many events a Poll hands over
  abbrev pub polled_by : Actor → List Entry → ℕ
  polled_by (Session s) history = unread s history
  polled_by _ history = 0

  -- the reply to an entry of an actor, which carries those calls
  abbrev pub reply_to : List Entry → Actor → List Call → EntryKind → Reply
  reply_to before actor carries (View p) = cond (length (view_uses p before) == 0) Done refused_token
  reply_to before actor carries (Viewport p props) = cond (has_token p before) Done refused_token
  reply_to before actor carries (Present args) = reply_to_present before actor
  reply_to before actor carries (Get get) = reply_to_get before (watcher_of setup before actor carries get)
  reply_to before actor carries Poll = Polled (polled_by actor before)
  reply_to before actor carries (Wait c) = waited (asked_of c) (value_of before actor c)
  reply_to before actor carries (Close None) = Closed None None
  reply_to before actor carries (Close (Some reason)) = Closed (Some BadOperation) (Some reason)
  reply_to before actor carries _ = Done

  -- ---- which entries there may be

  -- the compositor makes these entries, and each declared session those; a probe makes none
  abbrev pub may_act : EntryKind → Actor → Bool
  may_act kind Display = display_may kind
  may_act kind (Session s) = session_may kind && is_declared setup s
  may_act kind (Probe p) = false

  -- the draft of an actor with the calls of one more entry
  abbrev pub draft_with : List Entry → Actor → List Call → Option Draft
  draft_with before (Session s) carries = result_ok (draft_of setup (calls s before ++ carries))
  draft_with before _ carries = None

  -- The calls of a session have no misuse, but that the last one of a Close may be the misuse that closes.
  -- An End says that no line was refused,
  -- unless the session was closed: then it carries no calls, and may say any number. Only a session has calls.
  abbrev pub has_draft : List Entry → Actor → List Call → EntryKind → Bool
  has_draft before (Session s) carries (Close why) =
      is_some (draft_with before (Session s) (all_but_last carries))
      && may_close carries (draft_of setup (calls s before ++ carries)) why
  has_draft before (Session s) carries (End refused) =
      cond (is_closed s before) (length carries == 0) (refused == 0 && is_some (draft_with before (Session s) carries))
  has_draft before (Session s) carries kind = is_closed s before || is_some (draft_with before (Session s) carries)
  has_draft before _ carries kind = length carries == 0

  -- ---- what is owned

  abbrev pub owns_view : SessionNo → PairNo → Bool
  owns_view s p = unwrap_or (option_map (λ t. t.0 == s.0) (view_owner setup p)) false

  abbrev pub owns_viewport : SessionNo → PairNo → Bool
  owns_viewport s p = unwrap_or (option_map (is_session s) (viewport_owner setup p)) false

  abbrev pub owns_fence : SessionNo → FenceNo → Bool
  owns_fence s f =
      unwrap_or (option_map (λ fence. list_any (is_session s) fence.owners) (slice_get setup.fences f.0)) false

  abbrev pub owns_buffers : SessionNo → BufferNo → Bool
  owns_buffers s b = unwrap_or (option_map (λ buffers. buffers.owner.0 == s.0) (slice_get setup.buffers b.0)) false

  abbrev pub owns_in_call : SessionNo → Call → Bool
  owns_in_call s (CreateView pair) = owns_view s pair
  owns_in_call s (CreateViewport c pair w h inset) = owns_viewport s pair
  owns_in_call s (CreateImage c buffers i w h) = owns_buffers s buffers
  owns_in_call s _ = true

  abbrev pub owns_in_kind : SessionNo → EntryKind → Bool
  owns_in_kind s (View p) = owns_view s p
  owns_in_kind s (Viewport p props) = owns_viewport s p
  owns_in_kind s (Present args) = list_all (owns_fence s) args.acquire && list_all (owns_fence s) args.release
  owns_in_kind s (Signal f) = owns_fence s f
  owns_in_kind s (Wait (asks.Fence f)) = owns_fence s f
  owns_in_kind s _ = true

  -- a session's entry and its calls name only what the session owns
  abbrev pub owns_all : Actor → List Call → EntryKind → Bool
  owns_all (Session s) carries kind = owns_in_kind s kind && list_all (owns_in_call s) carries
  owns_all _ carries kind = true

  -- what the compositor may name: a fence of the display, a declared session, and a pixel ratio that a display may have
  abbrev pub display_owns : FenceNo → Bool
  display_owns f = unwrap_or (option_map (λ fence. list_any is_display fence.owners) (slice_get setup.fences f.0)) false

  abbrev pub names_declared : EntryKind → Bool
  names_declared (Signal f) = display_owns f
  names_declared (Wait (asks.Fence f)) = display_owns f
  names_declared (Wait (asks.Presents s n)) = is_declared setup s
  names_declared (Dpr ratio) = is_ratio ratio
  names_declared _ = true

  -- a session may name what it owns, and that is asked elsewhere
  abbrev pub may_name : Actor → EntryKind → Bool
  may_name Display kind = names_declared kind
  may_name _ kind = true

  -- a present is no misuse of its draft, and a get has a watcher
  abbrev pub has_tree : Option Draft → EntryKind → Bool
  has_tree (Some draft) (Present args) = is_none (first_reason (present_tests draft args))
  has_tree None (Present args) = false
  has_tree draft _ = true

  abbrev pub has_watcher : List Entry → Actor → List Call → EntryKind → Bool
  has_watcher before actor carries (Get get) = is_some (watcher_of setup before actor carries get)
  has_watcher before actor carries _ = true

  -- What an entry must meet, by what was before it and whatever its reply: a call of the service makes it only then.
  pub record MayEnter (before : List Entry) (actor : Actor) (carries : List Call) (kind : EntryKind) : Type 0 where
    pub acts : IsTrue (may_act kind actor)
    pub lasts : IsTrue (goes_on before kind actor)
    pub times : IsTrue (keeps_time before kind)
    pub drafted : IsTrue (has_draft before actor carries kind)
    pub calls : IsTrue (own_call kind (slice_get carries (length carries - 1)))
    pub links : IsTrue (links_alone kind carries)
    pub owned : IsTrue (owns_all actor carries kind)
    pub named : IsTrue (may_name actor kind)
    pub tree : IsTrue (has_tree (draft_with before actor carries) kind)
    pub watcher : IsTrue (has_watcher before actor carries kind)

  -- An entry is legal where it may be made and has its reply.
  pub record LegalEntry (before : List Entry) (entry : Entry) : Type 0 where
    pub may : MayEnter before entry.actor entry.calls entry.kind
    pub reply : entry.reply ≡ reply_to before entry.actor entry.calls entry.kind

  -- A history is legal where each entry is, after those before it.
  abbrev pub Legal : List Entry → Type 0
  Legal [] = Unit {0}
  Legal (before ▹ entry) = Legal before × LegalEntry before entry
