-- What is kept of sessions and of pairs, so that what the ends of a pair tell can be told at once.
use Rattle.std.specs.Prelude.{◌≡◌, ℕ, ◌<◌, true, false, List, [], length, Option, Some, None, ◌&&◌, option_and_then}
use Rattle.flat_base.specs.declared.ids.Actor.TheVariants.{Session}
use Rattle.flat_base.specs.declared.ids.PairNo.{PairNo}
use Rattle.flat_base.specs.declared.ids.SessionNo.{SessionNo}
use Rattle.flat_scene.specs.declared.calls.Call.{Call}
use Rattle.flat_scene.specs.declared.calls.ViewportProps.{ViewportProps}
use Rattle.flat_scene.specs.declared.journal.Entry.{Entry}
use Rattle.flat_scene.specs.declared.setup.Setup.{Setup}
use Rattle.flat_scene.specs.Frames.{taken}
use Rattle.flat_scene.specs.History.{◌▹◌, calls, is_closed, is_session, is_begin, is_finish, presents}
use Rattle.flat_links.specs.declared.session_links.SessionLinks.{SessionLinks}
use Rattle.flat_links.specs.declared.session_links.SeenAtBegin.{SeenAtBegin}
use Rattle.flat_facts.specs.declared.live_viewport.LiveViewport.{LiveViewport}
use Rattle.flat_links.specs.declared.pairs.PairState.{PairState}
use Rattle.flat_states.specs.declared.state.SessionCounts.{SessionCounts}
use Rattle.flat_states.specs.declared.state.SessionState.{SessionState}
use Rattle.flat_facts.specs.Begins.{begun, finished}
use Rattle.flat_facts.specs.Contents.{capped}
use Rattle.flat_rules.specs.Numbers.{number, AllNumbered}
use Rattle.flat_rules.specs.Ends.{clears_viewport, ends_view, happens, to_begin, to_finished, view_owner}
use Rattle.flat_rules.specs.Ends.{viewport_owner, viewport_uses, uses_viewport, is_done}
use Rattle.flat_states.specs.Kept.{IsKept, taken_in}
use Rattle.flat_rules.specs.Legal.{Legal}
use Rattle.flat_facts.specs.Lives.{lives_after}
use Rattle.flat_states.specs.Seen.{seen_of}
use Rattle.flat_rules.specs.Serials.{IsUseSerial, contents_made}
use Rattle.flat_rules.specs.Shown.{is_connected, is_pair, shown_states, shown_view}
use Rattle.flat_rules.specs.Stamps.{IsStamp}
use Rattle.flat_facts.specs.Views.{last_view}
use Rattle.flat_rules.specs.Watch.{props_given, props_seen}
use Rattle.flat_links.specs.Hearing.{IsBound, is_within, losings}
use Rattle.flat_topology.specs.Join.{is_joined}
use Rattle.flat_topology.specs.Shown.{Shown, state_of}
use Rattle.flat_facts.specs.Pairs.{pair}

-- what contracts see of what is kept of all sessions, and of how they are connected
pub record KeptSessionLinks : Type 0 where
  pub items : List SessionLinks
  pub distances : List (Option ℕ)

-- what a history without a frame says of a session
abbrev pub nothing : SeenAtBegin
nothing = record { closed = false; taken = 0; view = None; connected = false }

-- what is kept of a session to which nothing happened
abbrev pub new_session_links : SessionLinks
new_session_links = record { contents = 0; losing = None; begun = nothing; finished = nothing }

-- what a history says of a session, where it ends with the begin of a frame
abbrev pub seen_by_begin : Setup → List Entry → SessionNo → SeenAtBegin
seen_by_begin setup history s = record {
  closed = is_closed s history;
  taken = taken setup history s;
  view = shown_view setup history s;
  connected = is_connected setup history s;
}

-- What is kept of a session stands for what a history says of it.
-- How many contents its calls made is known while it is open. It lost no end after its last present.
pub record AreSessionLinks (setup : Setup) (history : List Entry) (s : SessionNo) (session_links : SessionLinks) : Type
    0 where
  pub contents : is_closed s history ≡ false → session_links.contents
      ≡ capped (length (contents_made (calls s history)))
  pub losing : is_within session_links.losing (Some (length (presents s history))) ≡ true
  pub begun : session_links.begun ≡ seen_by_begin setup (to_begin history) s
  pub finished : session_links.finished ≡ seen_by_begin setup (to_finished history) s

-- The number stands for the serial of the viewport that the last use of a pair made.
pub record IsSerialKept (p : PairNo) (v : SessionNo) (history : List Entry) (kept : ℕ) : Type 0 where
  pub serial : ℕ
  pub is : kept ≡ capped serial
  pub tells : IsUseSerial p v history serial

-- the properties of a use that frames will have seen last, once the frame begun last has ended
abbrev pub props_pending : Setup → PairNo → ℕ → SessionNo → List Entry → Option ViewportProps
props_pending setup p n s history = props_seen setup p n s (finished history 0)

-- What is kept of a pair stands for what a history says of its ends.
pub record IsPairKept (setup : Setup) (history : List Entry) (p : PairNo) (state : PairState) : Type 0 where
  pub ended : (w : SessionNo) → view_owner setup p ≡ Some w
      → IsStamp (happens setup (ends_view p)) w history state.ended
  pub cleared : (v : SessionNo) → viewport_owner setup p ≡ Some (Session v)
      → IsStamp (happens setup (clears_viewport p)) v history state.cleared
  pub serial : (v : SessionNo) → viewport_owner setup p ≡ Some (Session v) → 0 < length (viewport_uses p history)
      → IsSerialKept p v history state.serial
  pub unused : length (viewport_uses p history) ≡ 0 → state.serial ≡ 0
  pub given : state.given ≡ props_given setup (viewport_uses p history)
  pub seen : (v : SessionNo) → viewport_owner setup p ≡ Some (Session v)
      → state.seen ≡ props_seen setup p (length (viewport_uses p history)) v history
  pub pending : (v : SessionNo) → viewport_owner setup p ≡ Some (Session v)
      → state.pending ≡ props_pending setup p (length (viewport_uses p history)) v history

-- What is kept of all sessions and all pairs stands for what a history says of them.
pub record AreLinked (setup : Setup) (history : List Entry) (linked_sessions : List SessionLinks)
    (pairs : List PairState) : Type
    0 where
  pub sessions : length linked_sessions ≡ setup.sessions
  pub count : length pairs ≡ length setup.pairs
  pub each_session : AllNumbered (λ i. AreSessionLinks setup history (number i)) linked_sessions
  pub each_pair : AllNumbered (λ i. IsPairKept setup history (pair i)) pairs
  pub bound : AllNumbered (λ i. IsBound setup (losings linked_sessions) (pair i)) pairs

-- An entry of a session that was open, which carries these calls. Before it the session had this account, by which it
-- made so many presents and its last view is of that pair, and these viewports.
pub record IsOwnEntry (setup : Setup) (history : List Entry) (entry : Entry) (s : SessionNo) (carries : List Call)
    (account : SessionCounts) (live : List LiveViewport) : Type 0 where
  pub legal : Legal setup (history ▹ entry)
  pub mine : is_session s entry.actor ≡ true
  pub opened : is_closed s history ≡ false
  pub carried : entry.calls ≡ carries
  pub counted : account.presents ≡ length (presents s history)
  pub viewed : account.view ≡ last_view s history
  pub living : live ≡ lives_after [] (calls s history)

-- an entry that uses no viewport end
abbrev pub UsesNone : Entry → Type 0
UsesNone entry = (p : PairNo) → (uses_viewport p entry.kind && is_done entry.reply) ≡ false

-- An entry of no frame that uses no viewport end, and is none of a session that was open.
pub record IsIdle (setup : Setup) (history : List Entry) (entry : Entry) : Type 0 where
  pub legal : Legal setup (history ▹ entry)
  pub no_begin : is_begin entry.kind ≡ false
  pub no_finish : is_finish entry.kind ≡ false
  pub no_use : UsesNone entry
  pub shut : (s : SessionNo) → is_session s entry.actor ≡ true → is_closed s history ≡ true

-- what the begin of a frame sees of a session, by its state and by what is shown
abbrev pub seen_in_state : Setup → Shown → SessionState → SessionNo → SeenAtBegin
seen_in_state setup shown state s = record {
  closed = state.closed;
  taken = taken_in state;
  view = option_and_then (λ t. t.view) (state_of shown s.0);
  connected = is_joined setup shown s.0;
}

-- A frame began: what is kept of the sessions, and what is shown, stand for the history with the begin.
pub record IsBegun (setup : Setup) (history : List Entry) (line time : ℕ) (states : List SessionState)
    (shows : Shown) : Type 0 where
  pub legal : Legal setup (begun history line time)
  pub kept : AllNumbered (λ i. IsKept setup (seen_of setup (begun history line time) (number i))) states
  pub shown : shows ≡ shown_states setup (begun history line time)

-- What the begin of the last finished frame saw of a session, as far as it is told.
-- A session that isn't declared shows nothing.
pub record IsLastSeenAtBegin (setup : Setup) (history : List Entry) (s : SessionNo) (seen_at_begin : SeenAtBegin) : Type
    0 where
  pub closed : seen_at_begin.closed ≡ is_closed s (to_finished history)
  pub took : seen_at_begin.taken ≡ taken setup (to_finished history) s
  pub view : seen_at_begin.view ≡ shown_view setup (to_finished history) s
  pub connected : (p : PairNo) → (is_pair seen_at_begin.view p && seen_at_begin.connected)
      ≡ (is_pair (shown_view setup (to_finished history) s) p && is_connected setup (to_finished history) s)
