-- What is kept of the viewports of all sessions, and what entries do to it and to links.
use Rattle.std.specs.Prelude.{◌≡◌, ℕ, List, length, Bool, false, [], ◌+◌, ◌-◌, true, map, slice_index_or, slice_set}
use Rattle.std.specs.Prelude.{None}
use Rattle.flat_scene.specs.declared.journal.Entry.{Entry}
use Rattle.flat_scene.specs.declared.setup.Setup.{Setup}
use Rattle.flat_links.specs.declared.viewports.Viewports.{Viewports}
use Rattle.flat_rules.specs.Numbers.{AllNumbered, number}
use Rattle.flat_links.specs.Viewports.{AreViewports, marked, with_out}
use Rattle.flat_base.specs.declared.ids.Actor.{Actor}
use Rattle.flat_base.specs.declared.ids.Actor.TheVariants.{Session}
use Rattle.flat_base.specs.declared.ids.PairNo.{PairNo}
use Rattle.flat_base.specs.declared.ids.SessionNo.{SessionNo}
use Rattle.flat_scene.specs.declared.calls.Call.{Call}
use Rattle.flat_scene.specs.declared.calls.ViewportProps.{ViewportProps}
use Rattle.flat_scene.specs.declared.journal.EntryKind.TheVariants.{Viewport}
use Rattle.flat_scene.specs.History.{◌▹◌, calls, closes, is_begin, is_closed, is_finish, presents}
use Rattle.flat_states.specs.declared.state.SessionState.{SessionState}
use Rattle.flat_links.specs.declared.link_table.LinkTable.{LinkTable}
use Rattle.flat_links.specs.SessionLinks.{AreLinked, UsesNone}
use Rattle.flat_rules.specs.Legal.{Legal, number_if}
use Rattle.flat_facts.specs.Lives.{lives_after}
use Rattle.flat_facts.specs.Views.{last_view}
use Rattle.flat_states.specs.Presents.{use_reply}

-- how many events may be posted to a session for its tokens that are out
abbrev pub due_back : Viewports → ℕ
due_back ends = length ends.out.items

-- What is kept of the sessions' viewports stands for them.
pub record AreEnds (setup : Setup) (history : List Entry) (ends : List Viewports) : Type 0 where
  pub count : length ends ≡ setup.sessions
  pub each : AllNumbered (λ i one. AreViewports setup history (number i) one.live.items one.out.items) ends

-- Nothing is kept of a session's viewports.
pub record HasNone (ends : Viewports) : Type 0 where
  pub live : ends.live.items ≡ []
  pub out : ends.out.items ≡ []

-- What is kept of a session's viewports after calls that make none, where it had made so many presents.
pub record IsNoted (calls : List Call) (presents : ℕ) (old new : Viewports) : Type 0 where
  pub live : new.live.items ≡ lives_after old.live.items calls
  pub out : new.out.items ≡ map (marked old.live.items calls presents) old.out.items

-- What is kept of a session's viewports after an entry that uses no viewport end, before which it had made so many
-- presents. One that closes the session leaves it as it was, since nothing of it is told any more.
pub record IsHeard (entry : Entry) (presents : ℕ) (old new : Viewports) : Type 0 where
  pub noted : closes entry.reply ≡ false → IsNoted entry.calls presents old new
  pub shut : closes entry.reply ≡ true → new ≡ old

-- What the use of an end did to what is kept of its session's viewports, where the token was held or not.
pub record IsUsed (p : PairNo) (calls : List Call) (presents : ℕ) (is_held : Bool) (old new : Viewports) : Type 0 where
  pub live : is_held ≡ true → new.live.items ≡ lives_after old.live.items calls
  pub out : is_held ≡ true → new.out.items
      ≡ with_out (record { pair = p; released = None }) (map (marked old.live.items calls presents) old.out.items)
  pub count : length new.out.items ≡ length old.out.items + number_if is_held

-- An entry of a session, before which this was kept of it.
pub record IsOwn (setup : Setup) (history : List Entry) (entry : Entry) (s : SessionNo) (carries : List Call)
    (state : SessionState) (ends : Viewports) : Type 0 where
  pub legal : Legal setup (history ▹ entry)
  pub actor : entry.actor ≡ Session s
  pub carried : entry.calls ≡ carries
  pub closed : state.closed ≡ is_closed s history
  pub counted : state.account.presents ≡ length (presents s history)
  pub viewed : state.account.view ≡ last_view s history
  pub living : is_closed s history ≡ false → ends.live.items ≡ lives_after [] (calls s history)
  pub no_begin : is_begin entry.kind ≡ false
  pub no_finish : is_finish entry.kind ≡ false

-- What is kept of pairs after an entry that uses no viewport end stands for the history with it.
abbrev pub LinksNoted : SessionNo → List Call → SessionState → Viewports → LinkTable → LinkTable → Type 0
LinksNoted s carries state ends old new =
    (setup : Setup) (history : List Entry) (entry : Entry) → IsOwn setup history entry s carries state ends
    → UsesNone entry
    → AreLinked setup history old.linked_sessions.items old.pairs.items
    → AreLinked setup (history ▹ entry) new.linked_sessions.items new.pairs.items

-- and after one that uses the end of a pair, or is refused it
abbrev pub LinksUsed : SessionNo → List Call → PairNo → ViewportProps → Bool → SessionState → Viewports → LinkTable
    → LinkTable
    → Type 0
LinksUsed s carries p props is_held state ends old new =
    (setup : Setup) (history : List Entry) (entry : Entry) → IsOwn setup history entry s carries state ends
    → is_closed s history ≡ false → entry.kind ≡ Viewport p props → entry.reply ≡ use_reply is_held
    → AreLinked setup history old.linked_sessions.items old.pairs.items
    → AreLinked setup (history ▹ entry) new.linked_sessions.items new.pairs.items

-- The same of all sessions' viewports, where this one made the entry.
pub record EnteredAt (s : SessionNo) (entry : Entry) (states : List SessionState) (old new : List Viewports)
    (tied now : LinkTable) : Type 0 where
  pub state : SessionState
  pub before : Viewports
  pub after : Viewports
  pub of_state : state ≡ slice_index_or states (s.0 - 1) state
  pub of_before : before ≡ slice_index_or old (s.0 - 1) before
  pub heard : IsHeard entry state.account.presents before after
  pub new_is : new ≡ slice_set old (s.0 - 1) after
  pub links : LinksNoted s entry.calls state before tied now

-- and whoever made it
abbrev pub EndsEnteredBy : Actor → Entry → List SessionState → List Viewports → List Viewports → LinkTable → LinkTable
    → Type 0
EndsEnteredBy (Session s) entry states old new tied now = EnteredAt s entry states old new tied now
EndsEnteredBy who entry states old new tied now = (new ≡ old) × (now ≡ tied)

abbrev pub EndsEntered : Entry → List SessionState → List Viewports → List Viewports → LinkTable → LinkTable → Type 0
EndsEntered entry = EndsEnteredBy entry.actor entry
