-- The board as contracts see it, what its calls ask for, and what is kept of it.
use Rattle.std.specs.Prelude.{◌≡◌, IsTrue, ℕ, ◌+◌, ◌*◌, ◌<◌, ◌≤◌, ◌^◌, Bool, cond, ◌==◌, nat_lt, List, ◌++◌, length}
use Rattle.std.specs.Prelude.{count_by, sum, slice_index, unwrap_or}
use Rattle.flat_base.specs.declared.ids.Actor.{Actor}
use Rattle.flat_base.specs.declared.ids.FenceNo.{FenceNo}
use Rattle.flat_base.specs.declared.ids.PairNo.{PairNo}
use Rattle.flat_base.specs.declared.ids.SessionNo.{SessionNo}
use Rattle.flat_scene.specs.declared.calls.Call.{Call}
use Rattle.flat_scene.specs.declared.calls.PresentArgs.{PresentArgs}
use Rattle.flat_scene.specs.declared.journal.Entry.{Entry}
use Rattle.flat_scene.specs.declared.journal.EntryKind.{EntryKind}
use Rattle.flat_scene.specs.declared.journal.EntryKind.TheVariants.{Wait}
use Rattle.flat_scene.specs.declared.journal.Reply.{Reply}
use Rattle.flat_scene.specs.declared.script.WaitCondition.{WaitCondition}
use Rattle.flat_scene.specs.declared.setup.Setup.{Setup}
use Rattle.flat_scene.specs.History.{◌▹◌, Published, calls}
use Rattle.flat_scene.specs.Journals.{seat_number}
use Rattle.flat_scene.specs.Heads.{is_within_limits}
use Rattle.flat_scene.specs.Frames.{is_signalled, ratio, ratio_set}
use Rattle.flat_fence.specs.Fences.{has}
use Rattle.flat_states.specs.declared.frame_clock.FrameClock.{FrameClock}
use Rattle.flat_states.specs.declared.ratios.Ratios.{Ratios}
use Rattle.flat_states.specs.declared.state.SessionState.{SessionState}
use Rattle.flat_rules.specs.Ends.{view_uses, to_begin}
use Rattle.flat_states.specs.Flags.{has_end}
use Rattle.flat_states.specs.Kept.{IsKept}
use Rattle.flat_rules.specs.Numbers.{AllNumbered, number}
use Rattle.flat_rules.specs.Legal.{Legal, MayEnter, may_act, may_name, frames, is_frame_open, begin_time}
use Rattle.flat_states.specs.Logs.{Logged}
use Rattle.flat_rules.specs.AllPosts.{posts}
use Rattle.flat_states.specs.Seen.{seen_of}
use Rattle.flat_rules.specs.Watch.{ratio_told}
pub use Rattle.flat_facts.specs.Begins.{entry_of}

-- A board: the setup, the shares, and the history for which it stands.
pub record Machine : Type 0 where
  pub setup : Setup
  pub shares : List ℕ
  pub history : List Entry

-- a board with one entry more
abbrev pub entered : Machine → Actor → ℕ → List Call → EntryKind → Reply → Machine
entered m who line calls kind reply = record m { history = m.history ▹ entry_of who line calls kind reply }

-- what a present of a session publishes, with the calls of its entry
abbrev pub present_of : List Entry → SessionNo → List Call → PresentArgs → Published
present_of history s carries args = record { args = args; made = calls s history ++ carries }

-- ---- what the calls ask for

-- how many entries the actor of a seat made
abbrev pub made : ℕ → List Entry → ℕ
made seat = count_by (λ entry. seat_number entry.actor == seat)

-- an actor has made fewer entries than its share: the display's is the first, and then come those of the sessions
abbrev pub HasShare : Machine → Actor → Type 0
HasShare m who = made (seat_number who) m.history < slice_index m.shares (seat_number who)

-- An actor may make a call that enters this: by the rules, and within its share.
pub record MayCall (m : Machine) (who : Actor) (calls : List Call) (kind : EntryKind) : Type 0 where
  pub may : MayEnter m.setup m.history who calls kind
  pub share : HasShare m who

-- An actor may look at the value of a condition.
pub record MayLook (setup : Setup) (who : Actor) (c : WaitCondition) : Type 0 where
  pub acts : IsTrue (may_act setup (Wait c) who)
  pub named : IsTrue (may_name setup who (Wait c))

-- ---- what is kept

-- the display's pixel ratios: that of now, and those of the begins of the last frame and of the last finished one
abbrev pub ratios_of : Setup → List Entry → Ratios
ratios_of setup history = record {
  latest = ratio setup history;
  begun = ratio setup (to_begin history);
  finished = ratio_told setup history;
}

abbrev pub clock_of : Setup → List Entry → FrameClock
clock_of setup history = record {
  frames = frames history;
  is_open = is_frame_open history;
  time = begin_time history;
  ratios = ratios_of setup history;
}

-- the clock after an entry of no frame: a pixel ratio may have been set
abbrev pub clock_then : EntryKind → FrameClock → FrameClock
clock_then kind clock = record clock {
  ratios =
      record clock.ratios { latest = unwrap_or (ratio_set kind) clock.ratios.latest };
}

-- how many events may still be posted to a session for what it presented
abbrev pub due : SessionState → ℕ
due state = 2 * length state.queue.waiting + cond (nat_lt 0 state.took) 1 0

-- The parts that stand for the history.
pub record Stands (setup : Setup) (history : List Entry) (clock : FrameClock) (fences views : List Bool)
    (sessions : List SessionState) : Type 0 where
  pub legal : Legal setup history
  pub timed : clock ≡ clock_of setup history
  pub fence_count : length fences ≡ length setup.fences
  pub signalled : (f : FenceNo) → has fences f ≡ is_signalled setup history f
  pub view_count : length views ≡ length setup.pairs
  pub viewed : (p : PairNo) → has_end views p ≡ nat_lt 0 (length (view_uses p history))
  pub count : length sessions ≡ setup.sessions
  pub each : AllNumbered (λ i. IsKept setup (seen_of setup history (number i))) sessions

-- Room for all entries that the shares allow, and for all events that may still be posted, so many.
-- No entry has more than two of these.
pub record HasRoom (setup : Setup) (shares : List ℕ) (log : Logged) (owed dues : ℕ) : Type 0 where
  pub limits : IsTrue (is_within_limits setup)
  pub actors : length shares ≡ setup.sessions + 1
  pub total : sum shares < 2 ^ 32
  pub fair : (seat : ℕ) → seat < length shares → made seat log.history ≤ slice_index shares seat
  pub entries : sum shares ≤ length log.history + log.room
  pub posts : log.posts ≡ posts setup log.history
  pub reserved : owed ≤ log.post_room
  pub due : dues ≤ owed
  pub small : length log.posts + owed ≤ 2 * length log.history
