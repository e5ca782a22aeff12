-- what a present does to what is kept of its session
use Rattle.std.specs.Prelude.{◌≡◌, ◌<◌, ◌≤◌, Bool, false, List, [], vec_capacity, ℕ, ◌+◌, ◌-◌, true, cond, nat_lt}
use Rattle.std.specs.Prelude.{length, drop, map, Some, None, Option}
use Rattle.std.specs.declared.alloc.Global.{Global}
use Rattle.std.specs.declared.sync.Arc.{Arc}
use Rattle.flat_base.specs.declared.errors.FlatlandError.TheVariants.{BadOperation, NoPresentsRemaining}
use Rattle.flat_base.specs.declared.errors.Reason.{Reason}
use Rattle.flat_base.specs.declared.ids.Actor.{Actor}
use Rattle.flat_base.specs.declared.ids.Actor.TheVariants.{Session}
use Rattle.flat_base.specs.declared.ids.FenceNo.{FenceNo}
use Rattle.flat_scene.specs.declared.calls.PresentArgs.{PresentArgs}
use Rattle.flat_scene.specs.declared.journal.Entry.{Entry}
use Rattle.flat_scene.specs.declared.journal.EntryKind.{EntryKind}
use Rattle.flat_scene.specs.declared.journal.EntryKind.TheVariants.{Present, View}
use Rattle.flat_scene.specs.declared.journal.Reply.{Reply}
use Rattle.flat_scene.specs.declared.journal.Reply.TheVariants.{Done, Presented, Closed}
use Rattle.flat_scene.specs.Draft.{changed_at}
use Rattle.flat_scene.specs.Frames.{up_to_first}
use Rattle.flat_queue.specs.declared.queue.WaitingPresent.{WaitingPresent}
use Rattle.flat_queue.specs.Line.{credits_of, pushed, ready_of}
use Rattle.flat_snap.specs.declared.snapshot.Snapshot.{Snapshot}
use Rattle.flat_states.specs.declared.state.SessionState.{SessionState}
use Rattle.flat_rules.specs.Lasts.{last_from}
use Rattle.flat_rules.specs.Legal.{refused_token}

-- the number of the next present
abbrev pub next_present : SessionState → ℕ
next_present state = state.queue.taken + length state.queue.waiting + 1

-- the reply to a present
abbrev pub present_reply : SessionState → Reply
present_reply state =
    cond (nat_lt 0 (credits_of state.queue)) (Presented (next_present state) (credits_of state.queue - 1))
    (Closed (Some NoPresentsRemaining) None)

-- a present joins those that wait, where the session has a credit
abbrev pub with_waiting : SessionState → Arc Snapshot Global → PresentArgs → SessionState
with_waiting state snap args = cond (nat_lt 0 (credits_of state.queue))
    (record state { queue = pushed state.queue snap args }) state

-- how many events may be posted for it
abbrev pub owed_for : Reply → ℕ
owed_for (Presented number credits) = 2
owed_for reply = 0

-- What is kept of a session before any entry.
pub record IsNew (state : SessionState) : Type 0 where
  pub taken : state.queue.taken ≡ 0
  pub waiting : state.queue.waiting ≡ []
  pub going : state.going.items ≡ []
  pub room : 5 ≤ vec_capacity state.going
  pub took : state.took ≡ 0
  pub closed : state.closed ≡ false
  pub let_go : state.let_go ≡ false
  pub account : state.account ≡ record { presents = 0; polled = 0; view = None }

-- what a frame takes of what is kept: all before the first present that isn't ready, and none after the first
-- unsquashable one
abbrev pub frame_takes : {T : Type 0} → ℕ → (FenceNo → Bool) → List (WaitingPresent T) → List (WaitingPresent T)
frame_takes time is_signalled waiting = up_to_first (λ kept. kept.args.unsquashable)
    (ready_of time is_signalled waiting)

-- That was taken, this was the last of it, and it goes at the frame's end.
pub record TookReady (time : ℕ) (is_signalled : FenceNo → Bool) (result : Option (Arc Snapshot Global))
    (old new : SessionState) : Type 0 where
  pub took : new.took ≡ length (frame_takes time is_signalled old.queue.waiting)
  pub taken : new.queue.taken ≡ old.queue.taken + new.took
  pub waiting : new.queue.waiting ≡ drop new.took old.queue.waiting
  pub going : new.going.items ≡ map (λ kept. kept.args.release) (frame_takes time is_signalled old.queue.waiting)
  pub last : result ≡ last_from None (map (λ kept. kept.item) (frame_takes time is_signalled old.queue.waiting))
  pub room : vec_capacity new.going ≡ vec_capacity old.going
  pub closed : new.closed ≡ old.closed
  pub let_go : new.let_go ≡ old.let_go
  pub account : new.account ≡ old.account

-- All that waited goes at the frame's end.
pub record LetGo (old new : SessionState) : Type 0 where
  pub going : new.going.items ≡ map (λ kept. kept.args.release) old.queue.waiting
  pub waiting : new.queue.waiting ≡ []
  pub taken : new.queue.taken ≡ old.queue.taken + length old.queue.waiting
  pub took : new.took ≡ 0
  pub let_go : new.let_go ≡ true
  pub room : vec_capacity new.going ≡ vec_capacity old.going
  pub closed : new.closed ≡ old.closed
  pub account : new.account ≡ old.account

-- ---- what a reply decides

-- the reply to the use of an end, where its token is held or not
abbrev pub use_reply : Bool → Reply
use_reply true = Done
use_reply false = refused_token

-- what the reply to an entry decides of what is kept of its session:
-- it is closed, made one more present, or has that view
abbrev pub after_reply : EntryKind → Reply → SessionState → SessionState
after_reply (Present args) (Presented number credits) state =
    record state { account = record state.account { presents = number } }
after_reply (View p) Done state = record state { account = record state.account { view = Some p } }
after_reply kind (Closed error reason) state = record state { closed = true }
after_reply kind reply state = state

-- a session's state after one more entry of its own, for which a present has joined already
abbrev pub after_entry : Entry → SessionState → SessionState
after_entry entry = after_reply entry.kind entry.reply

-- all states after an entry of this actor
abbrev pub entered_by : Actor → Entry → List SessionState → List SessionState
entered_by (Session s) entry states = changed_at s.0 (after_entry entry) states
entered_by who entry states = states

abbrev pub entered_in : Entry → List SessionState → List SessionState
entered_in entry = entered_by entry.actor entry

-- the actor is one of so many sessions, or no session
abbrev pub IsPlaced : ℕ → Actor → Type 0
IsPlaced n (Session s) = (0 < s.0) × (s.0 ≤ n)
IsPlaced n who = Unit {0}

-- the reply to a close
abbrev pub reply_to_close : Option Reason → Reply
reply_to_close None = Closed None None
reply_to_close (Some reason) = Closed (Some BadOperation) (Some reason)
