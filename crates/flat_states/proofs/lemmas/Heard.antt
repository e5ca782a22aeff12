-- What the reply to an entry decides of what is kept of its session, kind by kind.
use Rattle.std.proofs.Common.{◌≡◌, ℕ, zero, suc, ◌-◌, ◌<◌, ◌≤◌, Bool, true, false, List, [], ◌∷◌, length, refl, arith, ◌∙◌, ap, sym, slice_set, slice_index_or}
use Rattle.std.specs.Prelude.{Option, None, Some, cond, ◌==◌, nat_lt, nat_le}
use Rattle.std.specs.declared.alloc.Global.{Global}
use Rattle.std.specs.declared.sync.Arc.{Arc}
use Rattle.std.proofs.lemmas.List.{get_or-set_same, length-set}
use Rattle.flat_base.specs.declared.errors.Reason.{Reason}
use Rattle.flat_base.specs.declared.ids.Actor.{Actor}
use Rattle.flat_base.specs.declared.ids.Actor.TheVariants.{Display, Session, Probe}
use Rattle.flat_base.specs.declared.ids.PairNo.{PairNo}
use Rattle.flat_base.specs.declared.ids.SessionNo.{SessionNo}
use Rattle.flat_scene.specs.declared.calls.Call.{Call}
use Rattle.flat_scene.specs.declared.calls.PresentArgs.{PresentArgs}
use Rattle.flat_scene.specs.declared.calls.ViewportProps.{ViewportProps}
use Rattle.flat_scene.specs.declared.journal.Entry.{Entry}
use Rattle.flat_scene.specs.declared.journal.EntryKind.{EntryKind}
use Rattle.flat_scene.specs.declared.journal.EntryKind.TheVariants.{Close, Get, Present, View, Viewport, Wait}
use Rattle.flat_scene.specs.declared.journal.Reply.{Reply}
use Rattle.flat_scene.specs.declared.journal.Reply.TheVariants.{Closed, Done, Held, Met, Now, Polled, Presented, Unmet}
use Rattle.flat_scene.specs.declared.calls.Watch.{Watch}
use Rattle.flat_scene.specs.declared.script.WaitCondition.{WaitCondition}
use Rattle.flat_scene.specs.Draft.{changed_at}
use Rattle.flat_scene.specs.History.{closes}
use Rattle.flat_queue.specs.Line.{credits_of, pushed}
use Rattle.flat_snap.specs.declared.snapshot.Snapshot.{Snapshot}
use Rattle.flat_rules.specs.Legal.{waited}
use Rattle.flat_facts.specs.Begins.{entry_of}
use Rattle.flat_states.specs.declared.state.SessionState.{SessionState}
use Rattle.flat_states.specs.Presents.{IsPlaced, after_entry, after_reply, entered_by, entered_in, next_present, present_reply, reply_to_close, use_reply}
use Rattle.flat_states.specs.Presents.{with_waiting}
use Rattle.flat_states.proofs.lemmas.Changes.{changed-set}

-- a session's state after a view, where its end was free or not, and after the use of a viewport end
abbrev pub after_view : PairNo → Bool → SessionState → SessionState
after_view p true state = record state { account = record state.account { view = Some p } }
after_view p false state = record state { closed = true }

abbrev pub after_viewport : Bool → SessionState → SessionState
after_viewport true state = state
after_viewport false state = record state { closed = true }

-- the same by the reply to a get
abbrev pub after_get : Reply → SessionState → SessionState
after_get reply state = cond (closes reply) (record state { closed = true }) state

-- a present joins those that wait, or closes the session where it has no credit
abbrev pub with_present : SessionState → Arc Snapshot Global → PresentArgs → SessionState
with_present state snap args = record state { queue = pushed state.queue snap args; account = record state.account { presents = next_present state } }

abbrev pub after_present : SessionState → Arc Snapshot Global → PresentArgs → SessionState
after_present state snap args = cond (nat_lt 0 (credits_of state.queue)) (with_present state snap args) (record state { closed = true })

pub heard-view : (p : PairNo) (is_held : Bool) (state : SessionState) → after_reply (View p) (use_reply is_held) state ≡ after_view p is_held state
heard-view p true state = refl
heard-view p false state = refl

pub heard-viewport : (p : PairNo) (props : ViewportProps) (is_held : Bool) (state : SessionState)
    → after_reply (Viewport p props) (use_reply is_held) state ≡ after_viewport is_held state
heard-viewport p props true state = refl
heard-viewport p props false state = refl

pub heard-get : (get : Watch) (reply : Reply) (state : SessionState) → after_reply (Get get) reply state ≡ after_get reply state
heard-get get Done state = refl
heard-get get (Presented number credits) state = refl
heard-get get Held state = refl
heard-get get (Now value) state = refl
heard-get get (Met value) state = refl
heard-get get (Unmet value) state = refl
heard-get get (Polled count) state = refl
heard-get get (Closed error reason) state = refl

pub heard-close : (why : Option Reason) (state : SessionState)
    → after_reply (Close why) (reply_to_close why) state ≡ (let shut : SessionState = record state { closed = true } in shut)
heard-close None state = refl
heard-close (Some reason) state = refl

pub heard-wait : (c : WaitCondition) (wanted value : ℕ) (state : SessionState) → after_reply (Wait c) (waited wanted value) state ≡ state
heard-wait c wanted value state = by_test (nat_le wanted value)
  where
    by_test : (b : Bool) → after_reply (Wait c) (cond b (Met value) (Unmet value)) state ≡ state
    by_test true = refl
    by_test false = refl

pub heard-present : (args copy : PresentArgs) (snap : Arc Snapshot Global) (state : SessionState)
    → after_reply (Present args) (present_reply state) (with_waiting state snap copy) ≡ after_present state snap copy
heard-present args copy snap state = by_test (nat_lt 0 (credits_of state.queue)) refl
  where
    by_test : (b : Bool) → nat_lt 0 (credits_of state.queue) ≡ b
        → after_reply (Present args) (present_reply state) (with_waiting state snap copy) ≡ after_present state snap copy
    by_test true is = rw is refl
    by_test false is = rw is refl

-- ---- all states

-- what an entry of a session makes of them
pub entered-of : (e : Entry) (s : SessionNo) → e.actor ≡ Session s → (sessions : List SessionState) (state : SessionState)
    → IsPlaced (length sessions) (Session s) → state ≡ slice_index_or sessions (s.0 - 1) state
    → slice_set sessions (s.0 - 1) (after_entry e state) ≡ entered_in e sessions
entered-of e s mine sessions state placed is =
    let below : s.0 - 1 < length sessions = omega (arith, placed.0, placed.1) in
    let place : suc (s.0 - 1) ≡ s.0 = omega (arith, placed.0) in
    ap (λ (x : SessionState). slice_set sessions (s.0 - 1) (after_entry e x)) is ∙ sym (changed-set (after_entry e) sessions (s.0 - 1) state below)
    ∙ ap (λ (n : ℕ). changed_at n (after_entry e) sessions) place ∙ sym (ap (λ (who : Actor). entered_by who e sessions) mine)

pub entered-set : (s : SessionNo) (line : ℕ) (calls : List Call) (kind : EntryKind) (reply : Reply) (sessions : List SessionState) (state : SessionState)
    → IsPlaced (length sessions) (Session s) → state ≡ slice_index_or sessions (s.0 - 1) state
    → entered_in (entry_of (Session s) line calls kind reply) sessions ≡ slice_set sessions (s.0 - 1) (after_reply kind reply state)
entered-set s line calls kind reply sessions state placed is = sym (entered-of (entry_of (Session s) line calls kind reply) s refl sessions state placed is)

set-twice : {A : Type 0} (xs : List A) (i : ℕ) (x y : A) → slice_set (slice_set xs i x) i y ≡ slice_set xs i y
set-twice [] i x y = refl
set-twice (z ∷ xs) zero x y = refl
set-twice (z ∷ xs) (suc i) x y = ap (λ ys. z ∷ ys) (set-twice xs i x y)

-- where something else of that session was changed before
pub entered-changed : (s : SessionNo) (line : ℕ) (calls : List Call) (kind : EntryKind) (reply : Reply) (sessions : List SessionState) (new : SessionState)
    → IsPlaced (length sessions) (Session s)
    → entered_in (entry_of (Session s) line calls kind reply) (slice_set sessions (s.0 - 1) new) ≡ slice_set sessions (s.0 - 1) (after_reply kind reply new)
entered-changed s line calls kind reply sessions new placed =
    let some : 0 < s.0 = placed.0 in
    let few : s.0 ≤ length sessions = placed.1 in
    let below : s.0 - 1 < length sessions = omega (arith, some, few) in
    let count : length (slice_set sessions (s.0 - 1) new) ≡ length sessions = length-set sessions (s.0 - 1) new in
    let there : s.0 ≤ length (slice_set sessions (s.0 - 1) new) = omega (arith, few, count) in
    entered-set s line calls kind reply (slice_set sessions (s.0 - 1) new) new (some, there) (sym (get_or-set_same sessions (s.0 - 1) new new below))
    ∙ set-twice sessions (s.0 - 1) new (after_reply kind reply new)

-- what waits more changes nothing else
pub waiting-alone : (state : SessionState) (snap : Arc Snapshot Global) (args : PresentArgs)
    → ((with_waiting state snap args).closed ≡ state.closed) × ((with_waiting state snap args).account ≡ state.account)
waiting-alone state snap args = by_test (nat_lt 0 (credits_of state.queue)) refl
  where
    by_test : (b : Bool) → nat_lt 0 (credits_of state.queue) ≡ b
        → ((with_waiting state snap args).closed ≡ state.closed) × ((with_waiting state snap args).account ≡ state.account)
    by_test true is = rw is (refl, refl)
    by_test false is = rw is (refl, refl)

changed-none : {A : Type 0} (f : A → A) → ((x : A) → f x ≡ x) → (n : ℕ) (xs : List A) → changed_at n f xs ≡ xs
changed-none f same n [] = refl
changed-none f same n (x ∷ xs) = rw (same x, changed-none f same (n - 1) xs) (by_test (n == 1))
  where
    by_test : (b : Bool) → cond b (x ∷ xs) (x ∷ xs) ≡ x ∷ xs
    by_test true = refl
    by_test false = refl

-- one whose reply decides nothing
pub entered-none : (who : Actor) (line : ℕ) (calls : List Call) (kind : EntryKind) (reply : Reply) (sessions : List SessionState)
    → ((state : SessionState) → after_reply kind reply state ≡ state)
    → entered_in (entry_of who line calls kind reply) sessions ≡ sessions
entered-none Display line calls kind reply sessions same = refl
entered-none (Probe p) line calls kind reply sessions same = refl
entered-none (Session s) line calls kind reply sessions same = changed-none (after_reply kind reply) same s.0 sessions
