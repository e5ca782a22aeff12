-- An entry of a session that changes only what is kept of that session, and one that only carries calls.
use Rattle.std.proofs.Common.{◌≡◌, ℕ, ◌+◌, ◌-◌, ◌<◌, Bool, true, false, List, length, refl, arith, sym, slice_set, slice_index_or, subst}
use Rattle.std.specs.Prelude.{sum_by, IsTrue, Option, Some, None}
use Rattle.std.proofs.lemmas.List.{length-set}
use Rattle.flat_base.specs.declared.errors.Reason.{Reason}
use Rattle.flat_base.specs.declared.ids.Actor.{Actor}
use Rattle.flat_base.specs.declared.ids.Actor.TheVariants.{Display, Session, Probe}
use Rattle.flat_base.specs.declared.ids.FenceNo.{FenceNo}
use Rattle.flat_base.specs.declared.ids.SessionNo.{SessionNo}
use Rattle.flat_scene.specs.declared.calls.Call.{Call}
use Rattle.flat_scene.specs.declared.journal.Entry.{Entry}
use Rattle.flat_scene.specs.declared.journal.EntryKind.{EntryKind}
use Rattle.flat_scene.specs.declared.journal.EntryKind.TheVariants.{Close, Signal, End, Wait}
use Rattle.flat_scene.specs.declared.journal.Reply.{Reply}
use Rattle.flat_scene.specs.declared.journal.Reply.TheVariants.{Done}
use Rattle.flat_scene.specs.declared.script.WaitCondition.{WaitCondition}
use Rattle.flat_scene.specs.declared.setup.Setup.{Setup}
use Rattle.flat_scene.specs.History.{◌▹◌, closes, is_begin, is_finish, is_session}
use Rattle.flat_scene.specs.Setups.{is_declared}
use Rattle.flat_base.proofs.lemmas.Tests.{and-right}
use Rattle.flat_states.specs.declared.frame_clock.FrameClock.{FrameClock}
use Rattle.flat_states.specs.declared.state.SessionState.{SessionState}
use Rattle.flat_states.specs.Machines.{Machine, MayCall, Stands, HasRoom, clock_then, due}
use Rattle.flat_facts.specs.Begins.{entry_of}
use Rattle.flat_rules.specs.Numbers.{number, AllNumbered}
use Rattle.flat_states.specs.Kept.{IsKept}
use Rattle.flat_rules.specs.Legal.{reply_to, may_act, session_may}
use Rattle.flat_rules.proofs.lemmas.Fences.{signal-declared}
use Rattle.flat_states.specs.Logs.{Logged}
use Rattle.flat_states.specs.Presents.{reply_to_close, IsPlaced}
use Rattle.flat_states.specs.Seen.{seen_of}
use Rattle.flat_states.proofs.lemmas.Changes.{IsPlainOne, seen-other, seen-plain, changed-one, not-session, sum-same}
use Rattle.flat_states.proofs.lemmas.Counts.{kept-session, declared-some, same-number}
use Rattle.flat_facts.proofs.lemmas.Between.{is_viewport}
use Rattle.flat_states.proofs.lemmas.Entered.{Entered, kept-entered}
use Rattle.flat_states.proofs.lemmas.Steps.{Changed}

pub declared-of : (setup : Setup) (kind : EntryKind) (s : SessionNo) → may_act setup kind (Session s) ≡ true → IsTrue (is_declared setup s)
declared-of setup kind s may = and-right (session_may kind) (is_declared setup s) may

pub looks-declared : (setup : Setup) (c : WaitCondition) (s : SessionNo) → may_act setup (Wait c) (Session s) ≡ true → IsTrue (is_declared setup s)
looks-declared setup c s may = declared-of setup (Wait c) s may

-- the sessions after an entry of one of them
pub each-one : (m : Machine) (s : SessionNo) (line : ℕ) (calls : List Call) (kind : EntryKind) (reply : Reply) → MayCall m (Session s) calls kind
    → is_begin kind ≡ false → is_finish kind ≡ false
    → (clock : FrameClock) (fences views : List Bool) (sessions : List SessionState) (state new : SessionState)
    → state ≡ slice_index_or sessions (s.0 - 1) state
    → Stands m.setup m.history clock fences views sessions
    → (IsKept m.setup (seen_of m.setup m.history s) state → IsKept m.setup (seen_of m.setup (m.history ▹ entry_of (Session s) line calls kind reply) s) new)
    → AllNumbered (λ i. IsKept m.setup (seen_of m.setup (m.history ▹ entry_of (Session s) line calls kind reply) (number i))) (slice_set sessions (s.0 - 1) new)
each-one m s line calls kind reply call no_begin no_finish clock fences views sessions state new is old step =
    let e : Entry = entry_of (Session s) line calls kind reply in
    let declared : IsTrue (is_declared m.setup s) = declared-of m.setup kind s call.may.acts in
    let some : 0 < s.0 = (declared-some s.0 m.setup.sessions declared).0 in
    let here : IsKept m.setup (seen_of m.setup (m.history ▹ e) (number (s.0 - 1))) new =
    let P : SessionNo → Type 0 = λ t. IsKept m.setup (seen_of m.setup (m.history ▹ e) t) new in
    subst P (sym (same-number s some)) (step (kept-session m.setup m.history clock fences views sessions s state old declared is)) in
    changed-one (λ i. IsKept m.setup (seen_of m.setup m.history (number i))) (λ i. IsKept m.setup (seen_of m.setup (m.history ▹ e) (number i))) sessions
    (s.0 - 1) new
    (λ j x other kept. rw (seen-other m.setup m.history e (number j) no_begin no_finish (not-session s j some other)) kept) here old.each

both-same : {a b c d : ℕ} → a ≡ b → c ≡ d → a + c ≡ b + d
both-same p q = omega (arith, p, q)

-- all that is kept, where the session owes as before
pub kept-one : (m : Machine) (s : SessionNo) (line : ℕ) (calls : List Call) (kind : EntryKind) (reply : Reply) → MayCall m (Session s) calls kind
    → reply ≡ reply_to m.setup m.history (Session s) calls kind
    → is_begin kind ≡ false → is_finish kind ≡ false → is_viewport kind ≡ false
    → (clock : FrameClock) (fences fences_now views views_now : List Bool) (sessions : List SessionState) (log then : Logged) (owed : ℕ)
    {due_back due_back_now : ℕ}
    (state new : SessionState)
    → state ≡ slice_index_or sessions (s.0 - 1) state → log.history ≡ m.history
    → Stands m.setup log.history clock fences views sessions → HasRoom m.setup m.shares log owed (sum_by due sessions + due_back)
    → Changed m (entry_of (Session s) line calls kind reply) fences fences_now views views_now
    → (IsKept m.setup (seen_of m.setup m.history s) state → IsKept m.setup (seen_of m.setup (m.history ▹ entry_of (Session s) line calls kind reply) s) new)
    → due new ≡ due state → due_back_now ≡ due_back → Entered log then (entry_of (Session s) line calls kind reply)
    → Stands m.setup then.history (clock_then kind clock) fences_now views_now (slice_set sessions (s.0 - 1) new)
    × HasRoom m.setup m.shares then owed (sum_by due (slice_set sessions (s.0 - 1) new) + due_back_now)
kept-one m s line calls kind reply call replied no_begin no_finish no_viewport clock fences fences_now views views_now sessions log then
    owed {due_back} {due_back_now} state new is same stands room changed step owes comes entered =
    let old : Stands m.setup m.history clock fences views sessions = rw (← same) stands in
    let here = declared-some s.0 m.setup.sessions (declared-of m.setup kind s call.may.acts) in
    let count : length sessions ≡ m.setup.sessions = old.count in
    let below : s.0 - 1 < length sessions = omega (arith, here.0, here.1, count) in
    kept-entered m (Session s) line calls kind reply call replied no_begin no_finish no_viewport clock fences fences_now views views_now sessions
    (slice_set sessions (s.0 - 1) new) log then owed (sum_by due sessions + due_back) (sum_by due (slice_set sessions (s.0 - 1) new) + due_back_now) same
    stands room changed
    (length-set sessions (s.0 - 1) new) (each-one m s line calls kind reply call no_begin no_finish clock fences views sessions state new is old step)
    (both-same (sum-same due sessions (s.0 - 1) new state below is owes) comes) entered

-- ---- calls alone

-- an actor that may act has a place
pub placed-of : (setup : Setup) (kind : EntryKind) (who : Actor) (n : ℕ) → n ≡ setup.sessions → may_act setup kind who ≡ true → IsPlaced n who
placed-of setup kind Display n same may = tt
placed-of setup kind (Probe p) n same may = tt
placed-of setup kind (Session s) n same may = rw same (declared-some s.0 setup.sessions (declared-of setup kind s may))

seen-quiet : (setup : Setup) (h : List Entry) (e : Entry) (s : SessionNo) → IsPlainOne e → closes e.reply ≡ false → (b : Bool) → is_session s e.actor ≡ b
    → seen_of setup (h ▹ e) s ≡ seen_of setup h s
seen-quiet setup h e s quiet stays true mine = seen-plain setup h e s quiet stays mine
seen-quiet setup h e s quiet stays false other = seen-other setup h e s quiet.no_begin quiet.no_finish other

-- all that is kept, after an entry that only carries calls: the sessions are as they were
pub kept-quiet : (m : Machine) (who : Actor) (line : ℕ) (calls : List Call) (kind : EntryKind) (reply : Reply) → MayCall m who calls kind
    → reply ≡ reply_to m.setup m.history who calls kind
    → IsPlainOne (entry_of who line calls kind reply) → closes reply ≡ false → is_viewport kind ≡ false
    → (clock : FrameClock) (fences fences_now views views_now : List Bool) (sessions after : List SessionState) (log then : Logged) (owed : ℕ)
    {due_back due_back_now : ℕ} → log.history ≡ m.history
    → Stands m.setup log.history clock fences views sessions → HasRoom m.setup m.shares log owed (sum_by due sessions + due_back)
    → Changed m (entry_of who line calls kind reply) fences fences_now views views_now → after ≡ sessions → due_back_now ≡ due_back
    → Entered log then (entry_of who line calls kind reply)
    → Stands m.setup then.history (clock_then kind clock) fences_now views_now after × HasRoom m.setup m.shares then owed (sum_by due after + due_back_now)
kept-quiet m who line calls kind reply call replied quiet stays no_viewport clock fences fences_now views views_now sessions after log then
    owed {due_back} {due_back_now} same stands room changed noted comes entered =
    let e : Entry = entry_of who line calls kind reply in
    let old : Stands m.setup m.history clock fences views sessions = rw (← same) stands in
    let each : AllNumbered (λ i. IsKept m.setup (seen_of m.setup (m.history ▹ e) (number i))) sessions =
    λ i d below. rw (seen-quiet m.setup m.history e (number i) quiet stays (is_session (number i) who) refl) (old.each i d below) in
    rw noted
    (kept-entered m who line calls kind reply call replied quiet.no_begin quiet.no_finish no_viewport clock fences fences_now views views_now sessions sessions
    log then owed (sum_by due sessions + due_back) (sum_by due sessions + due_back_now) same stands room changed
    refl each (both-same refl comes) entered)

-- a fence that may be signalled is declared
pub signal-below : (m : Machine) (who : Actor) (calls : List Call) (f : FenceNo) → MayCall m who calls (Signal f) → {n : ℕ} → n ≡ length m.setup.fences
    → f.0 < n
signal-below m who calls f call same = rw same (signal-declared m.setup m.history who calls f call.may)

pub plain-signal : (who : Actor) (line : ℕ) (calls : List Call) (f : FenceNo) → IsPlainOne (entry_of who line calls (Signal f) Done)
plain-signal who line calls f = record { no_begin = refl; no_finish = refl; no_poll = refl; no_view = refl; none = λ made. refl }

pub plain-end : (who : Actor) (line : ℕ) (calls : List Call) (refused : ℕ) → IsPlainOne (entry_of who line calls (End refused) Done)
plain-end who line calls refused = record { no_begin = refl; no_finish = refl; no_poll = refl; no_view = refl; none = λ made. refl }

pub plain-wait : (who : Actor) (line : ℕ) (calls : List Call) (c : WaitCondition) (reply : Reply) → IsPlainOne (entry_of who line calls (Wait c) reply)
plain-wait who line calls c reply = record { no_begin = refl; no_finish = refl; no_poll = refl; no_view = refl; none = λ made. refl }

pub plain-close : (who : Actor) (line : ℕ) (calls : List Call) (why : Option Reason) (reply : Reply) → IsPlainOne (entry_of who line calls (Close why) reply)
plain-close who line calls why reply = record { no_begin = refl; no_finish = refl; no_poll = refl; no_view = refl; none = λ made. refl }

pub reply-close : (setup : Setup) (h : List Entry) (who : Actor) (calls : List Call) (why : Option Reason)
    → reply_to setup h who calls (Close why) ≡ reply_to_close why
reply-close setup h who calls None = refl
reply-close setup h who calls (Some reason) = refl

pub closes-close : (why : Option Reason) → closes (reply_to_close why) ≡ true
closes-close None = refl
closes-close (Some reason) = refl
