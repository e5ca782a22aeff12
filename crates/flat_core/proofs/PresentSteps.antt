-- A present, accepted or not.
use Rattle.std.proofs.Common.{◌≡◌, ℕ, zero, suc, ◌+◌, ◌-◌, ◌*◌, ◌<◌, ◌≤◌, ◌^◌, Bool, true, false, List, [], ◌∷◌, length, refl, arith, sym, ◌∙◌, ap, slice_set}
use Rattle.std.proofs.Common.{slice_index_or, length-append, Some, None}
use Rattle.std.specs.Prelude.{cond, ◌==◌, nat_lt, IsTrue, slice_get, option_map, unwrap_or, sum_by}
use Rattle.std.specs.List.{list_any, list_all}
use Rattle.std.specs.Arc.{arc_value}
use Rattle.std.specs.declared.sync.Arc.{Arc}
use Rattle.std.specs.declared.alloc.Global.{Global}
use Rattle.std.proofs.lemmas.Bool.Decides.{nat_tests}
use Rattle.std.proofs.lemmas.List.{length-set}
use Rattle.std.proofs.lemmas.List.Sums.{sum_by-set}
use Rattle.std.proofs.lemmas.List.Elements.{All-cons}
use Rattle.flat_base.specs.declared.errors.FlatlandError.TheVariants.{NoPresentsRemaining}
use Rattle.flat_base.specs.declared.ids.Actor.TheVariants.{Session}
use Rattle.flat_base.specs.declared.ids.FenceNo.{FenceNo}
use Rattle.flat_base.specs.declared.ids.SessionNo.{SessionNo}
use Rattle.flat_scene.specs.declared.calls.Call.{Call}
use Rattle.flat_scene.specs.declared.calls.PresentArgs.{PresentArgs}
use Rattle.flat_scene.specs.declared.journal.Entry.{Entry}
use Rattle.flat_scene.specs.declared.journal.EntryKind.TheVariants.{Present}
use Rattle.flat_scene.specs.declared.journal.Reply.{Reply}
use Rattle.flat_scene.specs.declared.journal.Reply.TheVariants.{Presented, Closed}
use Rattle.flat_scene.specs.declared.setup.Setup.{Setup}
use Rattle.flat_scene.specs.History.{◌▹◌, is_closed, is_session}
use Rattle.flat_scene.specs.Frames.{waiting}
use Rattle.flat_scene.specs.Setups.{is_declared}
use Rattle.flat_base.proofs.lemmas.Tests.{and-left, and-right}
use Rattle.flat_queue.specs.declared.queue.WaitingPresent.{WaitingPresent}
use Rattle.flat_queue.specs.Line.{credits_of}
use Rattle.flat_snap.specs.declared.snapshot.Snapshot.{Snapshot}
use Rattle.flat_states.specs.declared.frame_clock.FrameClock.{FrameClock}
use Rattle.flat_states.specs.declared.state.SessionState.{SessionState}
use Rattle.flat_states.specs.Machines.{Machine, MayCall, Stands, HasRoom, present_of, due}
use Rattle.flat_facts.specs.Begins.{entry_of}
use Rattle.flat_rules.specs.Numbers.{number, AllNumbered}
use Rattle.flat_states.specs.Kept.{IsKept, Below}
use Rattle.flat_rules.specs.Legal.{goes_on, owns_fence, owns_in_kind, owns_in_call, reply_to}
use Rattle.flat_states.specs.Logs.{Logged}
use Rattle.flat_rules.specs.AllPosts.{posts}
use Rattle.flat_states.specs.Presents.{next_present, present_reply, owed_for}
use Rattle.flat_states.proofs.lemmas.Heard.{with_present, after_present}
use Rattle.flat_states.specs.Seen.{Seen, seen_of}
use Rattle.flat_rules.specs.Shown.{tree_of}
use Rattle.flat_states.proofs.lemmas.Changes.{IsPlainOne, is-session, seen-closed, kept-closed}
use Rattle.flat_states.proofs.lemmas.Counts.{kept-waiting, kept-session, declared-some}
use Rattle.flat_facts.proofs.lemmas.Between.{posted-between}
use Rattle.flat_states.proofs.lemmas.Ones.{declared-of, each-one}
use Rattle.flat_core.proofs.Presented.{seen-presented, kept-presented, presents-few}
use Rattle.flat_states.proofs.lemmas.Steps.{unchanged, stands-entered, few-history, legal-entered, room-entered, posts-none}
use Rattle.std.proofs.lemmas.Bool.{not-true}

-- a session that makes a present is open
opened-session : (h : List Entry) (s : SessionNo) (args : PresentArgs) → goes_on h (Present args) (Session s) ≡ true → is_closed s h ≡ false
opened-session h s args may = not-true (is_closed s h) (and-right _ _ may)

kept-open : (setup : Setup) (seen : Seen) (state : SessionState) → IsKept setup seen state → seen.closed ≡ false → (gone : Bool) → state.let_go ≡ gone
    → state.let_go ≡ false
kept-open setup seen state kept opened true gone = let closed : true ≡ false = sym (kept.let_go gone).0 ∙ opened in cc
kept-open setup seen state kept opened false gone = gone

pub stays : (setup : Setup) (seen : Seen) (state : SessionState) → IsKept setup seen state → seen.closed ≡ false → state.let_go ≡ false
stays setup seen state kept opened = kept-open setup seen state kept opened state.let_go refl

-- the reply
pub present-replied : (setup : Setup) (h : List Entry) (s : SessionNo) (carries : List Call) (args : PresentArgs) (state : SessionState)
    → IsKept setup (seen_of setup h s) state → is_closed s h ≡ false
    → present_reply state ≡ reply_to setup h (Session s) carries (Present args)
present-replied setup h s carries args state kept opened =
    let here : state.let_go ≡ false = stays setup (seen_of setup h s) state kept opened in
    let waits : length state.queue.waiting ≡ length (waiting setup h s) = kept-waiting setup (seen_of setup h s) state kept false here in
    rw (kept.count, kept.taken here, waits) refl

few-than : (none : Bool) (n : ℕ) → nat_lt 0 (cond none 1 5 - n) ≡ true → n < 5
few-than true n h = grind (arith, nat_tests)
few-than false n h = grind (arith, nat_tests)

some-within : {A : Type 0} (f : A → Bool) (xs : List A) (n : ℕ) → unwrap_or (option_map f (slice_get xs n)) false ≡ true → n < length xs
some-within f [] n owned = absurd (cc)
some-within f (x ∷ xs) zero owned = omega arith
some-within f (x ∷ xs) (suc n) owned = let more : n < length xs = some-within f xs n owned in omega (arith, more)

-- what a session owns is declared
pub owned-below : (setup : Setup) (s : SessionNo) (fences : List FenceNo) → list_all (owns_fence setup s) fences ≡ true → Below (length setup.fences) fences
owned-below setup s [] owned = λ k d below. absurd (omega (arith, below))
owned-below setup s (f ∷ fences) owned =
    All-cons (λ f. f.0 < length setup.fences) f fences
    (some-within (λ fence. list_any (is_session s) fence.owners) setup.fences f.0
    (and-left (owns_fence setup s f) (list_all (owns_fence setup s) fences) owned))
    (owned-below setup s fences (and-right (owns_fence setup s f) (list_all (owns_fence setup s) fences) owned))

plain-refused : (s : SessionNo) (line : ℕ) (carries : List Call) (args : PresentArgs)
    → IsPlainOne (entry_of (Session s) line carries (Present args) (Closed (Some NoPresentsRemaining) None))
plain-refused s line carries args = record { no_begin = refl; no_finish = refl; no_poll = refl; no_view = refl; none = λ made. refl }

pub present-kept : (setup : Setup) (h : List Entry) (s : SessionNo) (line : ℕ) (carries : List Call) (args : PresentArgs) (snap : Arc Snapshot Global)
    (state : SessionState) (k : ℕ) (accepted : Bool)
    → nat_lt 0 (credits_of state.queue) ≡ accepted → is_closed s h ≡ false → owns_in_kind setup s (Present args) ≡ true
    → Some (arc_value snap) ≡ tree_of setup (present_of h s carries args)
    → IsKept setup (seen_of setup h s) state
    → IsKept setup (seen_of setup (h ▹ entry_of (Session s) line carries (Present args)
    (cond accepted (Presented (next_present state) k) (Closed (Some NoPresentsRemaining) None))) s)
    (cond accepted (with_present state snap args) (record state { closed = true }))
present-kept setup h s line carries args snap state k true has opened owned tree kept =
    rw (seen-presented setup h s line carries args (next_present state) k)
    (kept-presented setup (seen_of setup h s) state snap args (present_of h s carries args) kept (stays setup (seen_of setup h s) state kept opened)
    (few-than (state.queue.taken == 0) (length state.queue.waiting) has) refl tree
    (owned-below setup s args.acquire (and-left (list_all (owns_fence setup s) args.acquire) (list_all (owns_fence setup s) args.release) owned))
    (owned-below setup s args.release (and-right (list_all (owns_fence setup s) args.acquire) (list_all (owns_fence setup s) args.release) owned)))
present-kept setup h s line carries args snap state k false has opened owned tree kept =
    rw (seen-closed setup h (entry_of (Session s) line carries (Present args) (Closed (Some NoPresentsRemaining) None)) s (plain-refused s line carries args)
    refl (is-session s))
    (kept-closed setup (seen_of setup h s) state kept)

present-due : (state : SessionState) (snap : Arc Snapshot Global) (args : PresentArgs) (n k : ℕ) (accepted : Bool)
    → due (cond accepted (with_present state snap args) (record state { closed = true }))
    ≡ due state + owed_for (cond accepted (Presented n k) (Closed (Some NoPresentsRemaining) None))
present-due state snap args n k true = omega (arith, length-append {A = WaitingPresent (Arc Snapshot Global)})
present-due state snap args n k false = omega arith

owed-two : (accepted : Bool) (n k : ℕ) → owed_for (cond accepted (Presented n k) (Closed (Some NoPresentsRemaining) None)) ≤ 2
owed-two true n k = omega arith
owed-two false n k = omega arith

-- all that is kept
pub kept-after-present : (m : Machine) (s : SessionNo) (line : ℕ) (calls : List Call) (args : PresentArgs) (snap : Arc Snapshot Global)
    → MayCall m (Session s) calls (Present args)
    → Some (arc_value snap) ≡ tree_of m.setup (present_of m.history s calls args)
    → (clock : FrameClock) (fences views : List Bool) (sessions : List SessionState) (log then : Logged) (owed : ℕ) {due_back due_back_now : ℕ}
    (state : SessionState) → state ≡ slice_index_or sessions (s.0 - 1) state → log.history ≡ m.history
    → Stands m.setup log.history clock fences views sessions → HasRoom m.setup m.shares log owed (sum_by due sessions + due_back) → due_back_now ≡ due_back
    → then.history ≡ (log.history ▹ entry_of (Session s) line calls (Present args) (present_reply state)) → then.posts ≡ log.posts → then.room + 1 ≡ log.room
    → owed + 2 ≤ then.post_room
    → Stands m.setup then.history clock fences views (slice_set sessions (s.0 - 1) (after_present state snap args))
    × HasRoom m.setup m.shares then (owed + owed_for (present_reply state))
    (sum_by due (slice_set sessions (s.0 - 1) (after_present state snap args)) + due_back_now)
kept-after-present m s line calls args snap call tree clock fences views sessions log then
    owed {due_back} {due_back_now} state is same stands room comes history posted spent reserved =
    let old : Stands m.setup m.history clock fences views sessions = rw (← same) stands in
    let e : Entry = entry_of (Session s) line calls (Present args) (present_reply state) in
    let new : SessionState = after_present state snap args in
    let now : then.history ≡ (m.history ▹ e) = rw history (rw same refl) in
    let declared : IsTrue (is_declared m.setup s) = declared-of m.setup (Present args) s call.may.acts in
    let opened : is_closed s m.history ≡ false = opened-session m.history s args call.may.lasts in
    let owned : owns_in_kind m.setup s (Present args) ≡ true =
    and-left (owns_in_kind m.setup s (Present args)) (list_all (owns_in_call m.setup s) calls) call.may.owned in
    let here = declared-some s.0 m.setup.sessions declared in
    let count : length sessions ≡ m.setup.sessions = old.count in
    let below : s.0 - 1 < length sessions = omega (arith, here.0, here.1, count) in
    let kept : IsKept m.setup (seen_of m.setup m.history s) state = kept-session m.setup m.history clock fences views sessions s state old declared is in
    let replied : present_reply state ≡ reply_to m.setup m.history (Session s) calls (Present args) =
    present-replied m.setup m.history s calls args state kept opened in
    let left : ℕ = credits_of state.queue - 1 in
    let due_new : due new ≡ due state + owed_for (present_reply state) =
    present-due state snap args (next_present state) left (nat_lt 0 (credits_of state.queue)) in
    let two : owed_for (present_reply state) ≤ 2 = owed-two (nat_lt 0 (credits_of state.queue)) (next_present state) left in
    let small : length log.posts + owed ≤ 2 * length m.history = rw (← same) room.small in
    let as_many : length then.posts ≡ length log.posts = ap length posted in
    let posts_old : log.posts ≡ posts m.setup m.history = rw (← same) room.posts in
    let posts_new : posts m.setup (m.history ▹ e) ≡ posts m.setup m.history =
    posts-none m.setup m.history e (posted-between m.setup m.history e
    (old.legal, legal-entered m (Session s) line calls (Present args) (present_reply state) call replied) refl refl refl) in
    let sums = sum_by-set due sessions (s.0 - 1) new state below in
    let each : AllNumbered (λ i. IsKept m.setup (seen_of m.setup (m.history ▹ e) (number i))) (slice_set sessions (s.0 - 1) new) =
    each-one m s line calls (Present args) (present_reply state) call refl refl clock fences views sessions state new is old
    (λ k. present-kept m.setup m.history s line calls args snap state left (nat_lt 0 (credits_of state.queue)) refl opened owned tree k) in (
      rw now (stands-entered m (Session s) line calls (Present args) (present_reply state) call replied refl refl clock fences fences views views sessions
          (slice_set sessions (s.0 - 1) new) old
          (unchanged m e fences views (λ sessions g f. refl) (λ p. refl)) (length-set sessions (s.0 - 1) new) each),
      room-entered m (Session s) line calls (Present args) (present_reply state) call log then
          owed (owed + owed_for (present_reply state)) (sum_by due sessions + due_back) (sum_by due (slice_set sessions (s.0 - 1) new) + due_back_now) same room
          history
          (posted ∙ posts_old ∙ sym posts_new) spent (omega (arith, two, reserved)) (omega (arith, sums, due_new, ap due is, room.due, comes))
          (omega (arith, small, two, as_many)),
    )

-- its number is a number of the machine
pub count-small : (m : Machine) (s : SessionNo) (calls : List Call) (args : PresentArgs) → MayCall m (Session s) calls (Present args)
    → (clock : FrameClock) (fences views : List Bool) (sessions : List SessionState) (log : Logged) (owed : ℕ) {dues : ℕ} (state : SessionState)
    → state ≡ slice_index_or sessions (s.0 - 1) state → log.history ≡ m.history
    → Stands m.setup log.history clock fences views sessions → HasRoom m.setup m.shares log owed dues
    → state.queue.taken + length state.queue.waiting < 2 ^ 32 - 1
count-small m s calls args call clock fences views sessions log owed {dues} state is same stands room =
    let old : Stands m.setup m.history clock fences views sessions = rw (← same) stands in
    let kept : IsKept m.setup (seen_of m.setup m.history s) state =
    kept-session m.setup m.history clock fences views sessions s state old (declared-of m.setup (Present args) s call.may.acts) is in
    omega (arith, kept.count, presents-few s m.history, few-history m (Session s) calls (Present args) call old.legal log owed dues same room, room.total)

-- its reply is that of the rules
pub present-reply : (m : Machine) (s : SessionNo) (calls : List Call) (args : PresentArgs) → MayCall m (Session s) calls (Present args)
    → (clock : FrameClock) (fences views : List Bool) (sessions : List SessionState) (state : SessionState) → state ≡ slice_index_or sessions (s.0 - 1) state
    → Stands m.setup m.history clock fences views sessions → present_reply state ≡ reply_to m.setup m.history (Session s) calls (Present args)
present-reply m s calls args call clock fences views sessions state is stands =
    present-replied m.setup m.history s calls args state
    (kept-session m.setup m.history clock fences views sessions s state stands (declared-of m.setup (Present args) s call.may.acts) is)
    (opened-session m.history s args call.may.lasts)

pub owed-few : (reply : Reply) → owed_for reply ≤ 2
owed-few (Presented n k) = omega arith
owed-few reply = omega arith
