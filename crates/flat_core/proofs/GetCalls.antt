-- What a get does to the parts of a board.
use Rattle.std.proofs.Common.{◌≡◌, ◌∙◌, sym, ℕ, ◌+◌, ◌-◌, ◌*◌, ◌<◌, ◌≤◌, Bool, true, false, List, length, refl, arith, ap, slice_set, slice_index_or}
use Rattle.std.specs.Prelude.{IsTrue, cond, sum_by}
use Rattle.std.proofs.lemmas.List.{length-set}
use Rattle.flat_base.specs.declared.ids.Actor.TheVariants.{Session}
use Rattle.flat_base.specs.declared.ids.SessionNo.{SessionNo}
use Rattle.flat_scene.specs.declared.calls.Call.{Call}
use Rattle.flat_scene.specs.declared.calls.Watch.{Watch}
use Rattle.flat_scene.specs.declared.journal.Entry.{Entry}
use Rattle.flat_scene.specs.declared.journal.EntryKind.TheVariants.{Get}
use Rattle.flat_scene.specs.declared.journal.Reply.{Reply}
use Rattle.flat_scene.specs.declared.setup.Setup.{Setup}
use Rattle.flat_scene.specs.History.{◌▹◌, closes}
use Rattle.flat_scene.specs.Setups.{is_declared}
use Rattle.flat_states.specs.declared.frame_clock.FrameClock.{FrameClock}
use Rattle.flat_states.specs.declared.state.SessionState.{SessionState}
use Rattle.flat_states.specs.Machines.{HasRoom, Machine, MayCall, Stands, due}
use Rattle.flat_facts.specs.Begins.{entry_of}
use Rattle.flat_states.specs.Kept.{IsKept}
use Rattle.flat_rules.specs.Legal.{number_if, reply_to}
use Rattle.flat_states.specs.Logs.{Logged}
use Rattle.flat_rules.specs.AllPosts.{posts}
use Rattle.flat_states.proofs.lemmas.Heard.{after_get}
use Rattle.flat_states.specs.Seen.{seen_of}
use Rattle.flat_gets.specs.Watchers.{is_held}
use Rattle.flat_facts.proofs.lemmas.Between.{posted-between}
use Rattle.flat_states.proofs.lemmas.Changes.{IsPlainOne, is-session, kept-closed, seen-closed, seen-plain, sum-same}
use Rattle.flat_states.proofs.lemmas.Counts.{declared-some, few-if}
use Rattle.flat_states.proofs.lemmas.Ones.{declared-of, each-one}
use Rattle.flat_states.proofs.lemmas.Steps.{legal-entered, posts-none, room-entered, stands-entered, unchanged}

plain-get : (s : SessionNo) (line : ℕ) (calls : List Call) (get : Watch) (reply : Reply) → IsPlainOne (entry_of (Session s) line calls (Get get) reply)
plain-get s line calls get reply = record { no_begin = refl; no_finish = refl; no_poll = refl; no_view = refl; none = λ made. refl }

-- what is kept of its session
get-kept : (setup : Setup) (h : List Entry) (s : SessionNo) (line : ℕ) (calls : List Call) (get : Watch) (reply : Reply) (state : SessionState) (b : Bool)
    → closes reply ≡ b → IsKept setup (seen_of setup h s) state
    → IsKept setup (seen_of setup (h ▹ entry_of (Session s) line calls (Get get) reply) s)
    (cond b (let shut : SessionState = record state { closed = true } in shut) state)
get-kept setup h s line calls get reply state false stays kept =
    rw (seen-plain setup h (entry_of (Session s) line calls (Get get) reply) s (plain-get s line calls get reply) stays (is-session s)) kept
get-kept setup h s line calls get reply state true closing kept =
    rw (seen-closed setup h (entry_of (Session s) line calls (Get get) reply) s (plain-get s line calls get reply) closing (is-session s))
    (kept-closed setup (seen_of setup h s) state kept)

get-due : (b : Bool) (state : SessionState) → due (cond b (let shut : SessionState = record state { closed = true } in shut) state) ≡ due state
get-due true state = refl
get-due false state = refl

module _ (m : Machine) (s : SessionNo) (line : ℕ) (calls : List Call) (get : Watch) (call : MayCall m (Session s) calls (Get get)) (reply : Reply)
    (replied : reply ≡ reply_to m.setup m.history (Session s) calls (Get get)) where
  -- the parts after it
  pub kept-got : (clock : FrameClock) (fences views : List Bool) (sessions : List SessionState) (state : SessionState)
      → state ≡ slice_index_or sessions (s.0 - 1) state → Stands m.setup m.history clock fences views sessions
      → Stands m.setup (m.history ▹ entry_of (Session s) line calls (Get get) reply) clock fences views (slice_set sessions (s.0 - 1) (after_get reply state))
      × (sum_by due (slice_set sessions (s.0 - 1) (after_get reply state)) ≡ sum_by due sessions)
  kept-got clock fences views sessions state of_state old =
      let h : List Entry = m.history in
      let e : Entry = entry_of (Session s) line calls (Get get) reply in
      let new : SessionState = after_get reply state in
      let declared : IsTrue (is_declared m.setup s) = declared-of m.setup (Get get) s call.may.acts in
      let here = declared-some s.0 m.setup.sessions declared in
      let count : length sessions ≡ m.setup.sessions = old.count in
      let below : s.0 - 1 < length sessions = omega (arith, here.0, here.1, count) in
      let each = each-one m s line calls (Get get) reply call refl refl clock fences views sessions state new of_state old
      (λ k. get-kept m.setup h s line calls get reply state (closes reply) refl k) in (
        stands-entered m (Session s) line calls (Get get) reply call replied refl refl clock fences fences views views sessions
            (slice_set sessions (s.0 - 1) new) old
            (unchanged m e fences views (λ sessions g f. refl) (λ p. refl)) (length-set sessions (s.0 - 1) new) each,
        sum-same due sessions (s.0 - 1) new state below of_state (get-due (closes reply) state),
      )

  -- and the journal
  pub room-got : (clock : FrameClock) (fences views : List Bool) (sessions : List SessionState) → Stands m.setup m.history clock fences views sessions
      → (log mid then : Logged) (owed dues dues_now : ℕ) → log.history ≡ m.history
      → HasRoom m.setup m.shares log owed dues → mid.history ≡ log.history → mid.posts ≡ log.posts → mid.room ≡ log.room → owed + 1 ≤ mid.post_room
      → then.history ≡ (mid.history ▹ entry_of (Session s) line calls (Get get) reply) → then.posts ≡ mid.posts → then.room + 1 ≡ mid.room
      → then.post_room ≡ mid.post_room
      → dues_now ≤ dues + number_if (is_held reply) → HasRoom m.setup m.shares then (owed + number_if (is_held reply)) dues_now
  room-got clock fences views sessions old log mid then owed dues dues_now same room mid_history mid_posts mid_room reserved history posted spent kept owes =
      let h : List Entry = m.history in
      let e : Entry = entry_of (Session s) line calls (Get get) reply in
      let small : length log.posts + owed ≤ 2 * length h = rw (← same) room.small in
      let as_many : length then.posts ≡ length log.posts = ap length posted ∙ ap length mid_posts in
      let posts_old : log.posts ≡ posts m.setup h = rw (← same) room.posts in
      let posts_new = posts-none m.setup h e (posted-between m.setup h e (old.legal, legal-entered m (Session s) line calls (Get get) reply call replied) refl
      refl refl) in
      room-entered m (Session s) line calls (Get get) reply call log then
      owed (owed + number_if (is_held reply)) dues dues_now same room (history ∙ rw mid_history refl) (posted ∙ mid_posts ∙ posts_old ∙ sym posts_new)
      (spent ∙ mid_room)
      (omega (arith, kept, reserved, few-if (is_held reply))) (omega (arith, owes, room.due)) (omega (arith, small, as_many, few-if (is_held reply)))
