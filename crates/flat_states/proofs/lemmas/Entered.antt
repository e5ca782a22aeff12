-- What one more entry does to a board, where it posts nothing.
use Rattle.std.proofs.Common.{◌≡◌, ℕ, ◌+◌, ◌*◌, ◌≤◌, Bool, false, List, length, refl, arith, sym, ◌∙◌, ap}
use Rattle.flat_base.specs.declared.ids.Actor.{Actor}
use Rattle.flat_scene.specs.declared.calls.Call.{Call}
use Rattle.flat_scene.specs.declared.journal.Entry.{Entry}
use Rattle.flat_scene.specs.declared.journal.EntryKind.{EntryKind}
use Rattle.flat_scene.specs.declared.journal.Reply.{Reply}
use Rattle.flat_scene.specs.History.{◌▹◌, is_begin, is_finish}
use Rattle.flat_states.specs.declared.frame_clock.FrameClock.{FrameClock}
use Rattle.flat_states.specs.declared.state.SessionState.{SessionState}
use Rattle.flat_states.specs.Machines.{clock_then, Machine, MayCall, Stands, HasRoom}
use Rattle.flat_facts.specs.Begins.{entry_of}
use Rattle.flat_rules.specs.Numbers.{number, AllNumbered}
use Rattle.flat_states.specs.Kept.{IsKept}
use Rattle.flat_rules.specs.Legal.{Legal, reply_to}
use Rattle.flat_states.specs.Logs.{Logged}
use Rattle.flat_rules.specs.Posts.{posted}
use Rattle.flat_rules.specs.AllPosts.{posts}
use Rattle.flat_states.specs.Seen.{seen_of}
use Rattle.flat_facts.proofs.lemmas.Between.{is_viewport, posted-between}
use Rattle.flat_states.proofs.lemmas.Steps.{Changed, legal-entered, posts-none, room-entered, stands-entered}

-- where nothing is posted
pub room-quiet : (m : Machine) (who : Actor) (line : ℕ) (calls : List Call) (kind : EntryKind) (reply : Reply) → MayCall m who calls kind
    → Legal m.setup (m.history ▹ entry_of who line calls kind reply)
    → is_begin kind ≡ false → is_finish kind ≡ false → is_viewport kind ≡ false
    → (log after : Logged) (owed dues then : ℕ) → log.history ≡ m.history → HasRoom m.setup m.shares log owed dues
    → after.history ≡ (log.history ▹ entry_of who line calls kind reply) → after.posts ≡ log.posts → after.room + 1 ≡ log.room → after.post_room ≡ log.post_room
    → then ≤ dues
    → HasRoom m.setup m.shares after owed then
room-quiet m who line calls kind reply call legal no_begin no_finish no_viewport log after owed dues then same room history posted spent kept fewer =
    let e : Entry = entry_of who line calls kind reply in
    let old : log.posts ≡ posts m.setup m.history = rw (← same) room.posts in
    let small : length log.posts + owed ≤ 2 * length m.history = rw (← same) room.small in
    let as_many : length after.posts ≡ length log.posts = ap length posted in
    room-entered m who line calls kind reply call log after owed owed dues then same room history
    (posted ∙ old ∙ sym (posts-none m.setup m.history e (posted-between m.setup m.history e legal no_begin no_finish no_viewport))) spent
    (omega (arith, room.reserved, kept)) (omega (arith, fewer, room.due)) (omega (arith, small, as_many))

-- One entry more stands in the journal, and nothing is posted.
pub record Entered (log then : Logged) (e : Entry) : Type 0 where
  pub history : then.history ≡ (log.history ▹ e)
  pub posts : then.posts ≡ log.posts
  pub room : then.room + 1 ≡ log.room
  pub post_room : then.post_room ≡ log.post_room

-- all that is kept, after an entry that posts nothing and owes nothing
pub kept-entered : (m : Machine) (who : Actor) (line : ℕ) (calls : List Call) (kind : EntryKind) (reply : Reply) → MayCall m who calls kind
    → reply ≡ reply_to m.setup m.history who calls kind
    → is_begin kind ≡ false → is_finish kind ≡ false → is_viewport kind ≡ false
    → (clock : FrameClock) (fences fences_now views views_now : List Bool) (sessions after : List SessionState) (log then : Logged) (owed dues dues_now : ℕ)
    → log.history ≡ m.history
    → Stands m.setup log.history clock fences views sessions → HasRoom m.setup m.shares log owed dues
    → Changed m (entry_of who line calls kind reply) fences fences_now views views_now → length after ≡ length sessions
    → AllNumbered (λ i. IsKept m.setup (seen_of m.setup (m.history ▹ entry_of who line calls kind reply) (number i))) after → dues_now ≡ dues
    → Entered log then (entry_of who line calls kind reply)
    → Stands m.setup then.history (clock_then kind clock) fences_now views_now after × HasRoom m.setup m.shares then owed dues_now
kept-entered m who line calls kind reply call replied no_begin no_finish no_viewport clock fences fences_now views views_now sessions after log then
    owed dues dues_now same stands room changed count each owes is =
    let old : Stands m.setup m.history clock fences views sessions = rw (← same) stands in
    let now : then.history ≡ (m.history ▹ entry_of who line calls kind reply) = rw is.history (rw same refl) in (
      rw now (stands-entered m who line calls kind reply call replied no_begin no_finish clock fences fences_now views views_now sessions after old changed
          count each),
      room-quiet m who line calls kind reply call (old.legal, legal-entered m who line calls kind reply call replied) no_begin no_finish no_viewport log then
          owed dues dues_now same room is.history is.posts is.room is.post_room (omega (arith, owes)),
    )
