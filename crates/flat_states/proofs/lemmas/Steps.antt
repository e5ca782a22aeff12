-- What one more entry does to the parts of a board.
use Rattle.std.proofs.Common.{◌≡◌, ℕ, suc, ◌+◌, ◌-◌, ◌*◌, ◌<◌, ◌≤◌, ◌^◌, Bool, true, false, List, [], length, refl, arith, sym, ◌∙◌, ap, slice_index, sum}
use Rattle.std.proofs.lemmas.List.{append-nil}
use Rattle.std.specs.Prelude.{◌&&◌, ◌||◌, ◌==◌, nat_le, nat_lt}
use Rattle.std.proofs.lemmas.Bool.Decides.{nat_tests}
use Rattle.flat_base.specs.declared.ids.Actor.{Actor}
use Rattle.flat_base.specs.declared.ids.Actor.TheVariants.{Display, Session, Probe}
use Rattle.flat_base.specs.declared.ids.FenceNo.{FenceNo}
use Rattle.flat_base.specs.declared.ids.PairNo.{PairNo}
use Rattle.flat_base.specs.declared.ids.SessionNo.{SessionNo}
use Rattle.flat_scene.specs.declared.calls.Call.{Call}
use Rattle.flat_scene.specs.declared.journal.Entry.{Entry}
use Rattle.flat_scene.specs.declared.journal.EntryKind.{EntryKind}
use Rattle.flat_scene.specs.declared.journal.EntryKind.TheVariants.{Signal}
use Rattle.flat_scene.specs.declared.journal.Reply.{Reply}
use Rattle.flat_scene.specs.declared.setup.Setup.{Setup}
use Rattle.flat_scene.specs.History.{◌▹◌, is_begin, is_finish, Published}
use Rattle.flat_scene.specs.Journals.{seat_number}
use Rattle.flat_scene.specs.Setups.{is_declared}
use Rattle.flat_scene.specs.Frames.{signals, going, sessions_to}
use Rattle.flat_base.proofs.lemmas.Tests.{and-right}
use Rattle.flat_fence.specs.Fences.{has}
use Rattle.flat_states.specs.declared.frame_clock.FrameClock.{FrameClock}
use Rattle.flat_states.specs.declared.state.SessionState.{SessionState}
use Rattle.flat_states.specs.Machines.{Machine, MayCall, Stands, HasRoom, made, clock_of, clock_then}
use Rattle.flat_facts.specs.Begins.{entry_of}
use Rattle.flat_rules.specs.Numbers.{number, AllNumbered}
use Rattle.flat_rules.specs.Ends.{uses_view, is_done}
use Rattle.flat_states.specs.Flags.{has_end}
use Rattle.flat_states.specs.Kept.{IsKept}
use Rattle.flat_rules.specs.Legal.{Legal, LegalEntry, reply_to, may_act, session_may, frames}
use Rattle.flat_states.specs.Logs.{Logged}
use Rattle.flat_rules.specs.Posts.{posted}
use Rattle.flat_rules.specs.AllPosts.{posts}
use Rattle.flat_states.specs.Seen.{seen_of}
use Rattle.flat_states.proofs.Shares.{AllPlaced, few-entries, fair-more}
use Rattle.flat_facts.proofs.lemmas.Tests.{or-false}
use Rattle.flat_facts.proofs.lemmas.ViewUses.{viewed-more}

-- an entry that an actor may make, with the reply of the rules, is legal
pub legal-entered : (m : Machine) (who : Actor) (line : ℕ) (calls : List Call) (kind : EntryKind) (reply : Reply) → MayCall m who calls kind
    → reply ≡ reply_to m.setup m.history who calls kind
    → LegalEntry m.setup m.history (entry_of who line calls kind reply)
legal-entered m who line calls kind reply call replied = record { may = call.may; reply = replied }

pub frames-quiet : (h : List Entry) (e : Entry) → is_finish e.kind ≡ false → frames (h ▹ e) ≡ frames h
frames-quiet h e no_finish = rw no_finish refl

-- the clock goes on, at the pixel ratio that the entry may set
pub clock-quiet : (setup : Setup) (h : List Entry) (e : Entry) → is_begin e.kind ≡ false → is_finish e.kind ≡ false
    → clock_of setup (h ▹ e) ≡ clock_then e.kind (clock_of setup h)
clock-quiet setup h e no_begin no_finish = rw (frames-quiet h e no_finish, no_begin, no_finish) refl

-- A call that may change fences, view ends and sessions as its entry says leaves all that stands.
pub record Changed (m : Machine) (e : Entry) (fences fences_now views views_now : List Bool) : Type 0 where
  pub fence_size : length fences_now ≡ length fences
  pub signalled : (f : FenceNo) → has fences_now f ≡ (has fences f || signals (sessions_to m.setup.sessions) e.kind (going m.setup m.history) f)
  pub view_size : length views_now ≡ length views
  pub viewed : (p : PairNo) → has_end views_now p ≡ (has_end views p || (uses_view p e.kind && is_done e.reply))

-- an entry of a kind that signals no fence and uses no view end
pub unchanged : (m : Machine) (e : Entry) (fences views : List Bool)
    → ((sessions : List SessionNo) (g : SessionNo → List Published) (f : FenceNo) → signals sessions e.kind g f ≡ false)
    → ((p : PairNo) → uses_view p e.kind ≡ false) → Changed m e fences fences views views
unchanged m e fences views no_signal no_use = record {
  fence_size = refl;
  signalled = λ f. rw (no_signal (sessions_to m.setup.sessions) (going m.setup m.history) f) (or-false (has fences f));
  view_size = refl;
  viewed = λ p. rw (no_use p) (or-false (has_end views p));
}

-- a signal
pub signalled : (m : Machine) (who : Actor) (line : ℕ) (calls : List Call) (reply : Reply) (f : FenceNo) → {fences fences_now views : List Bool}
    → length fences_now ≡ length fences
    → ((g : FenceNo) → has fences_now g ≡ (has fences g || f.0 == g.0)) → Changed m (entry_of who line calls (Signal f) reply) fences fences_now views views
signalled m who line calls reply f {views = views} size members = record {
  fence_size = size;
  signalled = members;
  view_size = refl;
  viewed = λ p. or-false (has_end views p);
}

pub stands-entered : (m : Machine) (who : Actor) (line : ℕ) (calls : List Call) (kind : EntryKind) (reply : Reply) → MayCall m who calls kind
    → reply ≡ reply_to m.setup m.history who calls kind
    → is_begin kind ≡ false → is_finish kind ≡ false
    → (clock : FrameClock) (fences fences_now views views_now : List Bool) (sessions after : List SessionState)
    → Stands m.setup m.history clock fences views sessions
    → Changed m (entry_of who line calls kind reply) fences fences_now views views_now → length after ≡ length sessions
    → AllNumbered (λ i. IsKept m.setup (seen_of m.setup (m.history ▹ entry_of who line calls kind reply) (number i))) after
    → Stands m.setup (m.history ▹ entry_of who line calls kind reply) (clock_then kind clock) fences_now views_now after
stands-entered m who line calls kind reply call replied no_begin no_finish clock fences fences_now views views_now sessions after old changed count each =
    let e : Entry = entry_of who line calls kind reply in
    record {
      legal = (old.legal, legal-entered m who line calls kind reply call replied);
      timed = ap (clock_then kind) old.timed ∙ sym (clock-quiet m.setup m.history e no_begin no_finish);
      fence_count = changed.fence_size ∙ old.fence_count;
      signalled = λ f. changed.signalled f ∙ ap (λ b. b || signals (sessions_to m.setup.sessions) kind (going m.setup m.history) f) (old.signalled f);
      view_count = changed.view_size ∙ old.view_count;
      viewed = λ p. changed.viewed p ∙ ap (λ b. b || (uses_view p kind && is_done reply)) (old.viewed p) ∙ sym (viewed-more p e m.history);
      count = count ∙ old.count;
      each = each;
    }

below-more : (m n : ℕ) → nat_le m n ≡ true → m < n + 1
below-more m n le = grind (arith, nat_tests)

place-within : (setup : Setup) (kind : EntryKind) (who : Actor) → may_act setup kind who ≡ true → seat_number who < setup.sessions + 1
place-within setup kind Display may = omega arith
place-within setup kind (Session s) may = below-more s.0 setup.sessions
    (and-right (nat_lt 0 s.0) (nat_le s.0 setup.sessions) (and-right (session_may kind) (is_declared setup s) may))
place-within setup kind (Probe p) may = cc

-- the actors of a legal history have shares
all-placed : (setup : Setup) (h : List Entry) (n : ℕ) → n ≡ setup.sessions + 1 → Legal setup h → AllPlaced n h
all-placed setup [] n same legal = tt
all-placed setup (h ▹ e) n same legal = (all-placed setup h n same legal.0, rw same (place-within setup e.kind e.actor legal.1.may.acts))

-- there are fewer entries than the shares allow
pub few-history : (m : Machine) (who : Actor) (calls : List Call) (kind : EntryKind) → MayCall m who calls kind → Legal m.setup m.history
    → (log : Logged) (owed dues : ℕ) → log.history ≡ m.history → HasRoom m.setup m.shares log owed dues → length m.history < sum m.shares
few-history m who calls kind call legal log owed dues same room =
    let fair : (p : ℕ) → p < length m.shares → made p m.history ≤ slice_index m.shares p = rw (← same) room.fair in
    let placed : seat_number who < length m.shares = rw room.actors (place-within m.setup kind who call.may.acts) in
    few-entries m.shares m.history (seat_number who) (all-placed m.setup m.history (length m.shares) room.actors legal) placed fair call.share

-- so the history is short
pub short-history : (m : Machine) (who : Actor) (calls : List Call) (kind : EntryKind) → MayCall m who calls kind → Legal m.setup m.history
    → (log : Logged) (owed dues : ℕ) → log.history ≡ m.history → HasRoom m.setup m.shares log owed dues → length m.history < 2 ^ 32 - 1
short-history m who calls kind call legal log owed dues same room = omega (arith, few-history m who calls kind call legal log owed dues same room, room.total)

-- who may enter has room
pub has-room : (m : Machine) (who : Actor) (calls : List Call) (kind : EntryKind) → MayCall m who calls kind → Legal m.setup m.history
    → (log : Logged) (owed dues : ℕ) → log.history ≡ m.history → HasRoom m.setup m.shares log owed dues → 0 < log.room
has-room m who calls kind call legal log owed dues same room =
    let entries : sum m.shares ≤ length m.history + log.room = rw (← same) room.entries in
    omega (arith, few-history m who calls kind call legal log owed dues same room, entries)

-- what is owed is a number of the machine
pub owed-small : (m : Machine) (who : Actor) (calls : List Call) (kind : EntryKind) → MayCall m who calls kind → Legal m.setup m.history
    → (log : Logged) (owed dues : ℕ) → log.history ≡ m.history → HasRoom m.setup m.shares log owed dues → owed + 2 < 2 ^ 64
owed-small m who calls kind call legal log owed dues same room =
    let small : length log.posts + owed ≤ 2 * length m.history = rw (← same) room.small in
    omega (arith, few-history m who calls kind call legal log owed dues same room, room.total, small)

-- more room for posts changes nothing
pub room-more : (setup : Setup) (shares : List ℕ) (log then : Logged) (owed dues dues_now : ℕ) → HasRoom setup shares log owed dues → then.history ≡ log.history
    → then.posts ≡ log.posts → then.room ≡ log.room
    → log.post_room ≤ then.post_room → dues_now ≡ dues → HasRoom setup shares then owed dues_now
room-more setup shares log then owed dues dues_now room history posted same more as_many = record {
  limits = room.limits;
  actors = room.actors;
  total = room.total;
  fair = rw history room.fair;
  entries = rw (history, same) room.entries;
  posts = rw (history, posted) room.posts;
  reserved = omega (arith, room.reserved, more);
  due = omega (arith, room.due, as_many);
  small = rw (history, posted) room.small;
}

pub posts-none : (setup : Setup) (h : List Entry) (e : Entry) → posted setup h e ≡ [] → posts setup (h ▹ e) ≡ posts setup h
posts-none setup h e none = rw none (append-nil _)

-- room after an entry, whatever was posted
pub room-entered : (m : Machine) (who : Actor) (line : ℕ) (calls : List Call) (kind : EntryKind) (reply : Reply) → MayCall m who calls kind
    → (log after : Logged) (owed owes dues then : ℕ) → log.history ≡ m.history → HasRoom m.setup m.shares log owed dues
    → after.history ≡ (log.history ▹ entry_of who line calls kind reply) → after.posts ≡ posts m.setup (m.history ▹ entry_of who line calls kind reply)
    → after.room + 1 ≡ log.room
    → owes ≤ after.post_room → then ≤ owes → length after.posts + owes ≤ 2 * suc (length m.history)
    → HasRoom m.setup m.shares after owes then
room-entered m who line calls kind reply call log after owed owes dues then same room history posted spent reserved enough small =
    let e : Entry = entry_of who line calls kind reply in
    let now : after.history ≡ (m.history ▹ e) = rw history (rw same refl) in
    let fair : (p : ℕ) → p < length m.shares → made p m.history ≤ slice_index m.shares p = rw (← same) room.fair in
    let entries : sum m.shares ≤ length m.history + log.room = rw (← same) room.entries in
    record {
      limits = room.limits;
      actors = room.actors;
      total = room.total;
      fair = rw now (fair-more m.shares m.history e fair call.share);
      entries = rw now (omega (arith, entries, spent));
      posts = rw now posted;
      reserved = reserved;
      due = enough;
      small = rw now small;
    }
