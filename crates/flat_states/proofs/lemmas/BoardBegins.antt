-- All that is kept, after a begin.
use Rattle.std.proofs.Common.{◌≡◌, ℕ, ◌+◌, ◌-◌, ◌*◌, ◌<◌, ◌≤◌, ◌^◌, Bool, true, false, List, [], ◌∷◌, ◌++◌, length, refl, arith, sym, ◌∙◌, ap, map, drop, Some}
use Rattle.std.proofs.Common.{slice_get, add-one, add-zero, add-suc, suc, subst, length-append}
use Rattle.std.specs.Prelude.{cond, ◌||◌, ◌&&◌, not, IfSome, Option}
use Rattle.std.specs.List.{list_any}
use Rattle.std.proofs.lemmas.List.Sums.{count_by-le-length, length-filter}
use Rattle.flat_base.specs.declared.ids.Actor.TheVariants.{Display}
use Rattle.flat_base.specs.declared.ids.FenceNo.{FenceNo}
use Rattle.flat_base.specs.declared.ids.SessionNo.{SessionNo}
use Rattle.flat_scene.specs.declared.journal.Entry.{Entry}
use Rattle.flat_scene.specs.declared.journal.EntryKind.{EntryKind}
use Rattle.flat_scene.specs.declared.journal.EntryKind.TheVariants.{Begin, Finish}
use Rattle.flat_scene.specs.declared.journal.PostedEvent.{PostedEvent}
use Rattle.flat_scene.specs.declared.journal.Reply.TheVariants.{Done}
use Rattle.flat_scene.specs.declared.setup.Setup.{Setup}
use Rattle.flat_scene.specs.History.{◌▹◌, is_closed, presents, Published, is_finish}
use Rattle.flat_scene.specs.Frames.{sessions_to, waiting, is_signalled, is_unsquashable, taken, going, up_to_first, ready_run, ready_prefix, is_ready}
use Rattle.flat_rules.specs.Legal.{frames, begin_time}
use Rattle.flat_rules.specs.Shown.{shown, tree_of}
use Rattle.flat_rules.proofs.lemmas.ShownSteps.{serial-get, get-drop}
use Rattle.flat_scene.proofs.lemmas.TakingLemmas.{ready-longest}
use Rattle.flat_scene.specs.Draft.{of_serial}
use Rattle.flat_rules.specs.Posts.{events_to, Sent}
use Rattle.flat_rules.specs.AllPosts.{posts}
use Rattle.flat_fence.specs.Fences.{has}
use Rattle.flat_states.specs.declared.frame_clock.FrameClock.{FrameClock}
use Rattle.flat_states.specs.declared.ratios.Ratios.{Ratios}
use Rattle.flat_states.specs.declared.state.SessionState.{SessionState}
use Rattle.flat_facts.specs.Begins.{begun, begin_entry, finished, finish_entry, post_of, posts_to, entry_of}
use Rattle.flat_states.specs.Machines.{Machine, MayCall, Stands, HasRoom, ratios_of}
use Rattle.flat_rules.specs.Numbers.{number, AllNumbered}
use Rattle.flat_states.specs.Kept.{IsKept}
use Rattle.flat_states.specs.Logs.{Logged}
use Rattle.flat_states.specs.Seen.{Seen, seen_of}
use Rattle.flat_states.proofs.lemmas.DoneSteps.{released_to}
use Rattle.flat_states.proofs.lemmas.Begun.{seen-begun-open}
use Rattle.flat_states.proofs.lemmas.Entered.{Entered}
use Rattle.flat_states.proofs.lemmas.Steps.{legal-entered, frames-quiet, room-entered, few-history}
use Rattle.flat_facts.proofs.lemmas.Tests.{or-false}
use Rattle.flat_rules.proofs.lemmas.ListLemmas.{flat-mapped, flat-each}

map-twice : {A B C : Type 0} (f : B → C) (g : A → B) (xs : List A) → map f (map g xs) ≡ map (λ x. f (g x)) xs
map-twice f g [] = refl
map-twice f g (x ∷ xs) = rw (map-twice f g xs) refl

-- the posts of an entry, session by session
pub posts-all : (setup : Setup) (h : List Entry) (e : Entry) → posts setup (h ▹ e) ≡ posts setup h ++ posts_to setup h e setup.sessions
posts-all setup h e =
    let send : SessionNo → List Sent = λ s. map (λ event. record { to = s; event = event }) (events_to setup h e s) in
    let post : Sent → PostedEvent = λ sent. record { entry = length h; session = sent.to; event = sent.event } in
    ap (λ more. posts setup h ++ more)
    (flat-mapped post send (sessions_to setup.sessions)
    ∙ flat-each (λ s. map post (send s)) (λ s. map (post_of (length h) s) (events_to setup h e s))
    (λ s. map-twice post (λ event. record { to = s; event = event }) (events_to setup h e s)) (sessions_to setup.sessions))

-- What the entry of a frame did, from the log before to the log after: so many events were posted.
pub record Framed (setup : Setup) (h : List Entry) (e : Entry) (log mid then : Logged) (count dues dues_now : ℕ) : Type 0 where
  pub posts : mid.posts ≡ log.posts ++ posts_to setup h e setup.sessions
  pub posted : length mid.posts ≡ length log.posts + count
  pub history : mid.history ≡ log.history
  pub room : mid.room ≡ log.room
  pub post_room : mid.post_room + count ≡ log.post_room
  pub due : dues_now + count ≤ dues
  pub entered : Entered mid then e

room-framed : (m : Machine) (line : ℕ) (kind : EntryKind) → MayCall m Display [] kind
    → (dues after : ℕ) (log mid then : Logged) (owed count : ℕ) → log.history ≡ m.history → HasRoom m.setup m.shares log owed dues
    → Framed m.setup m.history (entry_of Display line [] kind Done) log mid then count dues after → HasRoom m.setup m.shares then (owed - count) after
room-framed m line kind call dues after log mid then owed count same room framed =
    let h : List Entry = m.history in
    let e : Entry = entry_of Display line [] kind Done in
    let posts_old : log.posts ≡ posts m.setup h = rw (← same) room.posts in
    let posts_new : then.posts ≡ posts m.setup (h ▹ e) =
    framed.entered.posts ∙ framed.posts ∙ ap (λ ps. ps ++ posts_to m.setup h e m.setup.sessions) posts_old ∙ sym (posts-all m.setup h e) in
    let small : length log.posts + owed ≤ 2 * length h = rw (← same) room.small in
    let as_many : length then.posts ≡ length mid.posts = ap length framed.entered.posts in
    room-entered m Display line [] kind Done call log then
    owed (owed - count) dues after same room (framed.entered.history ∙ rw framed.history refl) posts_new (framed.entered.room ∙ framed.room)
    (omega (arith, framed.post_room, framed.entered.post_room, room.reserved)) (omega (arith, framed.due, room.due))
    (omega (arith, small, as_many, framed.posted, framed.due, room.due))

pub kept-begun : (m : Machine) (line time : ℕ) → MayCall m Display [] (Begin time)
    → (clock : FrameClock) (fences views : List Bool) (sessions after : List SessionState) (log mid then : Logged) (owed count : ℕ) {dues dues_now : ℕ}
    → log.history ≡ m.history
    → Stands m.setup log.history clock fences views sessions → HasRoom m.setup m.shares log owed dues
    → length after ≡ m.setup.sessions → AllNumbered (λ i. IsKept m.setup (seen_of m.setup (begun m.history line time) (number i))) after
    → Framed m.setup m.history (begin_entry line time) log mid then count dues dues_now
    → (ratios : Ratios) → (clock.ratios ≡ ratios_of m.setup m.history → ratios ≡ ratios_of m.setup (begun m.history line time))
    → Stands m.setup then.history (record { frames = clock.frames; is_open = true; time = time; ratios = ratios }) fences views after
    × HasRoom m.setup m.shares then (owed - count) dues_now
kept-begun m line time call clock fences views sessions after log mid then owed count {dues} {dues_now} same stands room all each framed ratios noted =
    let h : List Entry = m.history in
    let e : Entry = begin_entry line time in
    let old : Stands m.setup h clock fences views sessions = rw (← same) stands in
    let now : then.history ≡ (h ▹ e) = framed.entered.history ∙ rw (framed.history, same) refl in
    let ticks : clock.frames ≡ frames h = ap (λ (c : FrameClock). c.frames) old.timed in
    let told : ratios ≡ ratios_of m.setup (h ▹ e) = noted (ap (λ (c : FrameClock). c.ratios) old.timed) in
    let is : Stands m.setup (h ▹ e) (record { frames = clock.frames; is_open = true; time = time; ratios = ratios }) fences views after = record {
      legal = (old.legal, legal-entered m Display line [] (Begin time) Done call refl);
      timed = rw (frames-quiet h e refl, ticks, told) refl;
      fence_count = old.fence_count;
      signalled = λ f. old.signalled f ∙ or-false _;
      view_count = old.view_count;
      viewed = old.viewed;
      count = all;
      each = each;
    } in (rw now is, room-framed m line (Begin time) call dues dues_now log mid then owed count same room framed)

-- a frame's number is a number of the machine
pub frames-few : (h : List Entry) → frames h ≤ length h
frames-few h = rw (length-filter (λ entry. is_finish entry.kind) h) (count_by-le-length (λ entry. is_finish entry.kind) h)

-- what a begin takes of an open session goes at the frame's end, and the rest waits
begun-goes : (setup : Setup) (h : List Entry) (line time : ℕ) (s : SessionNo) → is_closed s h ≡ false
    → going setup (begun h line time) s ≡ ready_prefix time (is_signalled setup h) (waiting setup h s)
begun-goes setup h line time s opened = ap (λ (r : Seen). r.going)
    (seen-begun-open setup h line time s (ready_prefix time (is_signalled setup h) (waiting setup h s)) opened refl)

begun-waits : (setup : Setup) (h : List Entry) (line time : ℕ) (s : SessionNo) → is_closed s h ≡ false
    → waiting setup (begun h line time) s ≡ drop (length (ready_prefix time (is_signalled setup h) (waiting setup h s))) (waiting setup h s)
begun-waits setup h line time s opened = ap (λ (r : Seen). r.waiting)
    (seen-begun-open setup h line time s (ready_prefix time (is_signalled setup h) (waiting setup h s)) opened refl)

-- the first present that waits after a begin wasn't ready, or follows an unsquashable one that was taken
pub held-back : (setup : Setup) (h : List Entry) (line time : ℕ) (s : SessionNo) (present : Published) → is_closed s h ≡ false
    → slice_get (waiting setup (begun h line time) s) 0 ≡ Some present
    → (not (list_any is_unsquashable (going setup (begun h line time) s)) && is_ready time (is_signalled setup h) present.args) ≡ false
held-back setup h line time s present opened here =
    let prefix : List Published = ready_prefix time (is_signalled setup h) (waiting setup h s) in
    let test : List Published → Published → Bool = λ took p. not (list_any is_unsquashable took) && is_ready time (is_signalled setup h) p.args in
    let at : slice_get (waiting setup h s) (length prefix) ≡ Some present =
    ap (slice_get (waiting setup h s)) (sym (add-zero (length prefix))) ∙ get-drop (length prefix) 0 (waiting setup h s)
    ∙ ap (λ ps. slice_get ps 0) (sym (begun-waits setup h line time s opened)) ∙ here in
    ap (λ took. test took present) (begun-goes setup h line time s opened)
    ∙ subst (λ (o : Option Published). IfSome o (λ (p : Published). test prefix p ≡ false)) at
    (ready-longest time (is_signalled setup h) (waiting setup h s)).longest

-- behind the first item that ends it there is nothing
first-ends : {A : Type 0} (ends : A → Bool) (xs earlier later : List A) (x : A) → up_to_first ends xs ≡ earlier ++ x ∷ later → ends x ≡ true → later ≡ []
first-ends ends [] earlier later x is here = absurd (omega (arith, ap length is, length-append earlier (x ∷ later)))
first-ends ends (y ∷ xs) [] later x is here =
    let same : y ≡ x = cc in
    let rest : cond (ends y) [] (up_to_first ends xs) ≡ later = cc in
    sym rest ∙ ap (λ b. cond b [] (up_to_first ends xs)) (ap ends same ∙ here)
first-ends ends (y ∷ xs) (z ∷ earlier) later x is here = by_end (first-ends ends xs earlier later x) (ends y) (cc)
  where
    by_end : (up_to_first ends xs ≡ earlier ++ x ∷ later → ends x ≡ true → later ≡ []) → (b : Bool) → cond b [] (up_to_first ends xs) ≡ earlier ++ x ∷ later
        → later ≡ []
    by_end rest true none = absurd (omega (arith, ap length none, length-append earlier (x ∷ later)))
    by_end rest false more = rest more here

at-seam : {A : Type 0} (earlier rest : List A) (x : A) → slice_get ((earlier ++ x ∷ []) ++ rest) (length earlier) ≡ Some x
at-seam [] rest x = refl
at-seam (y ∷ earlier) rest x = at-seam earlier rest x

-- an unsquashable present that a begin takes is the last, and is shown
pub unsquashable-shown : (setup : Setup) (h : List Entry) (line time : ℕ) (s : SessionNo) (earlier later : List Published) (present : Published)
    → is_closed s h ≡ false
    → going setup (begun h line time) s ≡ earlier ++ present ∷ later → is_unsquashable present ≡ true
    → (later ≡ []) × (shown setup (begun h line time) s ≡ tree_of setup present)
unsquashable-shown setup h line time s earlier later present opened here ends =
    let prefix : List Published = ready_prefix time (is_signalled setup h) (waiting setup h s) in
    let is : prefix ≡ earlier ++ present ∷ later = sym (begun-goes setup h line time s opened) ∙ here in
    let none : later ≡ [] = first-ends is_unsquashable (ready_run time (is_signalled setup h) (waiting setup h s)) earlier later present is ends in
    let one : prefix ≡ earlier ++ present ∷ [] = is ∙ ap (λ ps. earlier ++ present ∷ ps) none in
    let long : length prefix ≡ suc (length earlier) = omega (arith, ap length one, length-append earlier (present ∷ [])) in
    let begins = (ready-longest time (is_signalled setup h) (waiting setup h s)).begins in
    let at : slice_get (waiting setup h s) (length earlier) ≡ Some present =
    ap (λ ps. slice_get ps (length earlier)) (begins ∙ ap (λ ps. ps ++ drop (length prefix) (waiting setup h s)) one)
    ∙ at-seam earlier (drop (length prefix) (waiting setup h s)) present in
    let last : of_serial (presents s h) (taken setup h s + length prefix) ≡ Some present =
    ap (λ n. of_serial (presents s h) (taken setup h s + n)) long
    ∙ rw add-suc (serial-get (presents s h) (taken setup h s + length earlier) ∙ get-drop (taken setup h s) (length earlier) (presents s h) ∙ at) in
    (none, rw (opened, last) refl)

-- there are few enough entries, and frames
pub place-small : (m : Machine) (kind : EntryKind) → MayCall m Display [] kind
    → (clock : FrameClock) (fences views : List Bool) (sessions : List SessionState) (log : Logged) (owed : ℕ) {dues : ℕ} → log.history ≡ m.history
    → Stands m.setup log.history clock fences views sessions → HasRoom m.setup m.shares log owed dues
    → (length log.history < 2 ^ 32) × (clock.frames + 1 < 2 ^ 32)
place-small m kind call clock fences views sessions log owed {dues} same stands room =
    let old : Stands m.setup m.history clock fences views sessions = rw (← same) stands in
    let few = few-history m Display [] kind call old.legal log owed dues same room in
    let ticks : clock.frames ≡ frames m.history = ap (λ (c : FrameClock). c.frames) old.timed in
    let long : length log.history ≡ length m.history = ap length same in
    (omega (arith, few, room.total, long), omega (arith, few, room.total, ticks, frames-few m.history))

-- all that is kept, after the end of a frame
pub kept-finished : (m : Machine) (line : ℕ) → MayCall m Display [] Finish
    → (clock : FrameClock) (fences signalled_now views : List Bool) (sessions after : List SessionState) (log mid then : Logged) (owed count : ℕ)
    {dues dues_now : ℕ}
    → log.history ≡ m.history
    → Stands m.setup log.history clock fences views sessions → HasRoom m.setup m.shares log owed dues
    → length after ≡ m.setup.sessions → AllNumbered (λ i. IsKept m.setup (seen_of m.setup (finished m.history line) (number i))) after
    → length signalled_now ≡ length fences → ((g : FenceNo) → has signalled_now g ≡ (has fences g || released_to m.setup m.history m.setup.sessions g))
    → Framed m.setup m.history (finish_entry line) log mid then count dues dues_now
    → (ratios : Ratios) → (clock.ratios ≡ ratios_of m.setup m.history → ratios ≡ ratios_of m.setup (finished m.history line))
    → Stands m.setup then.history (record { frames = clock.frames + 1; is_open = false; time = clock.time; ratios = ratios }) signalled_now views after
    × HasRoom m.setup m.shares then (owed - count) dues_now
kept-finished m line call clock fences signalled_now views sessions after log mid then
    owed count {dues} {dues_now} same stands room all each size members framed ratios noted =
    let h : List Entry = m.history in
    let e : Entry = finish_entry line in
    let old : Stands m.setup h clock fences views sessions = rw (← same) stands in
    let now : then.history ≡ (h ▹ e) = framed.entered.history ∙ rw (framed.history, same) refl in
    let ticks : clock.frames ≡ frames h = ap (λ (c : FrameClock). c.frames) old.timed in
    let times : clock.time ≡ begin_time h = ap (λ (c : FrameClock). c.time) old.timed in
    let more : frames (h ▹ e) ≡ frames h + 1 = sym (add-one (frames h)) in
    let told : ratios ≡ ratios_of m.setup (h ▹ e) = noted (ap (λ (c : FrameClock). c.ratios) old.timed) in
    let is : Stands m.setup (h ▹ e) (record { frames = clock.frames + 1; is_open = false; time = clock.time; ratios = ratios }) signalled_now views after =
    record {
      legal = (old.legal, legal-entered m Display line [] Finish Done call refl);
      timed = rw (more, ticks, times, told) refl;
      fence_count = size ∙ old.fence_count;
      signalled = λ f. members f ∙ ap (λ b. b || released_to m.setup h m.setup.sessions f) (old.signalled f);
      view_count = old.view_count;
      viewed = old.viewed;
      count = all;
      each = each;
    } in (rw now is, room-framed m line Finish call dues dues_now log mid then owed count same room framed)
