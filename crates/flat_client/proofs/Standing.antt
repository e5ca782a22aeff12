-- How a client stands after a line.
use Rattle.std.proofs.Common.{◌≡◌, ℕ, ◌+◌, ◌-◌, ◌<◌, ◌≤◌, ◌^◌, Bool, true, false, cond, ◌⊎◌, List, [], ◌∷◌, ◌++◌}
use Rattle.std.proofs.Common.{length, refl, sym, ap, ◌∙◌, subst, Option, Some, None, is_some, arith, length-append}
use Rattle.std.proofs.Common.{IfOk, OnErr, Result, Ok, Err}
use Rattle.flat_base.specs.declared.errors.Reason.{Reason}
use Rattle.flat_scene.specs.declared.calls.Call.{Call}
use Rattle.flat_scene.specs.declared.journal.Entry.{Entry}
use Rattle.flat_scene.specs.declared.journal.EntryKind.{EntryKind}
use Rattle.flat_scene.specs.declared.journal.EntryKind.TheVariants.{Close}
use Rattle.flat_scene.specs.declared.journal.Reply.{Reply}
use Rattle.flat_scene.specs.declared.journal.Reply.TheVariants.{Done, Closed}
use Rattle.flat_scene.specs.declared.script.SessionLine.{SessionLine}
use Rattle.flat_scene.specs.declared.script.SessionLine.TheVariants as line
use Rattle.flat_scene.specs.declared.setup.Setup.{Setup}
use Rattle.flat_scene.specs.History.{closes}
use Rattle.flat_scene.specs.Interleave.{entry_of_call, or_close, calls_of_line}
use Rattle.flat_stage.specs.Readings.{IsReadAlone, IsUnread, entry_by}
use Rattle.flat_stage.specs.Seats.{SessionEnters, SessionMakes, SessionReads, SessionView, StageView, is_ended, session_entry, setup_of}
use Rattle.flat_client.specs.Clients.{Cause, ClientView, HasRoomFor, IsClient, IsFree, IsMisused, IsWaiting}
use Rattle.flat_client.specs.Clients.{MakesEntry, Owes, call_of, cause_then, is_close, kept_back, may_say, misuse_now}
use Rattle.flat_client.specs.Clients.{setup_for, share_of}
use Rattle.flat_client.proofs.Answering.{closing}

-- ---- an entry

pub record Entered (number : ℕ) (text : SessionLine) (answer : Reply) (old new : SessionView) : Type 0 where
  pub kind : EntryKind
  pub of_line : entry_by old text ≡ Some kind
  pub entry : SessionEnters number (old.pending ++ calls_of_line text) kind answer old new

entered_by : (number : ℕ) (text : SessionLine) (answer : Reply) (old new : SessionView) (made : Option EntryKind) → entry_by old text ≡ made
    → is_some made ≡ true
    → SessionMakes number text answer old new made → Entered number text answer old new
entered_by number text answer old new None is some makes = absurd (let wrong : false ≡ true = some in cc)
entered_by number text answer old new (Some kind) is some makes = record { kind = kind; of_line = is; entry = makes }

-- a line of an opened session that makes an entry was read: it made one
pub entered : (number : ℕ) (text : SessionLine) (answer : Reply) (old new : SessionView) → old.closed ≡ false → is_some (entry_by old text) ≡ true
    → SessionReads number text answer old new old.closed → Entered number text answer old new
entered number text answer old new opened some reads =
    let R : Bool → Type 0 = SessionReads number text answer old new in
    entered_by number text answer old new (entry_by old text) refl some (subst R opened reads)

-- the client made it
pub makes_entered : (number : ℕ) (text : SessionLine) (answer : Reply) (old : ClientView) (seat : SessionView) (cause : Cause)
    → number ≡ length old.seat.mine + 1
    → old.seat.closed ≡ false → may_say old text ≡ true
    → Entered number text answer old.seat seat → cause ≡ cause_then answer old.cause
    → MakesEntry text answer old (record { seat = seat; owed = None; cause = cause })
makes_entered number text answer old seat cause is opened own entered because =
    let E : ℕ → Type 0 = λ n. SessionEnters n (old.seat.pending ++ calls_of_line text) entered.kind answer old.seat seat in
    record {
      opened = opened;
      own = own;
      kind = entered.kind;
      of_line = entered.of_line;
      entry = subst E is entered.entry;
      settled = refl;
      because = because;
    }

-- how much room an entry leaves
leaves_room : (close closed : Bool) (made share : ℕ) → (close ≡ true → closed ≡ true) → made + cond close 2 3 ≤ share → made + 1 + kept_back closed ≤ share
leaves_room true true made share so room = omega arith
leaves_room true false made share so room = absurd (let wrong : false ≡ true = so refl in cc)
leaves_room false true made share so room = omega arith
leaves_room false false made share so room = omega arith

room_now : (close : Bool) (made share : ℕ) → made + cond close 2 3 ≤ share → made < share
room_now true made share room = omega arith
room_now false made share room = omega arith

pub has_room : (text : SessionLine) (client : ClientView) → HasRoomFor text client → length client.seat.mine < share_of client.seat
has_room text client room = room_now (is_close (entry_by client.seat text)) (length client.seat.mine) (share_of client.seat) room

-- it stands again
module _ (stage : StageView) (setup : Setup) (share made : ℕ) (old : ClientView) (stands : IsClient stage setup share made old) where
  pub stands_entered : (text : SessionLine) (answer : Reply) (seat : SessionView) (cause : Cause) → HasRoomFor text old
      → is_ended seat.mine ≡ is_ended old.seat.mine
      → MakesEntry text answer old (record { seat = seat; owed = None; cause = cause })
      → IsClient stage setup share (made + 1) (record { seat = seat; owed = None; cause = cause })
  stands_entered text answer seat cause room ended makes =
      let rest = makes.entry.rest in
      let closed : seat.closed ≡ closes answer = ap (λ (v : SessionView). v.closed) rest in
      let more : length seat.mine ≡ length old.seat.mine + 1 = ap length makes.entry.one.one_more ∙ length-append old.seat.mine _ in
      let left : length old.seat.mine + 1 + kept_back seat.closed ≤ share_of old.seat =
      leaves_room (is_close (entry_by old.seat text)) seat.closed (length old.seat.mine) (share_of old.seat)
      (λ close. closed ∙ closing text answer old (record { seat = seat; owed = None; cause = cause }) close makes) room in
      record {
        own = stands.own ∙ sym (ap (λ (v : SessionView). v.stage) rest);
        declared = stands.declared ∙ sym (ap (λ (v : SessionView). setup_of v.stage) rest);
        shared = stands.shared ∙ sym (ap share_of rest);
        counted = let is : made ≡ length old.seat.mine = stands.counted in omega arith;
        unended = ended ∙ stands.unended;
        none_refused = ap (λ (v : SessionView). v.refused) rest ∙ stands.none_refused;
        room = let is : made ≡ length old.seat.mine = stands.counted in let all : share ≡ share_of old.seat = stands.shared in omega arith;
        owes = tt;
      }

  -- the same seat, but for what it has seen
  pub stands_seeing : (seat : SessionView) → seat ≡ record old.seat { seen = seat.seen } → IsClient stage setup share made (record old { seat = seat })
  stands_seeing seat rest =
      let C : SessionView → Type 0 = λ s. IsClient stage setup share made (record old { seat = s }) in
      let kept : C (record old.seat { seen = seat.seen }) = record {
        own = stands.own;
        declared = stands.declared;
        shared = stands.shared;
        counted = stands.counted;
        unended = stands.unended;
        none_refused = stands.none_refused;
        room = stands.room;
        owes = owes_seeing old seat.seen old.owed stands.owes;
      } in
      subst C (sym rest) kept
    where
      owes_seeing : (client : ClientView) (seen : List Entry) (owed : Option Call) → Owes client owed
          → Owes (record client { seat = record client.seat { seen = seen } }) owed
      owes_seeing client seen None owes = owes
      owes_seeing client seen (Some call) owes = owes

  -- a call waits
  pub stands_waiting : (seat : SessionView) (calls : List Call) → old.owed ≡ None → seat ≡ record old.seat { pending = calls }
      → IsClient stage setup share made (record old { seat = seat })
  stands_waiting seat calls none rest =
      let C : SessionView → Type 0 = λ s. IsClient stage setup share made (record old { seat = s }) in
      let O : Option Call → Type 0 = Owes (record old { seat = record old.seat { pending = calls } }) in
      let kept : C (record old.seat { pending = calls }) = record {
        own = stands.own;
        declared = stands.declared;
        shared = stands.shared;
        counted = stands.counted;
        unended = stands.unended;
        none_refused = stands.none_refused;
        room = stands.room;
        owes = subst O (sym none) tt;
      } in
      subst C (sym rest) kept

  -- a misuse is owed
  pub stands_owing : (seat : SessionView) (call : Call) → seat ≡ old.seat → old.seat.closed ≡ false → may_say old (line.Call call) ≡ true
      → is_some (misuse_now old call) ≡ true
      → IsClient stage setup share made (record old { seat = seat; owed = Some call })
  stands_owing seat call same opened own wrong =
      let C : SessionView → Type 0 = λ s. IsClient stage setup share made (record old { seat = s; owed = Some call }) in
      let kept : C old.seat = record {
        own = stands.own;
        declared = stands.declared;
        shared = stands.shared;
        counted = stands.counted;
        unended = stands.unended;
        none_refused = stands.none_refused;
        room = stands.room;
        owes = (opened, own, wrong);
      } in
      subst C (sym same) kept

-- ---- a private call

right_call : (why : Option Reason) (entry : Option EntryKind) → or_close why entry ≡ None → why ≡ None
right_call None entry is = refl
right_call (Some reason) entry is = absurd (cc)

wrong_call : (why : Option Reason) (entry : Option EntryKind) → entry ≡ None → is_some (or_close why entry) ≡ true → is_some why ≡ true
wrong_call None entry none some = ap is_some (sym none) ∙ some
wrong_call (Some reason) entry none some = refl

owed_call : (why : Option Reason) (entry : Option EntryKind) → is_some why ≡ true → (is_some (or_close why entry) ≡ true)
    × (is_close (or_close why entry) ≡ true)
owed_call None entry some = absurd (let wrong : false ≡ true = some in cc)
owed_call (Some reason) entry some = (refl, refl)

-- a call that was read alone is no misuse
pub no_misuse : (call : Call) (answer : Reply) (client : ClientView) (seat : SessionView) → client.seat.closed ≡ false
    → IsReadAlone (line.Call call) answer client.seat seat → misuse_now client call ≡ None
no_misuse call answer client seat opened alone = right_call (misuse_now client call) (entry_of_call call) (alone.alone opened)

-- and it waits
pub waits_now : (call : Call) (answer : Reply) (old new : SessionView) → old.closed ≡ false → IsReadAlone (line.Call call) answer old new → new
    ≡ record old { pending = old.pending ++ call ∷ [] }
waits_now call answer old new opened alone =
    let R : Bool → Type 0 = SessionReads 0 (line.Call call) answer old new in
    let M : Option EntryKind → Type 0 = SessionMakes 0 (line.Call call) answer old new in
    (subst M (alone.alone opened) (subst R opened (alone.reads 0))).1

-- a private call that came back is a misuse
pub is_misuse : (call : Call) (back : SessionLine) (client : ClientView) (seat : SessionView) → entry_of_call call ≡ None
    → IsUnread (line.Call call) back client.seat seat → is_some (misuse_now client call) ≡ true
is_misuse call back client seat private unread = wrong_call (misuse_now client call) (entry_of_call call) private unread.enters

-- a misuse that is owed makes an entry, which closes
pub owed_enters : (client : ClientView) (call : Call) → is_some (misuse_now client call) ≡ true → (is_some (entry_by client.seat (line.Call call)) ≡ true)
    × (is_close (entry_by client.seat (line.Call call)) ≡ true)
owed_enters client call wrong = owed_call (misuse_now client call) (entry_of_call call) wrong

-- ---- what came of a private call

pub answers_waiting : (call : Call) (answer : Reply) (old : ClientView) (seat : SessionView) → IsFree old → may_say old (line.Call call) ≡ true
    → IsReadAlone (line.Call call) answer old.seat seat → IsWaiting call old (record old { seat = seat })
answers_waiting call answer old seat free own alone =
    record {
      free = free;
      own = own;
      right = no_misuse call answer old seat free.opened alone;
      waits = ap (λ (v : SessionView). let then : ClientView = record old { seat = v } in then) (waits_now call answer old.seat seat free.opened alone);
    }

pub answers_owed : (call : Call) (back : SessionLine) (old : ClientView) (seat : SessionView) (owed : Option Call) → IsFree old
    → may_say old (line.Call call) ≡ true
    → entry_of_call call ≡ None → IsUnread (line.Call call) back old.seat seat
    → owed ≡ call_of back → IsMisused call old (record old { seat = seat; owed = owed }) old.owed
answers_owed call back old seat owed free own private unread is =
    let new : ClientView = record old { seat = seat; owed = owed } in
    let M : Option Call → Type 0 = IsMisused call old new in
    let one : owed ≡ Some call = is ∙ ap call_of unread.same_line in
    let same : new ≡ record old { owed = Some call } =
    ap (λ (v : SessionView). let then : ClientView = record old { seat = v; owed = owed } in then) unread.same_seat
    ∙ ap (λ (o : Option Call). let then : ClientView = record old { owed = o } in then) one in
    let this : M None = (free.opened, own, is_misuse call back old seat private unread, same) in
    subst M (sym free.nothing_owed) this

pub stands_owed : (stage : StageView) (setup : Setup) (share made : ℕ) (old : ClientView) → IsClient stage setup share made old
    → (call : Call) (back : SessionLine) (seat : SessionView) (owed : Option Call) → IsFree old → may_say old (line.Call call) ≡ true
    → entry_of_call call ≡ None
    → IsUnread (line.Call call) back old.seat seat → owed ≡ call_of back
    → IsClient stage setup share made (record old { seat = seat; owed = owed })
stands_owed stage setup share made old stands call back seat owed free own private unread is =
    let one : Some call ≡ owed = sym (is ∙ ap call_of unread.same_line) in
    let C : Option Call → Type 0 = λ o. IsClient stage setup share made (record old { seat = seat; owed = o }) in
    subst C one (stands_owing stage setup share made old stands seat call unread.same_seat free.opened own (is_misuse call back old seat private unread))

-- ---- a line of an opened client was read

module _ (stage : StageView) (setup : Setup) (share made : ℕ) (old view : ClientView) (stands : IsClient stage setup share made old) (is : old ≡ view) where
  pub made_now : (text : SessionLine) (answer : Reply) (seat : SessionView) (cause : Cause) → view.seat.closed ≡ false → may_say view text ≡ true
      → is_some (entry_by view.seat text) ≡ true
      → SessionReads (made + 1) text answer old.seat seat old.seat.closed → cause ≡ cause_then answer old.cause
      → MakesEntry text answer old (record { seat = seat; owed = None; cause = cause })
  made_now text answer seat cause opened own some reads because =
      let open_then : old.seat.closed ≡ false = ap (λ (v : ClientView). v.seat.closed) is ∙ opened in
      let own_then : may_say old text ≡ true = ap (λ (v : ClientView). may_say v text) is ∙ own in
      let some_then : is_some (entry_by old.seat text) ≡ true = ap (λ (v : ClientView). is_some (entry_by v.seat text)) is ∙ some in
      makes_entered (made + 1) text answer old seat cause (ap (λ (n : ℕ). n + 1) stands.counted) open_then own_then
      (entered (made + 1) text answer old.seat seat open_then some_then reads) because

  pub stands_now : (text : SessionLine) (answer : Reply) (seat : SessionView) (cause : Cause) → HasRoomFor text view
      → is_ended seat.mine ≡ is_ended old.seat.mine
      → MakesEntry text answer old (record { seat = seat; owed = None; cause = cause })
      → IsClient stage setup share (made + 1) (record { seat = seat; owed = None; cause = cause })
  stands_now text answer seat cause room ended makes =
      let R : ClientView → Type 0 = HasRoomFor text in
      stands_entered stage setup share made old stands text answer seat cause (subst R (sym is) room) ended makes

  pub seen_from : (text : SessionLine) (answer : Reply) (new : ClientView) → MakesEntry text answer old new → MakesEntry text answer view new
  seen_from text answer new makes =
      let M : ClientView → Type 0 = λ v. MakesEntry text answer v new in
      subst M is makes

-- ---- what an answer needs of an option, a reply

pub none_owed : (owed : Option Call) → is_some owed ≡ false → owed ≡ None
none_owed None is = refl
none_owed (Some call) is = absurd (let wrong : true ≡ false = is in cc)

pub same_cause : (answer : Reply) (cause : Cause) → ((why : Cause) → answer ≡ Closed why.0 why.1 → ⊥) → cause ≡ cause_then answer cause
same_cause (Closed why reason) cause never = absurd (never (why, reason) refl)
same_cause _ cause never = refl
