-- What came of what is owed, and of a line behind it.
use Rattle.std.proofs.Common.{◌≡◌, ℕ, ◌+◌, ◌-◌, ◌<◌, ◌≤◌, Bool, true, false, cond, not, ◌&&◌, ◌||◌, List, [], ◌∷◌}
use Rattle.std.proofs.Common.{◌++◌, length, refl, sym, ap, ◌∙◌, subst, Option, Some, None, is_some, arith, Result, Ok}
use Rattle.std.proofs.Common.{Err, option_map, IsTrue, zero, suc}
use Rattle.std.proofs.lemmas.List.{append_assoc}
use Rattle.flat_base.specs.declared.ids.Actor.TheVariants.{Session}
use Rattle.flat_base.specs.declared.ids.SessionNo.{SessionNo}
use Rattle.flat_scene.specs.declared.calls.Call.{Call}
use Rattle.flat_scene.specs.declared.journal.Entry.{Entry}
use Rattle.flat_scene.specs.declared.journal.EntryKind.TheVariants as kinds
use Rattle.flat_scene.specs.declared.journal.Reply.{Reply}
use Rattle.flat_scene.specs.declared.journal.Reply.TheVariants.{Closed}
use Rattle.flat_scene.specs.declared.script.WaitCondition.{WaitCondition}
use Rattle.flat_scene.specs.declared.script.WaitCondition.TheVariants as asks
use Rattle.flat_scene.specs.declared.script.SessionLine.{SessionLine}
use Rattle.flat_scene.specs.declared.script.SessionLine.TheVariants as line
use Rattle.flat_scene.specs.declared.setup.Setup.{Setup}
use Rattle.flat_scene.specs.History.{closes}
use Rattle.flat_scene.specs.Setups.{is_declared}
use Rattle.flat_core.specs.Machines.{MayLook}
use Rattle.flat_rules.specs.Legal.{session_may}
use Rattle.flat_rules.specs.Owned.{is_played_condition}
use Rattle.flat_stage.specs.Readings.{entry_by}
use Rattle.flat_stage.specs.Seats.{SeesMore, SessionView}
use Rattle.flat_client.specs.declared.error.CallError.{CallError}
use Rattle.flat_client.specs.declared.error.CallError.TheVariants as error
use Rattle.flat_client.specs.Clients.{Cause, ClientView, Enters, HasLooked, HasRoomFor, IsClosedBy, IsFree}
use Rattle.flat_client.specs.Clients.{IsSettledBy, LooksOn, MakesEntry, Owes, Settles, Stays, Waits, due, is_answer}
use Rattle.flat_client.specs.Clients.{is_close, is_farewell, kept_back, may_say, misuse_now, room_of, setup_for}
use Rattle.flat_client.specs.Clients.{share_of}
use Rattle.flat_client.proofs.Standing.{owed_enters}

-- ---- the stage and the session stay

pub stays_made : (text : SessionLine) (answer : Reply) (old new : ClientView) → MakesEntry text answer old new → Stays old new
stays_made text answer old new makes = record {
  stage = ap (λ (v : SessionView). v.stage) makes.entry.rest;
  session =
      ap (λ (v : SessionView). v.session) makes.entry.rest;
}

pub stays_looking : (old new : ClientView) → LooksOn old new → Stays old new
stays_looking old new looks = record {
  stage = ap (λ (v : SessionView). v.stage) looks.sees.rest;
  session =
      ap (λ (v : SessionView). v.session) looks.sees.rest;
}

pub stays_same : (old new : ClientView) → new ≡ old → Stays old new
stays_same old new same = record { stage = ap (λ (v : ClientView). v.seat.stage) same; session = ap (λ (v : ClientView). v.seat.session) same }

-- ---- what is owed

pub owed_line : (text : SessionLine) (owed : Option Call) → Some text ≡ option_map line.Call owed → (call : Call) × (owed ≡ Some call) × (text ≡ line.Call call)
owed_line text None is = absurd (cc)
owed_line text (Some call) is = (call, refl, cc)

-- what `make` needs of it
pub record Sayable (text : SessionLine) (client : ClientView) : Type 0 where
  pub own : may_say client text ≡ true
  pub enters : is_some (entry_by client.seat text) ≡ true
  pub closes : is_close (entry_by client.seat text) ≡ true
  pub room : HasRoomFor text client

room_to_close : (close : Bool) (made share : ℕ) → close ≡ true → made + 2 ≤ share → made + cond close 2 3 ≤ share
room_to_close true made share is room = room
room_to_close false made share is room = absurd (let wrong : false ≡ true = is in cc)

pub sayable : (text : SessionLine) (client : ClientView) → Some text ≡ option_map line.Call client.owed → Owes client client.owed
    → length client.seat.mine + 2 ≤ share_of client.seat → Sayable text client
sayable text client is owes room =
    let found = owed_line text client.owed is in
    let O : Option Call → Type 0 = Owes client in
    let so : O (Some found.0) = subst O found.1 owes in
    let some = owed_enters client found.0 so.2 in
    let L : SessionLine → Type 0 = λ t. Sayable t client in
    let this : L (line.Call found.0) = record {
      own = so.1;
      enters = some.0;
      closes = some.1;
      room = room_to_close (is_close (entry_by client.seat (line.Call found.0))) (length client.seat.mine) (share_of client.seat) some.1 room;
    } in
    subst L (sym found.2) this

pub settled_by : (text : SessionLine) (cause : Cause) (old new : ClientView) → Some text ≡ option_map line.Call old.owed → old.seat.closed ≡ false
    → MakesEntry text (Closed cause.0 cause.1) old new → IsSettledBy cause old new old.seat.closed
settled_by text cause old new is opened makes =
    let found = owed_line text old.owed is in
    let S : Bool → Type 0 = IsSettledBy cause old new in
    let M : SessionLine → Type 0 = λ t. MakesEntry t (Closed cause.0 cause.1) old new in
    let said : M (line.Call found.0) = subst M found.2 makes in
    let this : S false = (found.0, found.1, said) in
    subst S (sym opened) this

settled_closed : (text : SessionLine) (cause : Cause) (old new : ClientView) (closed : Bool) → IsSettledBy cause old new closed
    → IsClosedBy text cause old new closed
settled_closed text cause old new true settled = settled
settled_closed text cause old new false settled =
    let M : Option Call → Type 0 = λ o. MakesEntry (due text o) (Closed cause.0 cause.1) old new in
    let said : M (Some settled.0) = settled.2 in
    subst M (sym settled.1) said

-- what keeps a client from saying what it owes keeps it from a line
pub settles_enters : (text : SessionLine) (old new : ClientView) (why : CallError) → Settles old new (Err why) → Enters text old new (Err why)
settles_enters text old new error.NoMemory settles = settles
settles_enters text old new error.NotOwned settles = absurd settles
settles_enters text old new error.Full settles = absurd settles
settles_enters text old new error.Misused settles = absurd settles
settles_enters text old new (error.Unmet value) settles = absurd settles
settles_enters text old new (error.Closed why reason) settles = settled_closed text (why, reason) old new old.seat.closed settles

-- and from a wait
pub settles_waits : (c : WaitCondition) (old new : ClientView) (why : CallError) → Settles old new (Err why) → Waits c old new (Err why)
settles_waits c old new error.NoMemory settles = settles
settles_waits c old new error.NotOwned settles = absurd settles
settles_waits c old new error.Full settles = absurd settles
settles_waits c old new error.Misused settles = absurd settles
settles_waits c old new (error.Unmet value) settles = absurd settles
settles_waits c old new (error.Closed why reason) settles = settles

stays_settled_by : (cause : Cause) (old new : ClientView) (closed : Bool) → IsSettledBy cause old new closed → Stays old new
stays_settled_by cause old new true settled = stays_same old new settled.1
stays_settled_by cause old new false settled = stays_made (line.Call settled.0) (Closed cause.0 cause.1) old new settled.2

pub stays_settled : (old new : ClientView) (answer : Result Unit CallError) → Settles old new answer → Stays old new
stays_settled old new (Ok done) settles = stays_same old new settles.1
stays_settled old new (Err error.NoMemory) settles = stays_looking old new settles.1
stays_settled old new (Err error.NotOwned) settles = absurd settles
stays_settled old new (Err error.Full) settles = absurd settles
stays_settled old new (Err error.Misused) settles = absurd settles
stays_settled old new (Err (error.Unmet value)) settles = absurd settles
stays_settled old new (Err (error.Closed why reason)) settles = stays_settled_by (why, reason) old new old.seat.closed settles

-- ---- a line, once nothing is owed

pub closed_by : (text : SessionLine) (cause : Cause) (old new : ClientView) → IsFree old → MakesEntry text (Closed cause.0 cause.1) old new
    → IsClosedBy text cause old new old.seat.closed
closed_by text cause old new free makes =
    let C : Bool → Type 0 = IsClosedBy text cause old new in
    let M : Option Call → Type 0 = λ o. MakesEntry (due text o) (Closed cause.0 cause.1) old new in
    let this : C false = subst M (sym free.nothing_owed) makes in
    subst C (sym free.opened) this

pub no_close : (answer : Reply) → ((why : Cause) → answer ≡ Closed why.0 why.1 → ⊥) → closes answer ≡ false
no_close (Closed why reason) never = absurd (never (why, reason) refl)
no_close _ never = refl

pub never_open : (answer : Reply) → closes answer ≡ true → ((why : Cause) → answer ≡ Closed why.0 why.1 → ⊥) → ⊥
never_open answer closed never = let wrong : true ≡ false = sym closed ∙ no_close answer never in cc

stays_open : (text : SessionLine) (answer : Reply) → is_answer text answer ≡ true → is_farewell text ≡ false
stays_open line.Disconnect answer sort = absurd (let wrong : false ≡ true = sort in cc)
stays_open _ answer sort = refl

some_room : (room : ℕ) (farewell : Bool) → ((room ≡ 0) → farewell ≡ false → ⊥) → farewell ≡ false → 0 < room
some_room zero farewell not_full opened = absurd (not_full refl opened)
some_room (suc room) farewell not_full opened = omega arith

-- a line was answered, so that there was room
pub had_room : (text : SessionLine) (answer : Reply) (room : ℕ) → is_answer text answer ≡ true → (room ≡ 0 → is_farewell text ≡ false → ⊥) → 0 < room
had_room text answer room sort not_full = some_room room (is_farewell text) not_full (stays_open text answer sort)

-- ---- looks

module _ (c : WaitCondition) (a b d : ClientView) where
  pub looks_more : (one other : ℕ) → HasLooked c one a b → HasLooked c other b d → HasLooked c other a d
  looks_more one other first then =
      let more : List Entry = first.looks.sees.longer.0 ++ then.looks.sees.longer.0 in
      let longer : d.seat.seen ≡ a.seat.seen ++ more =
      then.looks.sees.longer.1 ∙ ap (λ (es : List Entry). es ++ then.looks.sees.longer.0) first.looks.sees.longer.1
      ∙ append_assoc a.seat.seen first.looks.sees.longer.0 then.looks.sees.longer.0 in
      let same_seat : d.seat ≡ record a.seat { seen = d.seat.seen } =
      then.looks.sees.rest ∙ ap (λ (v : SessionView). let seen_then : SessionView = record v { seen = d.seat.seen } in seen_then) first.looks.sees.rest in
      let same : d ≡ record a { seat = d.seat } =
      then.looks.rest ∙ ap (λ (v : ClientView). let seat_then : ClientView = record v { seat = d.seat } in seat_then) first.looks.rest in
      let stage = ap (λ (v : SessionView). v.stage) first.looks.sees.rest in
      let session = ap (λ (v : SessionView). v.session) first.looks.sees.rest in
      record {
        own = first.own;
        value_then = rw (← stage, ← session) then.value_then;
        legal = rw (← stage) then.legal;
        looks = record { sees = record { longer = (more, longer); rest = same_seat }; rest = same };
      }

-- a session may look at what it may wait for
may_wait : (setup : Setup) (s : SessionNo) (c : WaitCondition) → is_played_condition setup s c ≡ true → session_may (kinds.Wait c) ≡ true
may_wait setup s (asks.Presents other n) own = absurd (let wrong : false ≡ true = own in cc)
may_wait setup s (asks.Frames n) own = refl
may_wait setup s (asks.Credits n) own = refl
may_wait setup s (asks.Taken n) own = refl
may_wait setup s (asks.Answers n) own = refl
may_wait setup s (asks.Fence f) own = refl

both_true : (a b : Bool) → a ≡ true → b ≡ true → (a && b) ≡ true
both_true true b first then = then
both_true false b first then = absurd (let wrong : false ≡ true = first in cc)

pub may_look : (setup : Setup) (s : SessionNo) (c : WaitCondition) → is_played_condition setup s c ≡ true → is_declared setup s ≡ true
    → MayLook setup (Session s) c
may_look setup s c own declared = record { acts = both_true (session_may (kinds.Wait c)) (is_declared setup s) (may_wait setup s c own) declared; named = refl }
