-- What contracts see of a client, and what came of each of its calls.
use Rattle.std.specs.Prelude.{◌≡◌, ℕ, ◌+◌, ◌-◌, ◌<◌, ◌≤◌, Bool, true, false, cond, List, [], ◌∷◌, ◌++◌, length, Option}
use Rattle.std.specs.Prelude.{Some, None, Result, Ok, Err, is_some, slice_index}
use Rattle.flat_base.specs.declared.errors.FlatlandError.{FlatlandError}
use Rattle.flat_base.specs.declared.errors.Reason.{Reason}
use Rattle.flat_base.specs.declared.ids.Actor.TheVariants.{Session}
use Rattle.flat_scene.specs.declared.calls.Call.{Call}
use Rattle.flat_scene.specs.declared.journal.Event.{Event}
use Rattle.flat_scene.specs.declared.journal.EntryKind.{EntryKind}
use Rattle.flat_scene.specs.declared.journal.EntryKind.TheVariants.{Close}
use Rattle.flat_scene.specs.declared.journal.Reply.{Reply}
use Rattle.flat_scene.specs.declared.journal.Reply.TheVariants.{Done, Presented, Held, Now, Polled, Met, Closed}
use Rattle.flat_scene.specs.declared.journal.Reply.TheVariants as reply
use Rattle.flat_scene.specs.declared.journal.WatcherValue.{WatcherValue}
use Rattle.flat_scene.specs.declared.script.WaitCondition.{WaitCondition}
use Rattle.flat_scene.specs.declared.script.SessionLine.{SessionLine}
use Rattle.flat_scene.specs.declared.script.SessionLine.TheVariants as line
use Rattle.flat_scene.specs.declared.setup.Setup.{Setup}
use Rattle.flat_scene.specs.Draft.{Draft}
use Rattle.flat_scene.specs.History.{closes}
use Rattle.flat_scene.specs.Interleave.{calls_of_line, entry_of_call}
use Rattle.flat_scene.specs.Journals.{history_of}
use Rattle.flat_scene.specs.Misuse.{misuse}
use Rattle.flat_rules.specs.Legal.{asked_of, value_of, Legal}
use Rattle.flat_rules.specs.Owned.{is_played_condition, is_played_line}
use Rattle.flat_session.specs.Reads.{draft_so_far}
use Rattle.flat_stage.specs.Readings.{entry_by}
use Rattle.flat_stage.specs.Seats.{SessionView, StageView, SeesMore, SessionEnds, SessionEnters, is_ended, setup_of}
use Rattle.flat_stage.specs.Seats.{shares_of}
use Rattle.flat_client.specs.declared.error.CallError.{CallError}
use Rattle.flat_client.specs.declared.error.CallError.TheVariants as error

-- the error and the reason with which a session was closed
abbrev pub Cause : Type 0
Cause = Option FlatlandError × Option Reason

-- A client: the seat of its session, the misuse that its next entry has to say, and by what it was closed.
pub record ClientView : Type 0 where
  pub seat : SessionView
  pub owed : Option Call
  pub cause : Cause

-- the client of a seat that read no line
abbrev pub new_client : SessionView → ClientView
new_client seat = record { seat = seat; owed = None; cause = (None, None) }

-- ---- what a client may do

abbrev pub setup_for : ClientView → Setup
setup_for client = setup_of client.seat.stage

-- the draft of all its calls so far, those that wait among them
abbrev pub draft_now : ClientView → Draft
draft_now client = draft_so_far (setup_for client) (history_of client.seat.mine) client.seat.pending

-- why a call would be a misuse now, if it would
abbrev pub misuse_now : ClientView → Call → Option Reason
misuse_now client call = misuse (setup_for client) (draft_now client) call

-- a line names only what the session owns
abbrev pub may_say : ClientView → SessionLine → Bool
may_say client text = is_played_line (setup_for client) client.seat.session text

-- how many entries its session may make in all
abbrev pub share_of : SessionView → ℕ
share_of seat = slice_index (shares_of seat.stage) seat.session.0

-- the entries that are kept for what must be said: a close and the End, or after a close the End
abbrev pub kept_back : Bool → ℕ
kept_back closed = cond closed 1 2

-- how many entries it may still make beside those
abbrev pub room_of : ClientView → ℕ
room_of client = cond client.seat.closed 0 (share_of client.seat - length client.seat.mine - 2)

-- What is owed is a misuse of an open session.
abbrev pub Owes : ClientView → Option Call → Type 0
Owes client None = Unit {0}
Owes client (Some call) =
    (client.seat.closed ≡ false) × (may_say client (line.Call call) ≡ true) × (is_some (misuse_now client call) ≡ true)

-- What a client keeps of its stage, its setup and its share, and how it stands between two calls.
pub record IsClient (stage : StageView) (setup : Setup) (share made : ℕ) (client : ClientView) : Type 0 where
  pub own : stage ≡ client.seat.stage
  pub declared : setup ≡ setup_for client
  pub shared : share ≡ share_of client.seat
  pub counted : made ≡ length client.seat.mine
  pub unended : is_ended client.seat.mine ≡ false
  pub none_refused : client.seat.refused ≡ 0
  pub room : made + kept_back client.seat.closed ≤ share
  pub owes : Owes client client.owed

-- A client is open and owes nothing.
pub record IsFree (client : ClientView) : Type 0 where
  pub opened : client.seat.closed ≡ false
  pub nothing_owed : client.owed ≡ None

-- the stage and the session stay the same
pub record Stays (old new : ClientView) : Type 0 where
  pub stage : new.seat.stage ≡ old.seat.stage
  pub session : new.seat.session ≡ old.seat.session

-- it may have seen more, and is else as it was
pub record LooksOn (old new : ClientView) : Type 0 where
  pub sees : SeesMore old.seat new.seat
  pub rest : new ≡ record old { seat = new.seat }

-- ---- a private call

-- A call waits behind those that wait already: the session may make it, and it is no misuse.
pub record IsWaiting (call : Call) (old new : ClientView) : Type 0 where
  pub free : IsFree old
  pub own : may_say old (line.Call call) ≡ true
  pub right : misuse_now old call ≡ None
  pub waits : new ≡ record old { seat = record old.seat { pending = old.seat.pending ++ call ∷ [] } }

-- A call is a misuse, and is owed now; or else another one is owed already, and nothing changed.
abbrev pub IsMisused : Call → ClientView → ClientView → Option Call → Type 0
IsMisused call old new None =
    (old.seat.closed ≡ false) × (may_say old (line.Call call) ≡ true) × (is_some (misuse_now old call) ≡ true)
    × (new ≡ record old { owed = Some call })
IsMisused call old new (Some other) = (old.seat.closed ≡ false) × (new ≡ old)

-- What came of a private call.
abbrev pub Answers : Call → ClientView → ClientView → Result Unit CallError → Type 0
Answers call old new (Ok done) = IsWaiting call old new
Answers call old new (Err error.NoMemory) = IsFree old × (may_say old (line.Call call) ≡ true) × (new ≡ old)
Answers call old new (Err error.NotOwned) = IsFree old × (may_say old (line.Call call) ≡ false) × (new ≡ old)
Answers call old new (Err error.Full) = ⊥
Answers call old new (Err error.Misused) = IsMisused call old new old.owed
Answers call old new (Err (error.Unmet value)) = ⊥
Answers call old new (Err (error.Closed why reason)) =
    (old.seat.closed ≡ true) × (old.cause ≡ (why, reason)) × (new ≡ old)

-- ---- an entry

-- the call that a line is
abbrev pub call_of : SessionLine → Option Call
call_of (line.Call call) = Some call
call_of _ = None

-- a line that makes an entry of each open session: all but a private call
abbrev pub makes_entry : SessionLine → Bool
makes_entry (line.Call call) = is_some (entry_of_call call)
makes_entry _ = true

-- the line by which a session closes of its own wish
abbrev pub is_farewell : SessionLine → Bool
is_farewell line.Disconnect = true
is_farewell _ = false

-- the cause after a reply
abbrev pub cause_then : Reply → Cause → Cause
cause_then (Closed why reason) cause = (why, reason)
cause_then _ cause = cause

-- an entry that closes its session for sure
abbrev pub is_close : Option EntryKind → Bool
is_close (Some (Close why)) = true
is_close _ = false

-- there is room for a line's entry, beside what must still be said after it
abbrev pub HasRoomFor : SessionLine → ClientView → Type 0
HasRoomFor text client =
    length client.seat.mine + cond (is_close (entry_by client.seat text)) 2 3 ≤ share_of client.seat

-- An open client made the entry of a line, as the rules say: with all calls that waited, at a point of one legal
-- history. It owes nothing any more.
pub record MakesEntry (text : SessionLine) (reply : Reply) (old new : ClientView) : Type 0 where
  pub opened : old.seat.closed ≡ false
  pub own : may_say old text ≡ true
  pub kind : EntryKind
  pub of_line : entry_by old.seat text ≡ Some kind
  pub entry : SessionEnters (length old.seat.mine + 1) (old.seat.pending ++ calls_of_line text) kind reply
      old.seat new.seat
  pub settled : new.owed ≡ None
  pub because : new.cause ≡ cause_then reply old.cause

-- the line whose entry comes next: that of the misuse that is owed, or else the one at hand
abbrev pub due : SessionLine → Option Call → SessionLine
due text (Some call) = line.Call call
due text None = text

-- A client is closed: it was so before, and nothing changed, or the entry that came next closed it.
abbrev pub IsClosedBy : SessionLine → Cause → ClientView → ClientView → Bool → Type 0
IsClosedBy text cause old new true = (old.cause ≡ cause) × (new ≡ old)
IsClosedBy text cause old new false = MakesEntry (due text old.owed) (Closed cause.0 cause.1) old new

-- What came of a line that makes an entry.
abbrev pub Enters : SessionLine → ClientView → ClientView → Result Reply CallError → Type 0
Enters text old new (Ok answer) =
    IsFree old × (0 < room_of old) × (closes answer ≡ false) × MakesEntry text answer old new
Enters text old new (Err error.NoMemory) = (old.seat.closed ≡ false) × LooksOn old new
Enters text old new (Err error.NotOwned) = IsFree old × (may_say old text ≡ false) × (new ≡ old)
Enters text old new (Err error.Full) =
    IsFree old × (may_say old text ≡ true) × (is_farewell text ≡ false) × (room_of old ≡ 0) × (new ≡ old)
Enters text old new (Err error.Misused) = ⊥
Enters text old new (Err (error.Unmet value)) = ⊥
Enters text old new (Err (error.Closed why reason)) = IsClosedBy text (why, reason) old new old.seat.closed

-- the reply that a result stands for
abbrev pub replied : {A : Type 0} → (A → Reply) → Result A CallError → Result Reply CallError
replied reply_for (Ok answer) = Ok (reply_for answer)
replied reply_for (Err why) = Err why

-- a get is held, or told a value at once
abbrev pub reply_told : Option WatcherValue → Reply
reply_told None = Held
reply_told (Some told) = Now told

-- whether a reply that doesn't close is one to this line
abbrev pub is_answer : SessionLine → Reply → Bool
is_answer (line.Call call) Done = true
is_answer (line.Present args) (Presented number credits) = true
is_answer (line.Get get) Held = true
is_answer (line.Get get) (Now told) = true
is_answer (line.Signal f) Done = true
is_answer line.Poll (Polled count) = true
is_answer (line.Wait c) (Met value) = true
is_answer (line.Wait c) (reply.Unmet value) = true
is_answer _ _ = false

-- ---- what is owed, polls, waits, the end

-- A closed client hands out its cause; an open one owed a misuse, whose entry closed it.
abbrev pub IsSettledBy : Cause → ClientView → ClientView → Bool → Type 0
IsSettledBy cause old new true = (old.cause ≡ cause) × (new ≡ old)
IsSettledBy cause old new false =
    (call : Call) × (old.owed ≡ Some call) × MakesEntry (line.Call call) (Closed cause.0 cause.1) old new

-- What came of saying what is owed: nothing was, or the client is closed.
abbrev pub Settles : ClientView → ClientView → Result Unit CallError → Type 0
Settles old new (Ok done) = IsFree old × (new ≡ old)
Settles old new (Err error.NoMemory) = (old.seat.closed ≡ false) × LooksOn old new
Settles old new (Err (error.Closed why reason)) = IsSettledBy (why, reason) old new old.seat.closed
Settles old new (Err _) = ⊥

-- What came of a poll: the events that it hands over are out of the client's hands.
abbrev pub Polls : ClientView → ClientView → Result (List Event) CallError → Type 0
Polls old new (Ok events) =
    (new.seat.events ≡ [])
    × ((count : ℕ)
    × Enters line.Poll old (record new { seat = record new.seat { events = events } }) (Ok (Polled count)))
Polls old new (Err why) = Enters line.Poll old new (Err why)

-- What came of a disconnect.
abbrev pub Disconnects : ClientView → ClientView → Result Unit CallError → Type 0
Disconnects old new (Ok done) = IsFree old × MakesEntry line.Disconnect (Closed None None) old new
Disconnects old new (Err why) = Enters line.Disconnect old new (Err why)

-- A client looked at a condition, and had that value, at a point of a legal history that begins with all that it had
-- seen.
pub record HasLooked (c : WaitCondition) (value : ℕ) (old new : ClientView) : Type 0 where
  pub own : is_played_condition (setup_for old) old.seat.session c ≡ true
  pub value_then : value ≡ value_of (setup_for old) (history_of new.seat.seen) (Session old.seat.session) c
  pub legal : Legal (setup_for old) (history_of new.seat.seen)
  pub looks : LooksOn old new

-- What came of a wait.
abbrev pub Waits : WaitCondition → ClientView → ClientView → Result ℕ CallError → Type 0
Waits c old new (Ok value) = IsFree old × HasLooked c value old new × (asked_of c ≤ value)
Waits c old new (Err (error.Unmet value)) = IsFree old × HasLooked c value old new × (value < asked_of c)
Waits c old new (Err error.NotOwned) =
    IsFree old × (is_played_condition (setup_for old) old.seat.session c ≡ false) × (new ≡ old)
Waits c old new (Err why) = Settles old new (Err why)

-- A client's session is ended: what it owed was said first, unless memory ran out.
pub record Ends (old : ClientView) (seat : SessionView) : Type 0 where
  pub settled : ClientView
  pub answer : Result Unit CallError
  pub settles : Settles old settled answer
  pub ends : SessionEnds (length settled.seat.mine + 1) settled.seat seat
  pub stage : seat.stage ≡ old.seat.stage
  pub session : seat.session ≡ old.seat.session
