-- What each step makes of a view, and what it tells the seat that makes it.
use Rattle.std.specs.Prelude.{◌≡◌, ◌≢◌, ℕ, ◌+◌, ◌%◌, ◌^◌, ◌<◌, List, [], ◌∷◌, ◌++◌, length, true, false, Option, Some}
use Rattle.std.specs.Prelude.{None, drop, All}
use Rattle.atomic_table.specs.Table.{Me, Step}
use Rattle.atomic_table.specs.Seated.{TableId}
use Rattle.atomic_table.specs.declared.shared.Seat.{Seat}
use Rattle.flat_lock.specs.History.{StartsWith, entries_of}
use Rattle.flat_lock.specs.declared.view.View.{View}
use Rattle.flat_lock.specs.declared.view_parts.JoinedSeat.{JoinedSeat}
use Rattle.flat_lock.specs.declared.view_parts.SeatAction.TheVariants.{Idle, Waits, Holds, Note}

-- the table has two words and one slot
abbrev pub IsShaped : TableId → Type 0
IsShaped table = (table.words ≡ 2) × (table.slots ≡ 1)

module _ {S E F : Type 0} where
  -- it is still the same seat of the same table
  abbrev pub IsSameSeat : Seat S (View E F) → Seat S (View E F) → Type 0
  IsSameSeat old new = (new.table_id ≡ old.table_id) × (new.id ≡ old.id)

module _ {E F : Type 0} where
  -- the first seat of a lock with so many seats
  abbrev pub first_view : Option F → ℕ → View E F
  first_view constant seats = record {
    marker = record {};
    seats = seats;
    fixed = constant;
    seen = [];
    noted = [];
    mine = [];
    actor = 0;
    turn = Idle;
    first = true;
    handed_out = 1;
    ended = [];
  }

  -- the same, when it has handed out the actors below this number
  abbrev pub dealing_view : Option F → ℕ → ℕ → View E F
  dealing_view constant seats next = record (first_view constant seats) { handed_out = next }

  -- it drew this ticket
  abbrev pub waiting : ℕ → View E F → View E F
  waiting ticket v = record v { turn = Waits ticket }

  -- its ticket is served, and it has seen the history
  abbrev pub entering : ℕ → List E → View E F → View E F
  entering ticket history v = record v { seen = history; turn = Holds ticket }

  -- it has given a value with this history back
  abbrev pub giving : List E → View E F → View E F
  giving history v = record v { seen = history; mine = v.mine ++ drop (length v.seen) history; turn = Idle }

  -- it has handed out the next actor
  abbrev pub splitting : View E F → View E F
  splitting v = record v { handed_out = v.handed_out + 1 }

  -- the seat of the actor that is handed out
  abbrev pub split_off : View E F → View E F
  split_off v = record {
    marker = record {};
    seats = v.seats;
    fixed = v.fixed;
    seen = v.seen;
    noted = [];
    mine = [];
    actor = v.handed_out;
    turn = Idle;
    first = false;
    handed_out = 0;
    ended = [];
  }

  -- what is left of a seat that is joined
  abbrev pub ended_view : View E F → JoinedSeat E
  ended_view w = record { marker = record {}; actor = w.actor; seen = w.seen; mine = w.mine }

  -- it keeps what the joined seat knew
  abbrev pub joining : View E F → View E F → View E F
  joining v w = record v { ended = ended_view w ∷ v.ended }

  -- a note of this history
  abbrev pub note : List E → View E F
  note history = record {
    marker = record {};
    seats = 0;
    fixed = None;
    seen = history;
    noted = [];
    mine = [];
    actor = 0;
    turn = Note;
    first = false;
    handed_out = 0;
    ended = [];
  }

  -- what is left of a seat, or of a note, that was joined into a seat
  abbrev pub spent : View E F
  spent = note []

  -- a seat that makes a note stays as it is
  abbrev pub noting : View E F → View E F
  noting v = v

  -- the note of what a seat has seen
  abbrev pub note_of : View E F → View E F
  note_of v = note v.seen

  -- it was told this history
  abbrev pub knowing : List E → View E F → View E F
  knowing history v = record v { noted = history }

  -- it was told by a note
  abbrev pub told : View E F → View E F → View E F
  told v w = knowing w.seen v

  -- it has seen the history
  abbrev pub seeing : List E → View E F → View E F
  seeing history v = record v { seen = history }

module _ {S E F : Type 0} where
  -- where the word had the number that was asked for, the seat has the ticket of that number; else nothing changes
  abbrev pub DrawsTicket : Step S → Me S (View E F) → ℕ → Me S (View E F) → Type 0
  DrawsTicket step old found new =
      (found ≡ step.first → (ticket : ℕ) × (ticket % 2 ^ 64 ≡ found) × (new ≡ (waiting ticket old.0, old.1)))
      × (found ≢ step.first → new ≡ old)

  -- the seat has no ticket
  abbrev pub IsResting : Me S (View E F) → Type 0
  IsResting m = (m.0.turn ≡ Idle) × (m.1 ≡ [])

  -- the seat waits with a ticket of this remainder
  abbrev pub IsWaiting : ℕ → Me S (View E F) → Type 0
  IsWaiting remainder m = (ticket : ℕ) × (ticket % 2 ^ 64 ≡ remainder) × (m.0.turn ≡ Waits ticket) × (m.1 ≡ [])

  -- a resting seat has drawn such a ticket
  abbrev pub HasDrawn : ℕ → Me S (View E F) → Me S (View E F) → Type 0
  HasDrawn remainder old new = (ticket : ℕ) × (ticket % 2 ^ 64 ≡ remainder) × (new ≡ (waiting ticket old.0, []))

module _ {E F : Type 0} where
  -- What a seat learns of the history, at the value when its ticket is served or at a look, and of the unchanging part:
  -- it begins with all that the seat had seen, the seat's entries in it are its own list, and each entry is of one of
  -- the lock's seats.
  pub record Learns (actor : E → ℕ) (v : View E F) (history : List E) (constant : F) : Type 0 where
    pub longer : StartsWith history v.seen
    pub own : v.mine ≡ entries_of actor v.actor history
    pub others : All (λ e. actor e < v.seats) history
    pub fixed : v.fixed ≡ Some constant

module _ {S E F : Type 0} (actor : E → ℕ) where
  -- the seat has seen all that was given so far, which begins with what it was told
  abbrev pub HasHeard : Me S (View E F) → Me S (View E F) → Type 0
  HasHeard old new = (history : List E) × (constant : F) × (new ≡ (seeing history old.0, old.1))
      × StartsWith history old.0.noted × Learns actor old.0 history constant

  -- the same for a seat that was then told this history
  abbrev pub HasBeenTold : List E → Me S (View E F) → Me S (View E F) → Type 0
  HasBeenTold part old new = HasHeard (knowing part old.0, old.1) new

  -- a seat hears, whatever it finds in the word
  abbrev pub Hears : Step S → Me S (View E F) → ℕ → Me S (View E F) → Type 0
  Hears step old found new = HasHeard old new

module _ {T E F : Type 0} (history : T → List E) (actor : E → ℕ) (fixed : T → F) where
  -- where the seat's ticket is served, it has the value in the slot; else nothing changes
  abbrev pub ReadsServing : Step (Option T) → Me (Option T) (View E F) → ℕ → Me (Option T) (View E F) → Type 0
  ReadsServing step old found new = (ticket : ℕ) → old.0.turn ≡ Waits ticket
      → (found ≡ ticket % 2 ^ 64 → (x : T) × (new ≡ (entering ticket (history x) old.0, (0, Some x) ∷ old.1))
      × Learns actor old.0 (history x) (fixed x))
      × (found ≢ ticket % 2 ^ 64 → new ≡ old)

  -- the seat has the turn, and the value in the slot
  abbrev pub HasEntered : Me (Option T) (View E F) → Me (Option T) (View E F) → Type 0
  HasEntered old new = (ticket : ℕ) × (x : T) × (new ≡ (entering ticket (history x) old.0, (0, Some x) ∷ []))
      × Learns actor old.0 (history x) (fixed x)

  -- the seat has the turn, and has taken the value out of the slot
  abbrev pub HasTaken : Me (Option T) (View E F) → T → Me (Option T) (View E F) → Type 0
  HasTaken old x new = (ticket : ℕ) × (new ≡ (entering ticket (history x) old.0, (0, None) ∷ []))
      × Learns actor old.0 (history x) (fixed x)

module _ {S E F : Type 0} where
  -- the turn is over, and the seat's list has all the entries of its actor in this history
  abbrev pub HasLeft : (E → ℕ) → List E → Me S (View E F) → Me S (View E F) → Type 0
  HasLeft actor history old new = (new ≡ (giving history old.0, []))
      × (new.0.mine ≡ entries_of actor old.0.actor history)

module _ {T E F : Type 0} (history : T → List E) (actor : E → ℕ) where
  -- the turn of a seat that has put a value into the slot is over
  abbrev pub ServesNext : Step (Option T) → Me (Option T) (View E F) → ℕ → Me (Option T) (View E F) → Type 0
  ServesNext step old found new = (x : T) → old.1 ≡ (0, Some x) ∷ [] → HasLeft actor (history x) old new

module _ {T E F : Type 0} where
  -- the seat has the turn, and its slot is empty
  abbrev pub HasTurn : Me (Option T) (View E F) → Type 0
  HasTurn m = (ticket : ℕ) × (m.0.turn ≡ Holds ticket) × (m.1 ≡ (0, None) ∷ [])
