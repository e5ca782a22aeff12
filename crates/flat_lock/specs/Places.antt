-- What is true of a seat between two calls, and what it leaves when it ends.
use Rattle.std.specs.Prelude.{◌≡◌, ℕ, ◌<◌, ◌==◌, List, [], ◌∷◌, Bool, true, false, Option, Some, None}
use Rattle.atomic_table.specs.Table.{Me}
use Rattle.atomic_table.specs.Seated.{TableId}
use Rattle.flat_lock.specs.Seats.{LockView, SeatView}
use Rattle.flat_lock.specs.declared.view.View.{View}
use Rattle.flat_lock.specs.declared.view_parts.JoinedSeat.{JoinedSeat}
use Rattle.flat_lock.specs.declared.view_parts.SeatAction.{SeatAction}
use Rattle.flat_lock.specs.declared.view_parts.SeatAction.TheVariants.{Idle, Waits, Holds, Note}

-- whether the seat has the turn
abbrev pub has_turn : SeatAction → Bool
has_turn (Holds n) = true
has_turn _ = false

-- between two calls no seat waits, and the seat that has the turn has the empty slot
abbrev pub IsPoised : {T : Type 0} → SeatAction → List (ℕ × Option T) → Type 0
IsPoised Idle slots = slots ≡ []
IsPoised (Waits n) slots = ⊥
IsPoised (Holds n) slots = slots ≡ (0, None) ∷ []
IsPoised Note slots = ⊥

module _ {E F : Type 0} where
  -- the lock of a seat at this table
  abbrev pub lock_seen : TableId → View E F → LockView F
  lock_seen table v = record { table = table; seats = v.seats; fixed = v.fixed }

  -- what contracts see of a seat at this table
  abbrev pub seat_view : TableId → View E F → SeatView E F
  seat_view table v = record {
    lock = lock_seen table v;
    actor = v.actor;
    seen = v.seen;
    mine = v.mine;
    has_turn = has_turn v.turn;
  }

  -- what a seat leaves when it is joined into the first one
  abbrev pub left_by : Option (SeatView E F) → JoinedSeat E
  left_by None = record { marker = record {}; actor = 0; seen = []; mine = [] }
  left_by (Some s) = record { marker = record {}; actor = s.actor; seen = s.seen; mine = s.mine }

-- what is true of the seat at this place of its lock
pub record IsSeat {T E F : Type 0} (place : ℕ) (m : Me (Option T) (View E F)) : Type 0 where
  pub numbered : m.0.actor ≡ place
  pub within : place < m.0.seats
  pub leads : m.0.first ≡ (place == 0)
  pub whole : m.0.ended ≡ []
  pub poised : IsPoised m.0.turn m.1
