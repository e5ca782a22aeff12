-- What a contract sees of a lock, of a seat, and of the seats that are at home.
use Rattle.std.specs.Prelude.{◌≡◌, ℕ, ◌<◌, List, [], length, Bool, false, Option, Some, None, slice_get, slice_index_or}
use Rattle.std.specs.List.{list_all}
use Rattle.std.specs.Option.{is_some}
use Rattle.atomic_table.specs.Seated.{TableId}

-- Which lock it is, how many seats it has, and what stays the same in each value that it hands out.
-- Each lock and each seat that a caller has shows that part as Some; None is left for a seat that ended.
pub record LockView (F : Type 0) : Type 0 where
  pub table : TableId
  pub seats : ℕ
  pub fixed : Option F

-- the lock at this table, over this value
abbrev pub lock_view : {T F : Type 0} → (T → F) → TableId → T → ℕ → LockView F
lock_view fixed table value seats = record { table = table; seats = seats; fixed = Some (fixed value) }

-- The seat of one actor: the history that it has seen, the entries of its own actor in it, and whether it has the turn.
-- The actor's number is the seat's place.
pub record SeatView (E F : Type 0) : Type 0 where
  pub lock : LockView F
  pub actor : ℕ
  pub seen : List E
  pub mine : List E
  pub has_turn : Bool

-- the seats of a lock, each at its place; None where the seat is away
pub record SeatsView (E F : Type 0) : Type 0 where
  pub lock : LockView F
  pub seats : List (Option (SeatView E F))

module _ {E F : Type 0} where
  -- a seat that has seen nothing and made nothing
  abbrev pub new_seat : LockView F → ℕ → SeatView E F
  new_seat lock place = record { lock = lock; actor = place; seen = []; mine = []; has_turn = false }

  -- each seat of the lock is at home, and is new
  pub record AreNew (lock : LockView F) (seats : List (Option (SeatView E F))) : Type 0 where
    pub wide : length seats ≡ lock.seats
    pub each : (place : ℕ) → place < lock.seats → slice_get seats place ≡ Some (Some (new_seat lock place))

  -- the seat that is at home at a place: none where it is away, or where there is no such place
  abbrev pub seat_at : List (Option (SeatView E F)) → ℕ → Option (SeatView E F)
  seat_at seats place = slice_index_or seats place None

  -- no seat is away
  abbrev pub all_home : List (Option (SeatView E F)) → Bool
  all_home = list_all is_some

  -- the seat belongs at this place of the lock, and hasn't the turn
  pub record BelongsAt (lock : LockView F) (place : ℕ) (seat : SeatView E F) : Type 0 where
    pub of_lock : seat.lock ≡ lock
    pub numbered : seat.actor ≡ place
    pub resting : seat.has_turn ≡ false

  -- there is a place for each seat of the lock, and each seat at home is at its place
  pub record AreInOrder (lock : LockView F) (seats : List (Option (SeatView E F))) : Type 0 where
    pub wide : length seats ≡ lock.seats
    pub some_seat : 0 < lock.seats
    pub each : (place : ℕ) (seat : SeatView E F) → slice_get seats place ≡ Some (Some seat) → BelongsAt lock place seat
