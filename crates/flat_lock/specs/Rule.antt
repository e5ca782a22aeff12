-- The rule of the table that a lock's threads share: what is true between any two steps.
-- Tickets are counted from 0 and never wrap here. The table's words have them modulo 2^64.
use Rattle.std.specs.Prelude.{◌≡◌, ◌≢◌, ◌⊎◌, ℕ, ◌+◌, ◌%◌, ◌^◌, ◌<◌, ◌≤◌, List, [], ◌∷◌, true, Option, Some}
use mathlib.Core.Option.{some, none}
use mathlib.Core.Option as maybe
use lib.ListN.{get_elem?}
use Rattle.atomic_table.specs.Table.{State}
use Rattle.flat_lock.specs.History.{StartsWith, entries_of}
use Rattle.flat_lock.specs.declared.view.View.{View}
use Rattle.flat_lock.specs.declared.view_parts.JoinedSeat.{JoinedSeat}
use Rattle.flat_lock.specs.declared.view_parts.SeatAction.{SeatAction}
use Rattle.flat_lock.specs.declared.view_parts.SeatAction.TheVariants.{Idle, Waits, Holds, Note}

-- how many tickets a seat has
abbrev pub tickets_in : SeatAction → ℕ
tickets_in Idle = 0
tickets_in (Waits n) = 1
tickets_in (Holds n) = 1
tickets_in Note = 0

-- whether it is an actor's seat, as a number
abbrev pub seats_in : SeatAction → ℕ
seats_in Idle = 1
seats_in (Waits n) = 1
seats_in (Holds n) = 1
seats_in Note = 0

-- how many there are of these in all views
abbrev pub total : {E F : Type 0} → (SeatAction → ℕ) → List (View E F) → ℕ
total count [] = 0
total count (v ∷ vs) = count v.turn + total count vs

-- a seat's ticket was drawn, by that seat, and is served or waits to be
abbrev pub HasTicket : ℕ → ℕ → (ℕ → ℕ) → ℕ → SeatAction → Type 0
HasTicket drawn served drawn_by seat Idle = Unit {0}
HasTicket drawn served drawn_by seat (Waits n) = (served ≤ n) × (n < drawn) × (drawn_by n ≡ seat)
HasTicket drawn served drawn_by seat (Holds n) = (n ≡ served) × (n < drawn) × (drawn_by n ≡ seat)
HasTicket drawn served drawn_by seat Note = Unit {0}

-- the seat that has the turn has seen the whole history
abbrev pub HasSeenAll : {E : Type 0} → List E → List E → SeatAction → Type 0
HasSeenAll log seen (Holds n) = seen ≡ log
HasSeenAll log seen _ = Unit {0}

-- it is an actor's seat, and no note
abbrev pub IsLive : SeatAction → Type 0
IsLive Note = ⊥
IsLive _ = Unit {0}

-- The actor of this number was handed out, the seat at the table owns it, and its entries are the list mine.
pub record OwnsActor {E : Type 0} (actor : E → ℕ) (log : List E) (handed_out : ℕ) (owner : ℕ → ℕ) (seat number : ℕ)
    (mine : List E) : Type 0 where
  pub made : mine ≡ entries_of actor number log
  pub known : number < handed_out
  pub owned : owner number ≡ seat

-- What the rule says of the seat of this number at the table, where the actors below handed_out were handed out.
-- Of a note it says only that the history begins with it.
pub record IsSound {E F : Type 0} (actor : E → ℕ) (constant : F) (seats : ℕ) (log : List E)
    (drawn served handed_out : ℕ) (drawn_by owner : ℕ → ℕ) (seat : ℕ) (v : View E F) : Type 0 where
  pub seen : StartsWith log v.seen
  pub noted : StartsWith log v.noted
  pub turn : HasTicket drawn served drawn_by seat v.turn
  pub seen_all : HasSeenAll log v.seen v.turn
  pub own : IsLive v.turn → OwnsActor actor log handed_out owner seat v.actor v.mine
  pub lock : IsLive v.turn → (v.fixed ≡ Some constant) × (v.seats ≡ seats)
  pub first : v.first ≡ true → (seat ≡ 0) × (v.handed_out ≡ handed_out)
  pub ended : (k : ℕ) (d : JoinedSeat E) → get_elem? v.ended k ≡ some d
      → OwnsActor actor log handed_out owner seat d.actor d.mine × (d.actor ≢ v.actor) × StartsWith log d.seen

module _ {T E F : Type 0} (history : T → List E) (actor : E → ℕ) (fixed : T → F) where
  -- the value at home has the whole history; where none is at home, a seat has the turn
  abbrev pub IsHomeOrHeld : F → List E → ℕ → List (View E F) → List (maybe.Option (Option T)) → Type 0
  IsHomeOrHeld constant log served views homes =
      ((x : T) × (homes ≡ some (Some x) ∷ []) × (history x ≡ log) × (fixed x ≡ constant))
      ⊎ ((homes ≡ none ∷ []) × ((holder : ℕ) × (v : View E F) × (get_elem? views holder ≡ some v)
      × (v.turn ≡ Holds served)))

  -- One history and one turn at a time. The log is all that was given so far.
  -- Each ticket was drawn by one seat, and as many seats have a ticket as tickets lie from the served one up to the
  -- next one to be drawn.
  -- Each seat that wasn't joined owns its actor, and the first seat also those of the seats that were joined into it;
  -- so no two own the same.
  -- An actor that wasn't handed out has no entry. There are no more seats than actors that were handed out;
  -- of notes there may be any number.
  pub record LockRule (s : State (Option T) (View E F)) : Type 0 where
    pub constant : F
    pub seats : ℕ
    pub log : List E
    pub drawn : ℕ
    pub served : ℕ
    pub handed_out : ℕ
    pub drawn_by : ℕ → ℕ
    pub owner : ℕ → ℕ
    pub words_are : s.words ≡ drawn % 2 ^ 64 ∷ served % 2 ^ 64 ∷ []
    pub queue : total tickets_in s.views + served ≡ drawn
    pub few_live : total seats_in s.views ≤ handed_out
    pub few_handed_out : handed_out ≤ seats
    pub few_seats : seats < 2 ^ 32
    pub home : IsHomeOrHeld constant log served s.views s.homes
    pub each_seat : (seat : ℕ) (v : View E F) → get_elem? s.views seat ≡ some v
        → IsSound actor constant seats log drawn served handed_out drawn_by owner seat v
    pub others : (a : ℕ) → handed_out ≤ a → entries_of actor a log ≡ []
