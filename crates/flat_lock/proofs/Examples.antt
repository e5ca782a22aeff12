-- Small examples of the definitions. An entry is its actor's number and a number of its own.
use Rattle.std.proofs.Common.{◌≡◌, ℕ, List, [], ◌∷◌, Option, Some, None, false, refl, arith, zero, suc}
use Rattle.flat_lock.specs.History.{StartsWith, entries_of, GoesOn}
use Rattle.flat_lock.specs.Seats.{LockView, SeatView, new_seat, seat_at, all_home}
use Rattle.flat_lock.specs.Steps.{first_view, waiting, note, told}
use Rattle.flat_lock.specs.declared.view.View.{View}
use Rattle.flat_lock.specs.Rule.{tickets_in, seats_in, total}
use Rattle.flat_lock.specs.declared.view_parts.SeatAction.TheVariants.{Idle, Waits, Note}

abbrev Entry : Type 0
Entry = ℕ × ℕ

abbrev actor : Entry → ℕ
actor e = e.0

abbrev three : List Entry
three = (0, 7) ∷ (1, 8) ∷ (0, 9) ∷ []

-- an actor's entries are in order, and one that made none has none
of_first : entries_of actor 0 three ≡ (0, 7) ∷ (0, 9) ∷ []
of_first = refl

of_second : entries_of actor 1 three ≡ (1, 8) ∷ []
of_second = refl

of_nobody : entries_of actor 2 three ≡ []
of_nobody = refl

-- a history begins with its first entry, and goes on from its first two by an entry of actor 0
begins : StartsWith three ((0, 7) ∷ [])
begins = ((1, 8) ∷ (0, 9) ∷ [], refl)

goes_on : GoesOn actor 0 ((0, 7) ∷ (1, 8) ∷ []) three
goes_on = ((0, 9) ∷ [], refl, elim [ zero ↦ λ d l. refl | suc k ↦ λ d l. absurd (omega arith) ])

module _ (lock : LockView ℕ) where
  abbrev seats : List (Option (SeatView Entry ℕ))
  seats = Some (new_seat lock 0) ∷ None ∷ []

  -- a seat at home, one that is away, and no such place
  at_home : seat_at seats 0 ≡ Some (new_seat lock 0)
  at_home = refl

  away : seat_at seats 1 ≡ None
  away = refl

  beyond : seat_at seats 2 ≡ None
  beyond = refl

  not_all : all_home seats ≡ false
  not_all = refl

-- a seat has a ticket from its draw until its turn is over
waits : tickets_in (Waits 5) ≡ 1
waits = refl

rests : tickets_in Idle ≡ 0
rests = refl

-- a seat that waits, and a note: one ticket and one seat
abbrev views : List (View Entry ℕ)
views = waiting 5 (first_view (Some 1) 2) ∷ note three ∷ []

one_ticket : total tickets_in views ≡ 1
one_ticket = refl

one_seat : total seats_in views ≡ 1
one_seat = refl

no_seat : seats_in Note ≡ 0
no_seat = refl

-- a seat that was told by a note knows its history, and has seen what it had seen
module _ (seat : View Entry ℕ) where
  knows : (told seat (note three)).noted ≡ three
  knows = refl

  saw : (told seat (note three)).seen ≡ seat.seen
  saw = refl
