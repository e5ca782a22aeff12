-- A seat between two calls.
use Rattle.std.proofs.Common.{◌≡◌, ℕ, List, [], refl, ap, ◌∙◌, Option, true, false}
use Rattle.atomic_table.specs.Table.{Me}
use Rattle.atomic_table.specs.Seated.{TableId}
use Rattle.flat_lock.specs.declared.view.View.{View}
use Rattle.flat_lock.specs.declared.view_parts.SeatAction.{SeatAction}
use Rattle.flat_lock.specs.declared.view_parts.SeatAction.TheVariants.{Idle, Waits, Holds, Note}
use Rattle.flat_lock.specs.Seats.{LockView, SeatView, BelongsAt, new_seat}
use Rattle.flat_lock.specs.Steps.{IsResting, dealing_view, split_off}
use Rattle.flat_lock.specs.Places.{has_turn, IsPoised, IsSeat, lock_seen, seat_view}

resting_at : {T : Type 0} (t : SeatAction) (slots : List (ℕ × Option T)) → IsPoised t slots → has_turn t ≡ false → (t ≡ Idle) × (slots ≡ [])
resting_at Idle slots poised none = (refl, poised)
resting_at (Waits n) slots poised none = absurd poised
resting_at (Holds n) slots poised none = absurd (let f : true ≡ false = none in cc)
resting_at Note slots poised none = absurd poised

abbrev M : Type 0 → Type 0 → Type 0 → Type 0
M T E F = Me (Option T) (View E F)

module _ {T E F : Type 0} where
  -- a seat that belongs at a place of this lock rests at the lock's table
  pub at_home : {place : ℕ} {m : M T E F} (table : TableId) (lock : LockView F) (i : ℕ) (s : SeatView E F) → IsSeat place m → seat_view table m.0 ≡ s
      → BelongsAt lock i s → (lock_seen table m.0 ≡ lock) × IsResting m
  at_home {place} {m} table lock i s seat view belongs = (
    ap (λ (z : SeatView E F). z.lock) view ∙ belongs.of_lock,
    resting_at m.0.turn m.1 seat.poised (ap (λ (z : SeatView E F). z.has_turn) view ∙ belongs.resting),
  )

  -- what is seen of the seat that the first one handed out
  pub split_view : (lock : LockView F) (table : TableId) (count place : ℕ) (old m : M T E F) → table ≡ lock.table → count ≡ lock.seats
      → old ≡ (dealing_view lock.fixed count place, []) → m ≡ (split_off old.0, [])
      → seat_view table m.0 ≡ new_seat lock place
  split_view lock table count place old m at counted was split =
      let whole : m.0 ≡ split_off (dealing_view lock.fixed lock.seats place) =
      ap (λ (z : M T E F). z.0) split ∙ (ap (λ (z : M T E F). split_off z.0) was
      ∙ ap (λ (n : ℕ). split_off (dealing_view {E = E} lock.fixed n place)) counted) in
      λ i. seat_view (at i) (whole i)

  -- and of the first one, when it has handed out the others
  pub first_view_is : (lock : LockView F) (table : TableId) (count next : ℕ) (m : M T E F) → table ≡ lock.table → count ≡ lock.seats
      → m ≡ (dealing_view lock.fixed count next, []) → seat_view table m.0 ≡ new_seat lock 0
  first_view_is lock table count next m at counted view =
      let whole : m.0 ≡ dealing_view lock.fixed lock.seats next =
      ap (λ (z : M T E F). z.0) view ∙ ap (λ (n : ℕ). dealing_view {E = E} lock.fixed n next) counted in
      λ i. seat_view (at i) (whole i)
