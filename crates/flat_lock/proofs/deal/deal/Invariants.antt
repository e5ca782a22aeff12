use Rattle.std.proofs.Common.{◌≡◌, ◌<◌, ℕ, [], length, Some}
use Rattle.std.specs.Prelude.{slice_get}
use Rattle.flat_lock.specs.Seats.{new_seat}
use Rattle.flat_lock.specs.Steps.{dealing_view}
use Rattle.flat_lock.proofs.deal.deal.Given as goal

abbrev pub invariant-loop-place : goal.invariant-loop-place
invariant-loop-place g l = record {
  same : l.first.table_id ≡ l.initial.first.table_id;
  view : l.first.me ≡ (dealing_view l.lock.fixed l.count l.place, []);
  long : length l.seats.items ≡ l.place;
  made : (i : ℕ) → 0 < i → i < l.place → slice_get l.seats.items i ≡ Some (Some (new_seat l.lock i));
}
