use Rattle.std.proofs.Common.{◌≡◌, ◌<◌, ◌++◌, length, drop}
use Rattle.flat_lock.specs.Steps.{IsSameSeat}
use Rattle.flat_lock.proofs.Dealing.{keeping}
use Rattle.flat_lock.proofs.deal.gather.Given as goal

abbrev pub invariant-loop-table : goal.invariant-loop-table
invariant-loop-table g l = record {
  same : IsSameSeat l.initial.keeper l.keeper;
  some_seat : 0 < length l.seats.items;
  left : l.initial.seats.items ≡ l.seats.items ++ drop (length l.seats.items) l.initial.seats.items;
  joined : l.keeper.me ≡ keeping l.initial.keeper.me (drop (length l.seats.items) l.initial.seats.items);
}

abbrev pub decreases-loop-table : goal.decreases-loop-table
decreases-loop-table g l = length l.seats.items
