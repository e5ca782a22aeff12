use Rattle.std.proofs.Common.{◌≡◌, ◌++◌, drop, take, filter, map}
use Rattle.std.specs.List.{All}
use Rattle.flat_why.specs.Reasons.{is_waiting, waiting_of}
use Rattle.flat_why.specs.Noted.{IsKnown}
use Rattle.flat_why.proofs.reason_tracker.ReasonTracker.note_waits.Given as goal

abbrev pub invariant-loop : goal.invariant-loop
invariant-loop l = record {
  rest : l.self ≡ record l.fn.self { dues = l.self.dues; waits = l.self.waits };
  known : All (IsKnown l.board.setup) l.self.dues.items;
  dues : l.self.dues.items ≡ drop l.counter l.fn.self.dues.items ++ filter (is_waiting l.board.setup l.board.history) (take l.counter l.fn.self.dues.items);
  waits : l.self.waits.items ≡ map (waiting_of l.board.setup l.board.history)
      (filter (is_waiting l.board.setup l.board.history) (take l.counter l.fn.self.dues.items));
}
