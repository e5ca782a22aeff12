use Rattle.std.proofs.Common.{◌≡◌, false}
use Rattle.flat_judge.specs.GuidedRuns.{IsAt}
use Rattle.flat_judge.proofs.session_cursor.SessionCursor.turn.Given as goal

abbrev pub invariant-loop : goal.invariant-loop
invariant-loop l = (l.self.place ≡ l.counter) × (l.self.has_ended ≡ false) × IsAt l.script l.s l.board.history l.self × (l.board ≡ l.initial.board)
