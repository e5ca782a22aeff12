use Rattle.std.proofs.Common.{◌≡◌, ◌≤◌, false, Some, slice_get}
use Rattle.flat_judge.specs.declared.session_cursor.SessionCursor.{SessionCursor}
use Rattle.flat_judge.specs.GuidedRuns.{Grown, HaveEnded, RunStands}
use Rattle.flat_judge.proofs.guided_run.GuidedRun.end_session.Given as goal

abbrev pub invariant-loop : goal.invariant-loop
invariant-loop l =
    RunStands l.script l.self × HaveEnded l.k l.self.seats.items
    × ((seat : SessionCursor) → slice_get l.self.seats.items l.k ≡ Some seat → seat.has_ended ≡ false → l.counter ≤ seat.place)
    × (l.self.place ≡ l.initial.self.place) × Grown l.initial.self.screen.board.history l.self.screen.board.history × (l.self.answers ≡ l.initial.self.answers)
