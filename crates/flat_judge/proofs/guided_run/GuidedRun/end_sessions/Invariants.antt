use Rattle.std.proofs.Common.{◌≡◌}
use Rattle.flat_judge.specs.GuidedRuns.{Grown, HaveEnded, RunStands}
use Rattle.flat_judge.proofs.guided_run.GuidedRun.end_sessions.Given as goal

abbrev pub invariant-loop-k : goal.invariant-loop-k
invariant-loop-k l = RunStands l.script l.self × HaveEnded l.k l.self.seats.items × (l.self.place ≡ l.initial.self.place)
    × Grown l.initial.self.screen.board.history l.self.screen.board.history × (l.self.answers ≡ l.initial.self.answers)
