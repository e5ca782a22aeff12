use Rattle.std.proofs.Common.{◌≡◌, ◌≤◌}
use Rattle.flat_judge.specs.GuidedRuns.{Grown, RunStands}
use Rattle.flat_judge.proofs.guided_run.GuidedRun.end_display.Given as goal

abbrev pub invariant-loop : goal.invariant-loop
invariant-loop l = RunStands l.script l.self × (l.counter ≤ l.self.place) × Grown l.initial.self.screen.board.history l.self.screen.board.history
    × (l.self.answers ≡ l.initial.self.answers)
