use Rattle.std.proofs.Common.{◌≡◌}
use Rattle.flat_judge.specs.GuidedRuns.{RunStands}
use Rattle.flat_judge.proofs.guided_run.GuidedRun.display_turn.Given as goal

abbrev pub invariant-loop : goal.invariant-loop
invariant-loop l = RunStands l.script l.self × (l.self.place ≡ l.counter) × (l.self.seats ≡ l.initial.self.seats)
    × (l.self.screen.board ≡ l.initial.self.screen.board) × (l.self.answers ≡ l.initial.self.answers)
