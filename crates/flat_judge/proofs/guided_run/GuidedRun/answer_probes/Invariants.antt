use Rattle.std.proofs.Common.{◌≡◌, ℕ, true}
use Rattle.flat_rules.specs.Legal.{frames}
use Rattle.flat_judge.specs.GuidedRuns.{AreBehind, RunStands}
use Rattle.flat_judge.specs.Heeding.{AllHeed}
use Rattle.flat_judge.proofs.HeedingSteps.{HeedTo}
use Rattle.flat_judge.proofs.guided_run.GuidedRun.answer_probes.Given as goal

abbrev pub invariant-loop-probe : goal.invariant-loop-probe
invariant-loop-probe l =
    RunStands l.script l.self × (l.is_last ≡ true → AreBehind l.script l.probe l.self.places) × (l.self.place ≡ l.initial.self.place)
    × (l.self.seats ≡ l.initial.self.seats) × (l.self.screen.board ≡ l.initial.self.screen.board)
    × ((last : ℕ) → (l.is_last ≡ true → last ≡ frames l.initial.self.screen.board.history)
    → AllHeed l.script l.guide.seen.items last (frames l.initial.self.screen.board.history) l.initial.self.answers.items
    → HeedTo l.script l.guide.seen.items last (frames l.initial.self.screen.board.history) l.probe l.self.answers.items)
