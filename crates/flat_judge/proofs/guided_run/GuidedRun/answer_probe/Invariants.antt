use Rattle.std.proofs.Common.{◌≡◌, ◌≢◌, ℕ, true, Some, slice_get}
use Rattle.flat_rules.specs.Legal.{frames}
use Rattle.flat_judge.specs.GuidedRuns.{RunStands}
use Rattle.flat_judge.specs.Heeding.{Heeds}
use Rattle.flat_judge.proofs.guided_run.GuidedRun.answer_probe.Given as goal

abbrev pub invariant-loop : goal.invariant-loop
invariant-loop l =
    RunStands l.script l.self × (slice_get l.self.places l.probe ≡ Some l.counter)
    × ((n : ℕ) → n ≢ l.probe → slice_get l.self.places n ≡ slice_get l.initial.self.places n)
    × (l.self.place ≡ l.initial.self.place) × (l.self.seats ≡ l.initial.self.seats) × (l.self.screen.board ≡ l.initial.self.screen.board)
    × ((n : ℕ) → n ≢ l.probe → slice_get l.self.answers.items n ≡ slice_get l.initial.self.answers.items n)
    × ((last : ℕ) → (l.is_last ≡ true → last ≡ frames l.initial.self.screen.board.history)
    → Heeds l.script l.guide.seen.items last (frames l.initial.self.screen.board.history) l.probe l.initial.self.answers.items
    → Heeds l.script l.guide.seen.items last (frames l.initial.self.screen.board.history) l.probe l.self.answers.items)
