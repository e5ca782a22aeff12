use Rattle.std.proofs.Common.{◌≡◌, ◌+◌, ◌≤◌, ℕ, suc, length}
use Rattle.flat_rules.specs.Legal.{frames}
use Rattle.flat_judge.specs.Following.{IsAlong}
use Rattle.flat_judge.specs.GuidedRuns.{RunStands}
use Rattle.flat_judge.specs.Heeding.{AllHeed, HeedsSo}
use Rattle.flat_judge.proofs.following.FollowedRun.follow.Given as goal

abbrev pub invariant-loop : goal.invariant-loop
invariant-loop l =
    RunStands l.script l.self.run × IsAlong l.script l.text l.self.run.screen.board.history l.self.along × (l.counter ≤ l.self.along.at)
    × (l.end ≡ length l.text + 1)
    × ((last : ℕ) → AllHeed l.script l.guide.seen.items last (suc (frames l.initial.self.run.screen.board.history)) l.initial.self.run.answers.items
    → HeedsSo l.script l.text l.guide.seen.items last l.self.run)
