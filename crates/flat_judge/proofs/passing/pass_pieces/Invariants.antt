use Rattle.std.proofs.Common.{◌≤◌, ◌++◌, ℕ, List, length, map, take}
use Rattle.std.specs.Arc.{arc_value}
use Rattle.std.specs.List.{concat}
use Rattle.flat_judge.specs.Following.{Begins}
use Rattle.flat_judge.proofs.passing.pass_pieces.Given as goal

abbrev pub invariant-loop-run : goal.invariant-loop-run
invariant-loop-run l =
    (l.reached ≤ length l.text) × ((before : List ℕ) → Begins l.text before l.at
    → Begins l.text (before ++ concat (take l.run-index (map arc_value l.runs))) l.reached)
