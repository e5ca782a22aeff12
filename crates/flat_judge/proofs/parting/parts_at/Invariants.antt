use Rattle.std.proofs.Common.{◌≡◌, ◌≤◌, ◌+◌, length, drop, map}
use Rattle.std.specs.Arc.{arc_value}
use Rattle.std.specs.List.{concat}
use Rattle.flat_judge.specs.Parting.{parts_from}
use Rattle.flat_judge.proofs.parting.parts_at.Given as goal

abbrev pub invariant-loop-run : goal.invariant-loop-run
invariant-loop-run l = (l.at ≤ length l.text) × (l.line ≤ l.at + 1)
    × (parts_from 1 l.text l.report ≡ parts_from l.line (drop l.at l.text) (concat (map arc_value (drop l.run-index l.runs))))
