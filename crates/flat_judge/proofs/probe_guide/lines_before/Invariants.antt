use Rattle.std.proofs.Common.{◌≡◌, ◌+◌, ◌-◌, length}
use Rattle.flat_text.specs.Pieces.{lines_of}
use Rattle.flat_judge.proofs.Looking.{lines_to}
use Rattle.flat_judge.proofs.probe_guide.lines_before.Given as goal

abbrev pub invariant-loop-probe : goal.invariant-loop-probe
invariant-loop-probe l = l.before ≡ length (lines_of l.text) - (length (lines_to l.probe l.script.lines) + 1)
