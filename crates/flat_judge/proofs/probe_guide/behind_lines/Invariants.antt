use Rattle.std.proofs.Common.{◌≡◌, drop}
use Rattle.flat_text.specs.Pieces.{lines_of}
use Rattle.flat_judge.proofs.probe_guide.behind_lines.Given as goal

abbrev pub invariant-loop : goal.invariant-loop
invariant-loop l = drop l.counter (lines_of l.text) ≡ lines_of l.rest
