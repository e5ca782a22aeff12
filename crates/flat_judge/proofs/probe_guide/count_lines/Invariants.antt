use Rattle.std.proofs.Common.{◌≡◌, ◌+◌, ◌≤◌, length}
use Rattle.flat_text.specs.Pieces.{lines_of}
use Rattle.flat_judge.proofs.probe_guide.count_lines.Given as goal

abbrev pub invariant-loop-count : goal.invariant-loop-count
invariant-loop-count l = (l.count + length (lines_of l.rest) ≡ length (lines_of l.text)) × (l.count + length l.rest ≤ length l.text)
