use Rattle.std.proofs.Common.{◌+◌, ◌≤◌, length}
use Rattle.flat_text.specs.Pieces.{lines_of}
use Rattle.flat_judge.proofs.Looking.{NotedTo}
use Rattle.flat_judge.proofs.probe_guide.ProbeGuide.of_lines.Given as goal

abbrev pub invariant-loop : goal.invariant-loop
invariant-loop l = NotedTo l.script (lines_of l.text) l.rest l.guide.seen.items × (l.counter + length l.rest ≤ length l.text)
