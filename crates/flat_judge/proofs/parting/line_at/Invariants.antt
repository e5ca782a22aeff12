use Rattle.std.proofs.Common.{◌≡◌, ◌-◌, ◌≤◌, slice_get}
use Rattle.flat_text.specs.Pieces.{lines_of}
use Rattle.flat_judge.proofs.parting.line_at.Given as goal

abbrev pub invariant-loop : goal.invariant-loop
invariant-loop l = (1 ≤ l.counter) × (slice_get (lines_of l.text) (l.number - 1) ≡ slice_get (lines_of l.rest) (l.number - l.counter))
