use Rattle.std.proofs.Common.{◌≡◌, take}
use Rattle.flat_texts.specs.Lines.{finish_lines}
use Rattle.flat_texts.proofs.lines.finish_lines.Given as goal

abbrev pub invariant-loop-entry : goal.invariant-loop-entry
invariant-loop-entry l = l.lines.items ≡ finish_lines (take l.entry-index l.entries)
