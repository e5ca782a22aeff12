use Rattle.std.proofs.Common.{◌≡◌, ◌++◌, take}
use Rattle.flat_report.specs.ItemLines.{stretches_text}
use Rattle.flat_report.proofs.frame_texts.push_stretches.Given as goal

abbrev pub invariant-loop-stretch : goal.invariant-loop-stretch
invariant-loop-stretch l = l.text ≡ l.fn.text ++ stretches_text (take l.stretch-index l.stretches)
