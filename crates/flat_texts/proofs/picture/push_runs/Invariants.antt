use Rattle.std.proofs.Common.{◌≡◌, ◌++◌, take}
use Rattle.std.specs.Arc.{arc_value}
use Rattle.std.specs.List.{flat_map}
use Rattle.flat_texts.proofs.picture.push_runs.Given as goal

abbrev pub invariant-loop-run : goal.invariant-loop-run
invariant-loop-run l = l.text ≡ l.fn.text ++ flat_map arc_value (take l.run-index l.runs)
