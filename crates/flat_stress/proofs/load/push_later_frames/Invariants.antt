use Rattle.std.proofs.Common.{◌≡◌, ◌++◌}
use Rattle.std.specs.List.{flat_map}
use Rattle.flat_stress.specs.Words.{between}
use Rattle.flat_page.specs.Words.{text_of}
use Rattle.flat_stress.specs.Load.{later}
use Rattle.flat_stress.proofs.load.push_later_frames.Given as goal

abbrev pub invariant-loop-k : goal.invariant-loop-k
invariant-loop-k l = l.page ≡ l.initial.page ++ text_of (flat_map (later) (between 2 l.k))
