use Rattle.std.proofs.Common.{◌≡◌, ◌+◌, ◌*◌, ◌%◌, ◌++◌, map}
use Rattle.flat_stress.specs.Words.{between}
use Rattle.flat_page.specs.Words.{text_of}
use Rattle.flat_stress.specs.Load.{move}
use Rattle.flat_stress.proofs.load.push_host_moves.Given as goal

abbrev pub invariant-loop-i : goal.invariant-loop-i
invariant-loop-i l = l.page ≡ l.initial.page ++ text_of (map (λ i. move 1 i ((100 * i + l.k) % 900) ((50 * i + l.k) % 900)) (between 2 l.i))
