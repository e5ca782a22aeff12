use Rattle.std.proofs.Common.{◌≤◌}
use Rattle.flat_shell.specs.Live.{HasLooked}
use Rattle.flat_shell.proofs.compositor.DisplayCompositor.look_often.Given as goal

abbrev pub invariant-loop : goal.invariant-loop
invariant-loop g l = HasLooked l.c l.value l.fn.self l.self × (l.nap ≤ 2000)
