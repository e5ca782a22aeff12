use Rattle.flat_render.specs.Bands.{IsNoted}
use Rattle.flat_render.proofs.sorting.note.Given as goal

abbrev pub invariant-loop-c : goal.invariant-loop-c
invariant-loop-c l = IsNoted l.n l.fn.run.from l.c l.initial.lists l.lists
