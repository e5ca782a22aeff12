use Rattle.std.proofs.Common.{◌≡◌, ◌++◌, map, take, drop, Some}
use Rattle.flat_links.specs.Viewports.{marked_by}
use Rattle.flat_links.proofs.viewports.mark.Given as goal

-- those before are marked
abbrev pub invariant-loop-one : goal.invariant-loop-one
invariant-loop-one l = l.out ≡ map (marked_by (Some l.pair) l.presents) (take l.one-index l.fn.out) ++ drop l.one-index l.fn.out
