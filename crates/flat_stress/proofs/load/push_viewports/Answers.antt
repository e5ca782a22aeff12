use Rattle.std.proofs.Common.{◌++◌, arith}
use Rattle.flat_stress.specs.Load.{node, viewport}
use Rattle.flat_stress.proofs.Writing.{two, number_more, numbers_end}
use Rattle.flat_stress.proofs.load.push_viewports.Goals as goal

pub loop-i-preserved : goal.loop-i-preserved
loop-i-preserved c = number_more (λ i. node 1 i ++ viewport i) _ _ _ 2 c.loop-i.i c.loop-i.auto.i c.loop-i.invariant
    (two (node 1 c.loop-i.i) (viewport c.loop-i.i) _ _ _ c.in_ok-push_node.ensures c.in_ok-push_viewport.ensures)

pub returns : goal.returns
returns c = numbers_end (λ i. node 1 i ++ viewport i) _ _ 2 c.loop-i.i 9 (omega (arith, c.loop-i-test.false, c.loop-i.auto.i-end (omega arith)))
    c.loop-i.invariant
