use Rattle.std.proofs.Common.{◌∙◌, sym, ap, ◌++◌, List, arith, option_to_list}
use Rattle.flat_scene.specs.declared.frames.DrawItem.{DrawItem}
use Rattle.flat_topology.specs.Draw.{node_item}
use Rattle.flat_compose.proofs.Steps.{given-more}
use Rattle.flat_compose.proofs.compose.Goals as goal

pub loop-at-preserved : goal.loop-at-preserved
loop-at-preserved c =
    let more = given-more node_item c.as_slice-nodes.result.now c.loop-at.at-index c.at-item.result c.loop-at-test.true c.at-item.is in
    record {
      room = omega arith;
      items = c.draw.ensures.items ∙ ap (λ (items : List DrawItem). items ++ option_to_list (node_item c.at-item.result)) c.loop-at.invariant.items ∙ sym more;
    }
