use Rattle.flat_page.proofs.lemmas.PageLemmas.{more_lines}
use Rattle.flat_lines.specs.FrameLines.{item_line}
use Rattle.flat_report.proofs.item_lines.push_items.Goals as goal

pub loop-item-preserved : goal.loop-item-preserved
loop-item-preserved c = more_lines (item_line c.args.script.now) c.args.items.now c.loop-item.item-index _ c.loop-item-test.true c.loop-item.invariant
    c.in_ok-push_item.ensures
