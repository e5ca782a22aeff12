use Rattle.flat_render.proofs.Any.{rect-step}
use Rattle.flat_render.proofs.drawing.redraw_rects.Goals as goal

pub loop-rect-preserved : goal.loop-rect-preserved
loop-rect-preserved c =
    rect-step c.args.items.now c.args.grid.now c.args.rects.now c.loop-rect.rect-index _ c.area_of.result c.args.bytes.now c.loop-rect.bytes
    c.redraw_tiles.new.bytes
    c.requires.grid c.loop-rect-test.true c.requires.size c.loop-rect.auto.bytes c.area_of.ensures c.loop-rect.invariant c.redraw_tiles.ensures
