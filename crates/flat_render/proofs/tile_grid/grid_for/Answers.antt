use Rattle.std.proofs.Common.{arith}
use Rattle.flat_render.proofs.Places.{grid-is, side-most}
use Rattle.flat_render.proofs.tile_grid.grid_for.Goals as goal

pub returns-clause-grid : goal.returns-clause-grid
returns-clause-grid c =
    grid-is _ c.requires.width c.requires.height c.requires.size
    (omega (arith, side-most c.args.width c.args.height 4194304 c.requires.height c.requires.size))
    (omega (arith, side-most c.args.height c.args.width 4194304 c.requires.width (omega (arith, c.requires.size))))
    c.min-tile_w.ensures c.tile_height-tile_h.ensures.some c.tile_height-tile_h.ensures.low c.tile_height-tile_h.ensures.within c.div_ceil.ensures
    c.div_ceil-2.ensures
