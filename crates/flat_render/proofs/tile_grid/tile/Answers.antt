use Rattle.flat_render.proofs.Places.{tile-is}
use Rattle.flat_render.proofs.tile_grid.tile.Goals as goal

pub returns-clause-tile : goal.returns-clause-tile
returns-clause-tile c = tile-is c.args.grid.now c.args.n c.requires.grid c.requires.there
