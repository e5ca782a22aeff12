use Rattle.std.proofs.Common.{arith}
use Rattle.flat_render.proofs.Bands.{band-most}
use Rattle.flat_render.proofs.tile_grid.bytes_of_bands.Goals as goal

pub overflow_mul-result : goal.overflow_mul-result
overflow_mul-result c = rw c.bytes_of_tiles.ensures (omega (arith, band-most c.args.grid.now c.requires))
