use Rattle.std.proofs.Common.{arith}
use Rattle.flat_render.proofs.Places.{tile-there, place-there, count-most}
use Rattle.flat_render.proofs.tile_grid.place.Goals as goal

pub overflow_mul-n : goal.overflow_mul-n
overflow_mul-n c = omega (
  arith,
  tile-there c.args.grid.now c.requires.grid c.args.c c.args.px c.args.py c.requires.channel c.requires.x c.requires.y,
  count-most c.args.grid.now c.requires.grid,
)

pub overflow_add-n : goal.overflow_add-n
overflow_add-n c = omega (
  arith,
  tile-there c.args.grid.now c.requires.grid c.args.c c.args.px c.args.py c.requires.channel c.requires.x c.requires.y,
  count-most c.args.grid.now c.requires.grid,
)

pub overflow_mul-result : goal.overflow_mul-result
overflow_mul-result c = rw c.bytes_of_tiles.ensures (omega
    (arith, place-there c.args.grid.now c.requires.grid c.args.c c.args.px c.args.py c.requires.channel c.requires.x c.requires.y, c.requires.grid.most))

pub overflow_add-result-2 : goal.overflow_add-result-2
overflow_add-result-2 c = rw (c.bytes_of_tiles.ensures, c.size_of_tiles.ensures)
    (omega (arith, place-there c.args.grid.now c.requires.grid c.args.c c.args.px c.args.py c.requires.channel c.requires.x c.requires.y, c.requires.grid.most))

pub returns-clause-there : goal.returns-clause-there
returns-clause-there c = rw (c.bytes_of_tiles.ensures, c.size_of_tiles.ensures)
    (place-there c.args.grid.now c.requires.grid c.args.c c.args.px c.args.py c.requires.channel c.requires.x c.requires.y)
