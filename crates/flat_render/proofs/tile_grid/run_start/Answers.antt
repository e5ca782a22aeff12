use Rattle.std.proofs.Common.{arith}
use Rattle.flat_render.proofs.Places.{run-tile, run-fits, count-most}
use Rattle.flat_render.proofs.tile_grid.run_start.Goals as goal

pub returns-clause-there : goal.returns-clause-there
returns-clause-there c = rw c.bytes_of_tiles.ensures (run-fits c.args.grid.now c.requires.grid c.args.n c.args.py c.requires.column c.requires.row)

pub overflow_mul-tile : goal.overflow_mul-tile
overflow_mul-tile c = omega (
  arith,
  run-tile c.args.grid.now c.requires.grid c.args.n c.args.py c.requires.column c.requires.row,
  count-most c.args.grid.now c.requires.grid,
)

pub overflow_add-tile : goal.overflow_add-tile
overflow_add-tile c = omega (
  arith,
  run-tile c.args.grid.now c.requires.grid c.args.n c.args.py c.requires.column c.requires.row,
  count-most c.args.grid.now c.requires.grid,
)

pub overflow_mul-result : goal.overflow_mul-result
overflow_mul-result c = rw c.bytes_of_tiles.ensures (omega
    (arith, run-fits c.args.grid.now c.requires.grid c.args.n c.args.py c.requires.column c.requires.row, c.requires.grid.most))

pub overflow_add-result : goal.overflow_add-result
overflow_add-result c = rw c.bytes_of_tiles.ensures (omega
    (arith, run-fits c.args.grid.now c.requires.grid c.args.n c.args.py c.requires.column c.requires.row, c.requires.grid.most))
