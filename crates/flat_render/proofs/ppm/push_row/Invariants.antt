use Rattle.std.proofs.Common.{◌≡◌, ◌*◌, ◌++◌, min}
use Rattle.flat_render.specs.Ppm.{row_bytes}
use Rattle.flat_render.specs.Rows.{colour_in}
use Rattle.flat_render.proofs.ppm.push_row.Given as goal

abbrev pub invariant-loop-n : goal.invariant-loop-n
invariant-loop-n l = l.out.items ≡ l.fn.out.items ++ row_bytes (colour_in l.grid l.bytes) (min (l.n * l.grid.tile_w) l.grid.width) l.y
