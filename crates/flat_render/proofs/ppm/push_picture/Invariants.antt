use Rattle.std.proofs.Common.{◌≡◌, ◌*◌, ◌++◌, min}
use Rattle.flat_render.specs.Pictures.{pixel_of}
use Rattle.flat_render.specs.Rows.{rows_bytes}
use Rattle.flat_render.proofs.ppm.push_picture.Given as goal

abbrev pub invariant-loop-n : goal.invariant-loop-n
invariant-loop-n l = record {
  room : l.band.len ≡ l.size;
  rows : l.out.items ≡ l.fn.out.items ++ rows_bytes (pixel_of l.picture) l.picture.grid.width (min (l.n * l.picture.grid.tile_h) l.picture.grid.height);
}
