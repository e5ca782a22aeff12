use Rattle.std.proofs.Common.{◌≡◌, ◌++◌}
use Rattle.flat_render.specs.Rows.{colour_in, rows_bytes}
use Rattle.flat_render.proofs.ppm.push_band.Given as goal

abbrev pub invariant-loop-y : goal.invariant-loop-y
invariant-loop-y l = l.out.items ≡ l.fn.out.items ++ rows_bytes (colour_in l.part l.band) l.part.width l.y
