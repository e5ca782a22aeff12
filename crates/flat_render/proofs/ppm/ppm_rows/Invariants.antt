use Rattle.std.proofs.Common.{◌≡◌, ◌+◌, ◌-◌}
use Rattle.flat_render.specs.Pictures.{pixel_of}
use Rattle.flat_render.specs.Rows.{rows_bytes}
use Rattle.flat_render.proofs.ppm.ppm_rows.Given as goal

abbrev pub invariant-loop-y : goal.invariant-loop-y
invariant-loop-y l = l.out.items ≡ rows_bytes (λ x y. pixel_of l.picture x (l.from + y)) l.picture.grid.width (l.y - l.from)
