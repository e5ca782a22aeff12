use Rattle.std.proofs.Common.{◌≡◌, ◌-◌, ◌<◌, ◌++◌}
use Rattle.std.specs.Arc.{arc_value}
use Rattle.std.specs.List.{flat_map}
use Rattle.flat_render.specs.Grids.{band_bytes}
use Rattle.flat_render.specs.Strips.{rows_above, strip_in}
use Rattle.flat_render.proofs.strips.draw_strips.Given as goal

abbrev pub invariant-loop-n : goal.invariant-loop-n
invariant-loop-n l = record {
  room : l.band.len ≡ band_bytes l.plan.grid;
  spare : l.before.len ≡ band_bytes l.plan.grid;
  last : l.from < l.n → arc_value l.last ≡ strip_in l.plan.grid (l.n - 1) l.band.items;
  rows : rows_above l.plan.items.now l.plan.grid l.n ≡ rows_above l.plan.items.now l.plan.grid l.from ++ flat_map arc_value l.strips.items;
}
