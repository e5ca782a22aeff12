use Rattle.std.proofs.Common.{ℕ, List, refl}
use Rattle.flat_render.specs.Ppm.{row_bytes}
use Rattle.flat_render.specs.Rows.{colour_in}
use Rattle.flat_render.specs.declared.tile_grid.TileGrid.{TileGrid}
use Rattle.flat_render.proofs.lemmas.Bytes.{piece-more}
use Rattle.flat_render.proofs.ppm.push_band.Goals as goal

pub loop-y-preserved : goal.loop-y-preserved
loop-y-preserved c =
    let part : TileGrid = c.band_grid-part.result in
    let row : ℕ → List ℕ = λ y. row_bytes (colour_in part c.args.band.now) part.width y in
    piece-more row c.loop-y.y c.args.out.now.items c.loop-y.out.items (row c.loop-y.y) c.push_row.new.out.items c.loop-y.invariant refl c.in_ok-push_row.ensures
