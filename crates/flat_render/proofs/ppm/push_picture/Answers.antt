use Rattle.std.proofs.Common.{ℕ, ◌≡◌, ◌∙◌, ◌+◌, ◌*◌, ap, List, arith}
use Rattle.std.proofs.lemmas.List.{with_items_is}
use Rattle.flat_render.specs.Pictures.{pixel_of}
use Rattle.flat_render.specs.Rows.{band_of, colour_in}
use Rattle.flat_render.specs.declared.tile_grid.TileGrid.{TileGrid}
use Rattle.flat_render.specs.declared.picture.Picture.{Picture}
use Rattle.flat_render.proofs.Bands.{band-in-grid}
use Rattle.flat_render.proofs.RowsOf.{copied-colour, rows-more}
use Rattle.flat_render.proofs.ppm.push_picture.Goals as goal

pub overflow_mul-start : goal.overflow_mul-start
overflow_mul-start c =
    omega (
      arith,
      band-in-grid c.args.picture.now.grid c.loop-n.n c.bytes_of_bands-size.result _ c.args.picture.now.sides c.loop-n-test.true
          c.bytes_of_bands-size.ensures (c.as_slice-bytes.ensures.len ∙ c.args.picture.now.filled),
    )

pub overflow_add-start : goal.overflow_add-start
overflow_add-start c =
    omega (
      arith,
      band-in-grid c.args.picture.now.grid c.loop-n.n c.bytes_of_bands-size.result _ c.args.picture.now.sides c.loop-n-test.true
          c.bytes_of_bands-size.ensures (c.as_slice-bytes.ensures.len ∙ c.args.picture.now.filled),
    )

pub slice_bounds-copy_from_slice-end : goal.slice_bounds-copy_from_slice-end
slice_bounds-copy_from_slice-end c =
    omega (
      arith,
      band-in-grid c.args.picture.now.grid c.loop-n.n c.bytes_of_bands-size.result _ c.args.picture.now.sides c.loop-n-test.true
          c.bytes_of_bands-size.ensures (c.as_slice-bytes.ensures.len ∙ c.args.picture.now.filled),
    )

pub loop-n-preserved : goal.loop-n-preserved
loop-n-preserved c =
    let p : Picture = c.args.picture.now in
    let g : TileGrid = p.grid in
    let n : ℕ = c.loop-n.n in
    let band : List ℕ = c.as_slice.result.now in
    let is : band ≡ c.copy_from_slice.new.self = c.as_slice.ensures.value
    ∙ with_items_is c.loop-n.band c.copy_from_slice.new.self (c.copy_from_slice.ensures.len ∙ c.as_mut_slice.ensures.len) in
    record {
      room = c.loop-n.invariant.room;
      rows = rows-more g (pixel_of p) (colour_in (band_of g n) band) n c.args.out.now.items c.loop-n.out.items c.push_band.new.out.items c.loop-n.invariant.rows
          (λ x y wide high.
          copied-colour g p.sides n x y c.loop-n-test.true wide high c.as_slice-bytes.result.now band c.bytes_of_bands-size.result _
          c.bytes_of_bands-size.ensures (omega arith) (is ∙ c.copy_from_slice.ensures.after)
          ∙ ap (λ (xs : List ℕ). colour_in g xs x (n * g.tile_h + y)) c.as_slice-bytes.ensures.value)
          c.in_ok-push_band.ensures;
    }
