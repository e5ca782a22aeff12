use Rattle.std.proofs.Common.{ℕ, ◌+◌, ◌*◌, ◌≤◌, ◌≡◌, ◌∙◌, ap, sym, subst, List, Vec, length, arith}
use Rattle.std.specs.declared.alloc.Global.{Global}
use Rattle.std.proofs.lemmas.List.{length-take, length-drop}
use Rattle.std.proofs.lemmas.Nat.{row_fits}
use Rattle.flat_render.specs.Bands.{IsChoice}
use Rattle.flat_render.specs.Grids.{band_bytes, tile_of}
use Rattle.flat_tile.specs.Tiles.{pixels_of, tile_area}
use Rattle.flat_tile.specs.Chosen.{drawn_in}
use Rattle.flat_render.specs.Stored.{drawn_at}
use Rattle.flat_tile.specs.declared.tile.Tile.{Tile}
use Rattle.flat_render.proofs.Bands.{tile-in-band, tile-of-band, tile-of-row}
use Rattle.flat_render.proofs.Chunks.{repainted-more, tile-part}
use Rattle.flat_render.proofs.Places.{count-most}
use Rattle.flat_render.proofs.band.draw_picked.Goals as goal

pub overflow_mul-row : goal.overflow_mul-row
overflow_mul-row c = omega (
  arith,
  tile-of-band c.args.grid.now c.args.row c.loop-n.n c.requires.row c.loop-n-test.true,
  count-most c.args.grid.now c.requires.grid,
)

pub overflow_add-row : goal.overflow_add-row
overflow_add-row c = omega (
  arith,
  tile-of-band c.args.grid.now c.args.row c.loop-n.n c.requires.row c.loop-n-test.true,
  count-most c.args.grid.now c.requires.grid,
)

pub loop-n-preserved : goal.loop-n-preserved
loop-n-preserved c =
    let s : ℕ = c.bytes_of_tiles-size.result in
    let n : ℕ = c.loop-n.n in
    let one_more : n * s + s ≤ c.args.grid.now.across * s = row_fits n s c.args.grid.now.across s c.loop-n-test.true (omega arith) in
    let all : length c.loop-n.bytes ≡ c.args.grid.now.across * s =
    c.loop-n.auto.bytes ∙ c.requires.size ∙ ap (λ (m : ℕ). c.args.grid.now.across * m) (sym c.bytes_of_tiles-size.ensures) in
    let fits : n * s + s ≤ length c.loop-n.bytes = omega (arith, one_more, all) in
    repainted-more (λ k old. drawn_at c.args.grid.now c.args.items.now (c.args.row * band_bytes c.args.grid.now + k)) s c.args.bytes.now c.loop-n.bytes
    c.draw_tile.new.bytes n _ fits
    (omega arith) (c.draw_tile.auto.bytes ∙ simp (length-take, length-drop) (omega arith)) c.loop-n.invariant
    (λ k small.
    c.draw_tile.ensures k (simp (length-take, length-drop) (omega arith))
    ∙ ap (λ (t : Tile). drawn_in t c.args.items.now k) c.tile-tile.ensures.value
    ∙ tile-of-row c.args.grid.now c.requires.grid c.args.row n c.loop-n-test.true c.args.items.now k (omega (arith, c.bytes_of_tiles-size.ensures, small))
    ∙ ap (λ (m : ℕ). drawn_at c.args.grid.now c.args.items.now (c.args.row * band_bytes c.args.grid.now + (n * m + k))) (sym c.bytes_of_tiles-size.ensures))

pub draw_tile-requires-clause-places : goal.draw_tile-requires-clause-places
draw_tile-requires-clause-places c =
    let n : ℕ = c.args.row * c.args.grid.now.across + c.loop-n.n in
    subst (λ (tile : Tile). IsChoice (tile_area tile) c.args.items.now c.as_slice.result.now (length c.args.items.now)) (sym c.tile-tile.ensures.value)
    (subst (λ (places : List ℕ). IsChoice (tile_area (tile_of c.args.grid.now n)) c.args.items.now places (length c.args.items.now))
    (sym c.as_slice.ensures.value)
    (subst (λ (list : Vec ℕ Global). IsChoice (tile_area (tile_of c.args.grid.now n)) c.args.items.now list.items (length c.args.items.now))
    (sym c.index-lists-n.is)
    (c.requires.lists.serve c.loop-n.n c.index-lists-n.result c.loop-n-test.true)))

pub overflow_mul-start : goal.overflow_mul-start
overflow_mul-start c =
    omega (
      arith,
      tile-in-band c.args.grid.now c.loop-n.n c.bytes_of_tiles-size.result _ c.requires.grid c.loop-n-test.true c.bytes_of_tiles-size.ensures
          c.requires.size,
    )

pub overflow_add-bytes_of_tile : goal.overflow_add-bytes_of_tile
overflow_add-bytes_of_tile c =
    omega (
      arith,
      tile-in-band c.args.grid.now c.loop-n.n c.bytes_of_tiles-size.result _ c.requires.grid c.loop-n-test.true c.bytes_of_tiles-size.ensures
          c.requires.size,
    )

pub slice_bounds-bytes_of_tile-end : goal.slice_bounds-bytes_of_tile-end
slice_bounds-bytes_of_tile-end c =
    omega (
      arith,
      c.loop-n.auto.bytes,
      tile-in-band c.args.grid.now c.loop-n.n c.bytes_of_tiles-size.result _ c.requires.grid c.loop-n-test.true
          c.bytes_of_tiles-size.ensures c.requires.size,
    )

pub tile-tile-requires-clause-there : goal.tile-tile-requires-clause-there
tile-tile-requires-clause-there c = tile-of-band c.args.grid.now c.args.row c.loop-n.n c.requires.row c.loop-n-test.true

pub draw_tile-requires-clause-size : goal.draw_tile-requires-clause-size
draw_tile-requires-clause-size c =
    let fits = (tile-in-band c.args.grid.now c.loop-n.n c.bytes_of_tiles-size.result (length c.loop-n.bytes) c.requires.grid c.loop-n-test.true
    c.bytes_of_tiles-size.ensures (c.loop-n.auto.bytes ∙ c.requires.size)).0 in
    tile-part c.bytes_of_tiles-size.result c.loop-n.bytes c.loop-n.n _ fits (omega arith) ∙ c.bytes_of_tiles-size.ensures
    ∙ ap (λ (t : Tile). 3 * pixels_of t) (sym c.tile-tile.ensures.value)
