use Rattle.std.proofs.Common.{ℕ, ◌∙◌, ◌≡◌, ◌≤◌, ◌+◌, ◌*◌, length, ap, sym, arith}
use Rattle.std.proofs.lemmas.List.{length-take, length-drop}
use Rattle.std.proofs.lemmas.Nat.{row_fits}
use Rattle.flat_ink.specs.Areas.{has_pixel}
use Rattle.flat_render.specs.Grids.{tile_count}
use Rattle.flat_tile.specs.Tiles.{pixels_of}
use Rattle.flat_tile.specs.declared.tile.Tile.{Tile}
use Rattle.flat_render.proofs.Bands.{tile-in-grid}
use Rattle.flat_render.proofs.Chunks.{redrawn, repainted-all, repainted-more, tile-drawn, tile-part}
use Rattle.flat_render.proofs.drawing.redraw_tiles.Goals as goal

pub overflow_mul-start : goal.overflow_mul-start
overflow_mul-start c = omega (
  arith,
  tile-in-grid c.args.grid.now c.loop-n.n c.bytes_of_tiles-size.result _ c.requires.grid
      (omega (arith, c.count_of_tiles-n-end.ensures, c.loop-n-test.true)) c.bytes_of_tiles-size.ensures c.requires.size,
)

pub overflow_add-bytes_of_tile : goal.overflow_add-bytes_of_tile
overflow_add-bytes_of_tile c = omega (
  arith,
  tile-in-grid c.args.grid.now c.loop-n.n c.bytes_of_tiles-size.result _ c.requires.grid
      (omega (arith, c.count_of_tiles-n-end.ensures, c.loop-n-test.true)) c.bytes_of_tiles-size.ensures c.requires.size,
)

pub slice_bounds-bytes_of_tile-end : goal.slice_bounds-bytes_of_tile-end
slice_bounds-bytes_of_tile-end c = omega (
  arith,
  c.loop-n.auto.bytes,
  tile-in-grid c.args.grid.now c.loop-n.n c.bytes_of_tiles-size.result _ c.requires.grid (omega (arith, c.count_of_tiles-n-end.ensures, c.loop-n-test.true))
      c.bytes_of_tiles-size.ensures c.requires.size,
)

pub tile-requires-clause-there : goal.tile-requires-clause-there
tile-requires-clause-there c = omega (arith, c.count_of_tiles-n-end.ensures, c.loop-n-test.true)

pub draw_anew-requires-clause-size : goal.draw_anew-requires-clause-size
draw_anew-requires-clause-size c =
    let fits = (tile-in-grid c.args.grid.now c.loop-n.n c.bytes_of_tiles-size.result (length c.loop-n.bytes) c.requires.grid
    (omega (arith, c.count_of_tiles-n-end.ensures, c.loop-n-test.true)) c.bytes_of_tiles-size.ensures (c.loop-n.auto.bytes ∙ c.requires.size)).0 in
    tile-part c.bytes_of_tiles-size.result c.loop-n.bytes c.loop-n.n _ fits (omega arith) ∙ c.bytes_of_tiles-size.ensures
    ∙ ap (λ (t : Tile). 3 * pixels_of t) (sym c.tile.ensures.value)

pub loop-n-preserved : goal.loop-n-preserved
loop-n-preserved c =
    let s : ℕ = c.bytes_of_tiles-size.result in
    let n : ℕ = c.loop-n.n in
    let one_more : n * s + s ≤ tile_count c.args.grid.now * s =
    row_fits n s (tile_count c.args.grid.now) s (omega (arith, c.count_of_tiles-n-end.ensures, c.loop-n-test.true)) (omega arith) in
    let all : length c.loop-n.bytes ≡ tile_count c.args.grid.now * s =
    c.loop-n.auto.bytes ∙ c.requires.size ∙ ap (λ (m : ℕ). tile_count c.args.grid.now * m) (sym c.bytes_of_tiles-size.ensures) in
    let fits : n * s + s ≤ length c.loop-n.bytes = omega (arith, one_more, all) in
    repainted-more (redrawn c.args.items.now c.args.grid.now (has_pixel c.args.window)) s c.args.bytes.now c.loop-n.bytes c.draw_anew.new.bytes n _ fits
    (omega arith) (c.draw_anew.auto.bytes ∙ simp (length-take, length-drop) (omega arith)) c.loop-n.invariant
    (tile-drawn c.args.items.now c.args.grid.now (has_pixel c.args.window) n s _ c.tile.result c.loop-n.bytes c.draw_anew.new.bytes
    c.bytes_of_tiles-size.ensures (omega arith) c.tile.ensures.value fits c.draw_anew.ensures)

pub returns : goal.returns
returns c =
    repainted-all (redrawn c.args.items.now c.args.grid.now (has_pixel c.args.window)) c.bytes_of_tiles-size.result c.args.bytes.now c.loop-n.bytes c.loop-n.n
    (tile_count c.args.grid.now) c.loop-n.invariant
    (omega (arith, c.loop-n-test.false, c.loop-n.auto.n-end, c.count_of_tiles-n-end.ensures))
    (c.requires.size ∙ ap (λ (m : ℕ). tile_count c.args.grid.now * m) (sym c.bytes_of_tiles-size.ensures))
