use Rattle.std.proofs.Common.{ℕ, ◌∙◌, sym, subst, List, Vec, length, arith}
use Rattle.std.specs.List.{All}
use Rattle.std.specs.declared.alloc.Global.{Global}
use Rattle.flat_drawable.specs.Drawable.{IsDrawable}
use Rattle.flat_scene.specs.declared.frames.DrawItem.{DrawItem}
use Rattle.flat_render.specs.Bands.{AreRows}
use Rattle.flat_tile.specs.Preparing.{ArePrepared}
use Rattle.flat_tile.specs.declared.prepared_item.PreparedItem.{PreparedItem}
use Rattle.flat_render.specs.declared.tile_grid.TileGrid.{TileGrid}
use Rattle.flat_render.proofs.Rendered.{rendered}
use Rattle.flat_render.proofs.rendering.render.Goals as goal

pub returns : goal.returns
returns g c =
    let grid : TileGrid = c.grid_for-grid.result in record {
      width = c.grid_for-grid.ensures.width;
      height = c.grid_for-grid.ensures.height;
      pixels = λ x y hx hy.
          rendered grid c.grid_for-grid.ensures.grid c.args.items.now c.as_slice-drawn.result.now c.as_slice-drawn.ensures
          c.in_ok-bytes.bytes c.as_mut_slice.result.now c.draw_rows.new.bytes (c.as_mut_slice.ensures.len ∙ c.in_ok-bytes.ensures.len ∙ c.stored.ensures)
          (c.draw_rows.auto.bytes ∙ c.as_mut_slice.ensures.len) c.draw_rows.ensures
          x y (omega (arith, c.grid_for-grid.ensures.width, hx)) (omega (arith, c.grid_for-grid.ensures.height, hy));
    }

pub grid_for-grid-requires-clause-size : goal.grid_for-grid-requires-clause-size
grid_for-grid-requires-clause-size g c = c.requires.size

pub invariant_of-result : goal.invariant_of-result
invariant_of-result g c = record {
  sides = c.grid_for-grid.ensures.grid;
  filled = c.in_ok-bytes.ensures.len ∙ c.stored.ensures;
}

pub draw_rows-requires-clause-plan : goal.draw_rows-requires-clause-plan
draw_rows-requires-clause-plan g c = λ lives within. record {
  items = subst (λ (all : List DrawItem). All IsDrawable all) (sym c.as_slice-drawn.ensures) c.requires.items;
  prepared = subst (λ (list : List PreparedItem). ArePrepared c.as_slice-drawn.result.now list) (sym c.as_slice-list.ensures.value) c.in_ok-prepared.ensures;
  grid = c.grid_for-grid.ensures.grid;
  rows = subst (λ (rows : List (Vec ℕ Global)). AreRows c.grid_for-grid.result c.as_slice-drawn.result.now rows (length c.as_slice-drawn.result.now))
      (sym c.as_slice.ensures.value) c.in_ok-rows.ensures;
}
