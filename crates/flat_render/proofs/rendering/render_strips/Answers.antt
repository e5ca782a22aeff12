use Rattle.std.proofs.Common.{ℕ, sym, subst, List, Vec, length}
use Rattle.std.specs.List.{All}
use Rattle.std.specs.declared.alloc.Global.{Global}
use Rattle.flat_drawable.specs.Drawable.{IsDrawable}
use Rattle.flat_scene.specs.declared.frames.DrawItem.{DrawItem}
use Rattle.flat_render.specs.Bands.{AreRows}
use Rattle.flat_tile.specs.Preparing.{ArePrepared}
use Rattle.flat_tile.specs.declared.prepared_item.PreparedItem.{PreparedItem}
use Rattle.flat_render.proofs.rendering.render_strips.Goals as goal

pub all_strips-requires-after_bounds : goal.all_strips-requires-after_bounds
all_strips-requires-after_bounds g c = λ lives within. record {
  items = subst (λ (all : List DrawItem). All IsDrawable all) (sym c.as_slice-drawn.ensures) c.requires.items;
  prepared = subst (λ (list : List PreparedItem). ArePrepared c.as_slice-drawn.result.now list) (sym c.as_slice-list.ensures.value) c.in_ok-prepared.ensures;
  grid = c.grid_for-grid.ensures.grid;
  rows = subst (λ (rows : List (Vec ℕ Global)). AreRows c.grid_for-grid.result c.as_slice-drawn.result.now rows (length c.as_slice-drawn.result.now))
      (sym c.as_slice.ensures.value) c.in_ok-rows.ensures;
}
