use Rattle.std.proofs.Common.{ℕ, ◌∙◌, refl, sym, subst, List, Vec, length}
use Rattle.std.specs.List.{All}
use Rattle.std.specs.declared.alloc.Global.{Global}
use Rattle.flat_drawable.specs.Drawable.{IsDrawable}
use Rattle.flat_scene.specs.declared.frames.DrawItem.{DrawItem}
use Rattle.flat_render.specs.Bands.{AreRows}
use Rattle.flat_tile.specs.Preparing.{ArePrepared}
use Rattle.flat_tile.specs.declared.prepared_item.PreparedItem.{PreparedItem}
use Rattle.flat_render.proofs.Rendered.{rendered}
use Rattle.flat_render.proofs.rendering.render_into.Goals as goal

pub returns-clause-ok : goal.returns-clause-ok
returns-clause-ok g c = record {
  width = refl;
  height = refl;
  pixels = λ x y hx hy.
      rendered c.args.picture.now.grid c.args.picture.now.sides c.args.items.now c.as_slice-drawn.result.now c.as_slice-drawn.ensures
      c.args.picture.now.bytes c.as_mut_slice.result.now c.draw_rows.new.bytes (c.as_mut_slice.ensures.len ∙ c.args.picture.now.filled)
      (c.draw_rows.auto.bytes ∙ c.as_mut_slice.ensures.len) c.draw_rows.ensures x y hx hy;
}

pub draw_rows-requires-clause-plan : goal.draw_rows-requires-clause-plan
draw_rows-requires-clause-plan g c = λ lives within. record {
  items = subst (λ (all : List DrawItem). All IsDrawable all) (sym c.as_slice-drawn.ensures) c.requires;
  prepared = subst (λ (list : List PreparedItem). ArePrepared c.as_slice-drawn.result.now list) (sym c.as_slice-list.ensures.value) c.in_ok-prepared.ensures;
  grid = c.args.picture.now.sides;
  rows = subst (λ (rows : List (Vec ℕ Global)). AreRows c.args.picture.now.grid c.as_slice-drawn.result.now rows (length c.as_slice-drawn.result.now))
      (sym c.as_slice.ensures.value) c.in_ok-rows.ensures;
}
