-- What is drawn, for all threads that draw it.
use Rattle.std.specs.Prelude.{◌≡◌, ℕ, ◌-◌, ◌*◌, ◌<◌, ◌≤◌, All, List, length}
use Rattle.flat_drawable.specs.Drawable.{IsDrawable}
use Rattle.flat_render.specs.Bands.{AreRows}
use Rattle.flat_render.specs.Grids.{band_bytes, IsGrid}
use Rattle.flat_tile.specs.Preparing.{ArePrepared}
use Rattle.flat_render.specs.declared.picture_plan.PicturePlan.{PicturePlan}
use Rattle.flat_render.specs.declared.picture_plan.TileRowSpan.{TileRowSpan}

-- the items may be drawn, each was prepared, and those are found that serve for a row of tiles
pub record IsPlan (plan : PicturePlan) : Type 0 where
  pub items : All IsDrawable plan.items.now
  pub prepared : ArePrepared plan.items.now plan.list.now
  pub grid : IsGrid plan.grid
  pub rows : AreRows plan.grid plan.items.now plan.rows.now (length plan.items.now)

-- there are so many bytes as some rows of tiles have
pub record IsSpan (plan : PicturePlan) (span : TileRowSpan) (bytes : List ℕ) : Type 0 where
  pub some : span.from < span.upto
  pub there : span.upto ≤ plan.grid.down
  pub size : length bytes ≡ (span.upto - span.from) * band_bytes plan.grid
