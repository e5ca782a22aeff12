-- Strips: the bytes of a picture, a row of tiles each.
use Rattle.std.specs.Prelude.{◌≡◌, ℕ, ◌*◌, ◌++◌, min, List, Result, Vec, IfOk}
use Rattle.std.specs.Arc.{arc_value}
use Rattle.std.specs.List.{flat_map}
use Rattle.std.specs.declared.alloc.Global.{Global}
use Rattle.std.specs.declared.sync.Arc.{Arc}
use Rattle.flat_scene.specs.declared.frames.DrawItem.{DrawItem}
use Rattle.flat_render.specs.declared.tile_grid.TileGrid.{TileGrid}
use Rattle.flat_render.specs.declared.picture_plan.PicturePlan.{PicturePlan}
use Rattle.flat_render.specs.declared.picture_plan.TileRowSpan.{TileRowSpan}
use Rattle.flat_ink.specs.Pixels.{pixel}
use Rattle.flat_render.specs.Rows.{band_of, colour_in, rows_bytes}

-- the bytes of the rows above the n-th row of tiles
abbrev pub rows_above : List DrawItem → TileGrid → ℕ → List ℕ
rows_above items grid n = rows_bytes (pixel items) grid.width (min (n * grid.tile_h) grid.height)

-- the bytes of the n-th row of tiles, as they are read off what is stored of it
abbrev pub strip_in : TileGrid → ℕ → List ℕ → List ℕ
strip_in grid n band = rows_bytes (colour_in (band_of grid n) band) grid.width (band_of grid n).height

-- strips are those of a span, if memory was there
abbrev pub HasStrips : {E : Type 0} → PicturePlan → TileRowSpan → Result (Vec (Arc (List ℕ) Global) Global) E → Type 0
HasStrips plan span part = IfOk part (λ strips. rows_above plan.items.now plan.grid span.upto
    ≡ rows_above plan.items.now plan.grid span.from ++ flat_map arc_value strips.items)
