-- What items draw on a tile, and which of them are enough for it.
use Rattle.std.specs.Prelude.{◌≡◌, ℕ, true, List, flat_map, take, drop}
use Rattle.std.specs.List.{All}
use Rattle.flat_drawable.specs.Drawable.{IsDrawable}
use Rattle.flat_scene.specs.declared.frames.DrawItem.{DrawItem}
use Rattle.flat_ink.specs.declared.area.Area.{Area}
use Rattle.flat_tile.specs.declared.tile.Tile.{Tile}
use Rattle.flat_ink.specs.Areas.{has_pixel}
use Rattle.flat_ink.specs.Channels.{channel_after}
use Rattle.flat_tile.specs.Tiles.{channel_at, x_at, y_at}

-- the m-th byte of a tile on which items were drawn, from black
abbrev pub drawn_in : Tile → List DrawItem → ℕ → ℕ
drawn_in tile items m = channel_after (channel_at tile m) items (x_at tile m) (y_at tile m) 0

-- some of the items give each pixel of an area what all of them give it
pub record IsSeenIn (area : Area) (items seen : List DrawItem) : Type 0 where
  pub drawable : All IsDrawable seen
  pub same : (c px py old : ℕ) → has_pixel area px py ≡ true
      → channel_after c seen px py old ≡ channel_after c items px py old

-- the items with some numbers
abbrev pub chosen : List DrawItem → List ℕ → List DrawItem
chosen items places = flat_map (λ p. take 1 (drop p items)) places
