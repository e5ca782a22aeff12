-- Tiles: parts of a picture, whose bytes are three planes, one for each channel. A plane has its pixels row by row.
use Rattle.std.specs.Prelude.{ℕ, ◌+◌, ◌*◌, ◌/◌, ◌%◌, ◌<◌, ◌≤◌, ◌^◌}
use Rattle.flat_ink.specs.declared.area.Area.{Area}
use Rattle.flat_tile.specs.declared.tile.Tile.{Tile}

-- where the k-th pixel of a tile lies
abbrev pub x_of : Tile → ℕ → ℕ
x_of tile k = tile.left + k % tile.width

abbrev pub y_of : Tile → ℕ → ℕ
y_of tile k = tile.top + k / tile.width

-- how many pixels a tile has
abbrev pub pixels_of : Tile → ℕ
pixels_of tile = tile.width * tile.height

-- the channel of a tile's byte
abbrev pub channel_at : Tile → ℕ → ℕ
channel_at tile m = m / pixels_of tile

-- and where its pixel lies
abbrev pub x_at : Tile → ℕ → ℕ
x_at tile m = x_of tile (m % pixels_of tile)

abbrev pub y_at : Tile → ℕ → ℕ
y_at tile m = y_of tile (m % pixels_of tile)

-- a tile has a pixel and at most 64 in each row and column, and none is too far out to be counted
pub record IsTile (tile : Tile) : Type 0 where
  pub width : 0 < tile.width
  pub height : 0 < tile.height
  pub narrow : tile.width ≤ 64
  pub low : tile.height ≤ 64
  pub right : tile.left + tile.width < 2 ^ 29
  pub bottom : tile.top + tile.height < 2 ^ 29

-- the pixels of a tile
abbrev pub tile_area : Tile → Area
tile_area tile = record { x0 = tile.left; y0 = tile.top; x1 = tile.left + tile.width; y1 = tile.top + tile.height }
