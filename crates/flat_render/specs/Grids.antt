-- Grids: how a picture is cut into tiles, which are stored one after another.
use Rattle.std.specs.Prelude.{ℕ, ◌+◌, ◌*◌, ◌/◌, ◌%◌, ◌<◌, ◌≤◌, ◌^◌}
use Rattle.flat_render.specs.declared.tile_grid.TileGrid.{TileGrid}
use Rattle.flat_tile.specs.declared.tile.Tile.{Tile}

-- how many pixels a tile has
abbrev pub tile_size : TileGrid → ℕ
tile_size grid = grid.tile_w * grid.tile_h

-- how many bytes a tile has: one for each channel of a pixel
abbrev pub tile_bytes : TileGrid → ℕ
tile_bytes grid = 3 * tile_size grid

-- how many tiles there are
abbrev pub tile_count : TileGrid → ℕ
tile_count grid = grid.across * grid.down

-- how many bytes a row of tiles has
abbrev pub band_bytes : TileGrid → ℕ
band_bytes grid = grid.across * tile_bytes grid

-- how many bytes are stored: those of whole tiles, which may go beyond the picture
abbrev pub grid_bytes : TileGrid → ℕ
grid_bytes grid = tile_count grid * tile_bytes grid

-- the n-th tile, row by row
abbrev pub tile_of : TileGrid → ℕ → Tile
tile_of grid n = record {
  left = n % grid.across * grid.tile_w;
  top = n / grid.across * grid.tile_h;
  width = grid.tile_w;
  height = grid.tile_h;
}

-- the number of the tile in which a pixel lies
abbrev pub tile_with : TileGrid → ℕ → ℕ → ℕ
tile_with grid px py = py / grid.tile_h * grid.across + px / grid.tile_w

-- where it lies in that tile
abbrev pub place_in_tile : TileGrid → ℕ → ℕ → ℕ
place_in_tile grid px py = py % grid.tile_h * grid.tile_w + px % grid.tile_w

-- where the red of the first pixel of the n-th tile from the left is stored, on a row of the picture
abbrev pub run_of : TileGrid → ℕ → ℕ → ℕ
run_of grid n py = (py / grid.tile_h * grid.across + n) * tile_bytes grid + py % grid.tile_h * grid.tile_w

-- where a channel of a pixel is stored
abbrev pub place_of : TileGrid → ℕ → ℕ → ℕ → ℕ
place_of grid c px py = tile_with grid px py * tile_bytes grid + (c * tile_size grid + place_in_tile grid px py)

-- a grid covers its picture, and is not too large
pub record IsGrid (grid : TileGrid) : Type 0 where
  pub tile_w : 0 < grid.tile_w
  pub tile_h : 0 < grid.tile_h
  pub narrow : grid.tile_w ≤ 64
  pub low : grid.tile_h ≤ 64
  pub some : 0 < grid.across
  pub right : grid.width ≤ grid.across * grid.tile_w
  pub bottom : grid.height ≤ grid.down * grid.tile_h
  pub most_right : grid.across * grid.tile_w < 2 ^ 28
  pub most_bottom : grid.down * grid.tile_h < 2 ^ 28
  pub most : grid_bytes grid < 2 ^ 28
