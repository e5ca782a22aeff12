-- What stands at each place of what is stored.
use Rattle.std.specs.Prelude.{ℕ, ◌/◌, ◌%◌, List}
use Rattle.flat_scene.specs.declared.frames.DrawItem.{DrawItem}
use Rattle.flat_render.specs.declared.tile_grid.TileGrid.{TileGrid}
use Rattle.flat_tile.specs.declared.tile.Tile.{Tile}
use Rattle.flat_ink.specs.Channels.{channel_after}
use Rattle.flat_render.specs.Grids.{tile_of, tile_bytes}
use Rattle.flat_tile.specs.Tiles.{channel_at, x_at, y_at}
use Rattle.flat_tile.specs.Chosen.{drawn_in}

-- where the pixel of the i-th stored byte lies
abbrev pub stored_x : TileGrid → ℕ → ℕ
stored_x grid i = x_at (tile_of grid (i / tile_bytes grid)) (i % tile_bytes grid)

abbrev pub stored_y : TileGrid → ℕ → ℕ
stored_y grid i = y_at (tile_of grid (i / tile_bytes grid)) (i % tile_bytes grid)

-- the i-th stored byte of such tiles
abbrev pub drawn_at : TileGrid → List DrawItem → ℕ → ℕ
drawn_at grid items i = drawn_in (tile_of grid (i / tile_bytes grid)) items (i % tile_bytes grid)
