-- The rows of a picture, as its bytes are read off what is stored.
use Rattle.std.specs.Prelude.{ℕ, ◌-◌, ◌*◌, List, [], ◌∷◌, slice_index, min}
use Rattle.std.specs.List.{flat_map, range_with_len}
use Rattle.flat_render.specs.declared.tile_grid.TileGrid.{TileGrid}
use Rattle.flat_render.specs.Grids.{place_of}
use Rattle.flat_render.specs.Ppm.{row_bytes}

-- the colour of a pixel, read from what a grid stores
abbrev pub colour_in : TileGrid → List ℕ → ℕ → ℕ → List ℕ
colour_in grid bytes x y =
    slice_index bytes (place_of grid 0 x y)
    ∷ slice_index bytes (place_of grid 1 x y)
    ∷ slice_index bytes (place_of grid 2 x y) ∷ []

-- the n-th row of tiles as a grid of its own, as high as the picture has pixels there
abbrev pub band_of : TileGrid → ℕ → TileGrid
band_of grid n = record {
  width = grid.width;
  height = min grid.tile_h (grid.height - n * grid.tile_h);
  tile_w = grid.tile_w;
  tile_h = grid.tile_h;
  across = grid.across;
  down = 1;
}

-- the colours of so many rows from the top
abbrev pub rows_bytes : (ℕ → ℕ → List ℕ) → ℕ → ℕ → List ℕ
rows_bytes colour w count = flat_map (λ y. row_bytes colour w y) (range_with_len 0 count)
