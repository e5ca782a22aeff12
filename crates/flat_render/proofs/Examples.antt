-- The definitions, computed.
use Rattle.std.proofs.Common.{◌-◌, ◌≡◌, refl, true, [], ◌∷◌, ◌++◌}
use Rattle.std.specs.Prelude.{pos}
use Rattle.flat_render.specs.declared.tile_grid.TileGrid.{TileGrid}
use Rattle.flat_render.specs.Damaged.{is_in_any}
use Rattle.flat_render.specs.Grids.{tile_of, tile_bytes, band_bytes, grid_bytes, place_of}
use Rattle.flat_ink.specs.Pixels.{pixel}
use Rattle.flat_render.specs.Ppm.{header, ppm_bytes}
use Rattle.flat_render.specs.Rows.{band_of, rows_bytes}
use Rattle.flat_render.specs.Stored.{stored_x, stored_y}
use Rattle.flat_tile.specs.Tiles.{channel_at}
use Rattle.std.specs.Fmt.{digits}

-- ---- tiles of a picture

-- a picture of 65 by 2 pixels: two tiles side by side, each of 128 pixels in three planes
abbrev a_grid : TileGrid
a_grid = record { width = 65; height = 2; tile_w = 64; tile_h = 2; across = 2; down = 1 }

all_bytes : grid_bytes a_grid ≡ 768
all_bytes = refl

a_band : band_bytes a_grid ≡ 768
a_band = refl

-- the green of the last pixel of the second row
a_place : place_of a_grid 1 64 1 ≡ 576
a_place = refl

its_x : stored_x a_grid 576 ≡ 64
its_x = refl

its_y : stored_y a_grid 576 ≡ 1
its_y = refl

its_channel : channel_at (tile_of a_grid 1) (576 - tile_bytes a_grid) ≡ 1
its_channel = refl

-- ---- bytes

two_pixels : ppm_bytes 2 1 (λ x y. x ∷ y ∷ 9 ∷ []) ≡ header 2 1 ++ (0 ∷ 0 ∷ 9 ∷ 1 ∷ 0 ∷ 9 ∷ [])
two_pixels = refl

a_header : header 2 1 ≡ 80 ∷ 54 ∷ 10 ∷ 50 ∷ 32 ∷ 49 ∷ 10 ∷ 50 ∷ 53 ∷ 53 ∷ 10 ∷ []
unfolding digits
a_header = refl

two_rows : rows_bytes (λ x y. x ∷ y ∷ 9 ∷ []) 1 2 ≡ 0 ∷ 0 ∷ 9 ∷ 0 ∷ 1 ∷ 9 ∷ []
two_rows = refl

-- the second row of tiles of a picture of three rows has one of them, and a third row of tiles would have none
last_band : (band_of (record a_grid { height = 3; down = 2 }) 1).height ≡ 1
last_band = refl

no_band : (band_of (record a_grid { height = 3; down = 2 }) 2).height ≡ 0
no_band = refl

-- ---- damage

in_the_second : is_in_any (record { x0 = pos 0; y0 = pos 0; x1 = pos 1; y1 = pos 1 } ∷ record { x0 = pos 0; y0 = pos 0; x1 = pos 65536; y1 = pos 65536 } ∷ []) 0
    0 ≡ true
in_the_second = refl
