-- The definitions, computed.
use Rattle.std.proofs.Common.{◌≡◌, refl, true, false, [], ◌∷◌}
use Rattle.std.specs.Prelude.{pos}
use Rattle.flat_scene.specs.declared.calls.BlendMode.TheVariants.{Src}
use Rattle.flat_scene.specs.declared.frames.DrawItem.{DrawItem}
use Rattle.flat_scene.specs.declared.frames.Paint.TheVariants.{Fill}
use Rattle.flat_ink.specs.declared.area.Area.{Area}
use Rattle.flat_tile.specs.declared.prepared_item.ItemChannels.TheVariants.{Even, Stepped, Sampled}
use Rattle.flat_tile.specs.declared.tile.Tile.{Tile}
use Rattle.flat_tile.specs.Chosen.{chosen, drawn_in}
use Rattle.flat_tile.specs.Preparing.{stamped, toned}
use Rattle.flat_tile.specs.Tiles.{channel_at, pixels_of, x_at, y_at}

-- ---- the bytes of a tile

-- two rows of three pixels
abbrev a_tile : Tile
a_tile = record { left = 64; top = 2; width = 3; height = 2 }

its_pixels : pixels_of a_tile ≡ 6
its_pixels = refl

-- the green of the last pixel
last_green : channel_at a_tile 11 ≡ 1
last_green = refl

its_x : x_at a_tile 11 ≡ 66
its_x = refl

its_y : y_at a_tile 11 ≡ 3
its_y = refl

-- ---- what is prepared

abbrev an_area : Area
an_area = record { x0 = 2; y0 = 3; x1 = 4; y1 = 5 }

even_green : toned an_area (Even (5 ∷ 6 ∷ 7 ∷ [])) 1 3 4 ≡ 6
even_green = refl

-- the reds rise by 64 a column, round at 256
stepped_red : toned an_area (Stepped (record { red = 224; rises = true; green = 7; sinks = true; blue = 9 })) 0 3 4 ≡ 32
stepped_red = refl

-- sampled tones give nothing: they are read from the item
sampled_red : toned an_area Sampled 0 3 4 ≡ 0
sampled_red = refl

stamped_green : stamped (record { cut = an_area; reds = 1 ∷ 2 ∷ []; greens = 3 ∷ 4 ∷ []; blue = 5 }) 1 3 4 ≡ 4
stamped_green = refl

-- ---- items on a tile

abbrev white : DrawItem
white = record {
  session = record { 0 = 1 };
  serial = 1;
  paint = Fill (255 ∷ 255 ∷ 255 ∷ 255 ∷ []);
  w = 2;
  h = 1;
  matrix = record { swap = false; a = pos 65536; b = pos 65536; x = pos 0; y = pos 0 };
  visible = record { x0 = pos 0; y0 = pos 0; x1 = pos 65536; y1 = pos 65536 };
  opacity = 65536;
  blend = Src;
}

-- a number of no item chooses none
one_chosen : chosen (white ∷ []) (7 ∷ 0 ∷ []) ≡ white ∷ []
one_chosen = refl

nothing_drawn : drawn_in a_tile [] 11 ≡ 0
nothing_drawn = refl
