-- The definitions, computed.
use Rattle.std.proofs.Common.{◌-◌, ◌≡◌, refl, true, false, [], ◌∷◌}
use Rattle.std.specs.Prelude.{ℤ, pos, negsuc, Bool}
use Rattle.flat_scene.specs.declared.calls.BlendMode.{BlendMode}
use Rattle.flat_scene.specs.declared.calls.BlendMode.TheVariants.{Src, SrcOver}
use Rattle.flat_scene.specs.declared.calls.ImageFlip.{ImageFlip}
use Rattle.flat_scene.specs.declared.calls.ImageFlip.TheVariants.{Plain, LeftRight, UpDown}
use Rattle.flat_scene.specs.declared.frames.DrawItem.{DrawItem}
use Rattle.flat_scene.specs.declared.frames.Paint.{Paint}
use Rattle.flat_scene.specs.declared.frames.Paint.TheVariants.{Fill, Image}
use Rattle.flat_ink.specs.declared.channel_ink.BlendRule.TheVariants.{Cover}
use Rattle.flat_ink.specs.declared.channel_ink.ChannelValues.TheVariants.{Even, Across, Down}
use Rattle.flat_ink.specs.Areas.{has_pixel}
use Rattle.flat_ink.specs.Channels.{channel_painted, channel_after}
use Rattle.flat_ink.specs.Colours.{texel_of, replaced, covered, laid, laid_colour}
use Rattle.flat_ink.specs.Inks.{tone, mix_of, mixed, shade_at}
use Rattle.flat_ink.specs.Pixels.{centre, covers, part_of, along_x, flipped_column, flipped_row, painted, pixel}

-- ---- colours

a_texel : texel_of 3 1 2 1 ≡ 144 ∷ 64 ∷ 96 ∷ 255 ∷ []
a_texel = refl

channels_wrap : texel_of 8 0 4 5 ≡ 0 ∷ 64 ∷ 0 ∷ 255 ∷ []
channels_wrap = refl

-- rounded down
at_half : replaced 32768 255 ≡ 127
at_half = refl

over_white : covered 128 0 255 ≡ 127
over_white = refl

replaces : laid Src 32768 255 200 9 ≡ 100
replaces = refl

covers_half : laid SrcOver 32768 255 200 100 ≡ 149
covers_half = refl

laid_over : laid_colour SrcOver 65536 (0 ∷ 0 ∷ 255 ∷ 128 ∷ []) (255 ∷ 255 ∷ 255 ∷ []) ≡ 127 ∷ 127 ∷ 255 ∷ []
laid_over = refl

toned : mixed (mix_of Src 32768 255) (tone Src 32768 200) 9 ≡ laid Src 32768 255 200 9
toned = refl

-- ---- items

-- an item that is turned by the entries of its matrix, of two by one units, wholly seen in a square of two
abbrev item : Paint → Bool → ℤ → ℤ → ℤ → ℤ → BlendMode → DrawItem
item paint swap a b x y blend = record {
  session = record { 0 = 1 };
  serial = 1;
  paint = paint;
  w = 2;
  h = 1;
  matrix = record { swap = swap; a = a; b = b; x = x; y = y };
  visible = record { x0 = pos 0; y0 = pos 0; x1 = pos 131072; y1 = pos 65536 };
  opacity = 65536;
  blend = blend;
}

abbrev white : DrawItem
white = item (Fill (255 ∷ 255 ∷ 255 ∷ 255 ∷ [])) false (pos 65536) (pos 65536) (pos 0) (pos 0) Src

-- it covers the left pixel alone
abbrev blue : DrawItem
blue = record (item (Fill (0 ∷ 0 ∷ 255 ∷ 128 ∷ [])) false (pos 65536) (pos 65536) (pos 0) (pos 0) SrcOver)
    { visible = record { x0 = pos 0; y0 = pos 0; x1 = pos 65536; y1 = pos 65536 } }

abbrev image : ImageFlip → DrawItem
image flip = item (Image (record { 0 = 0 }) 0 (record { x = pos 0; y = pos 0; w = pos 2; h = pos 1 }) flip) false (pos 65536) (pos 65536) (pos 0) (pos 0) Src

a_centre : centre 1 ≡ pos 98304
a_centre = refl

-- a rectangle that ends at a centre doesn't have it
ends_before_it : covers (record blue { visible = record { x0 = pos 0; y0 = pos 0; x1 = pos 98304; y1 = pos 65536 } }) 1 0 ≡ false
ends_before_it = refl

begins_at_it : covers (record blue { visible = record { x0 = pos 98304; y0 = pos 0; x1 = pos 98305; y1 = pos 65536 } }) 1 0 ≡ true
begins_at_it = refl

-- the columns of an image, and the same from its other end
second_part : part_of (along_x (image Plain)) 2 1 ≡ 1
second_part = refl

from_the_end : part_of (record (along_x (image Plain)) { entry = negsuc 65535 }) 2 1 ≡ 0
from_the_end = refl

other_column : flipped_column LeftRight 2 0 ≡ 1
other_column = refl

other_row : flipped_row UpDown 5 1 ≡ 3
other_row = refl

-- ---- pixels

blue_over_white : pixel (white ∷ blue ∷ []) 0 0 ≡ 127 ∷ 127 ∷ 255 ∷ []
unfolding painted
blue_over_white = refl

white_alone : pixel (white ∷ blue ∷ []) 1 0 ≡ 255 ∷ 255 ∷ 255 ∷ []
unfolding painted
white_alone = refl

-- in the other order the white replaces what is there
white_last : pixel (blue ∷ white ∷ []) 0 0 ≡ 255 ∷ 255 ∷ 255 ∷ []
unfolding painted
white_last = refl

flipped_image : pixel (image LeftRight ∷ []) 0 0 ≡ 64 ∷ 0 ∷ 0 ∷ []
unfolding painted
flipped_image = refl

nothing_drawn : pixel [] 7 7 ≡ 0 ∷ 0 ∷ 0 ∷ []
nothing_drawn = refl

one_channel : channel_after 1 (white ∷ blue ∷ []) 0 0 0 ≡ 127
unfolding channel_painted
one_channel = refl

-- ---- areas and ink

an_area : has_pixel (record { x0 = 2; y0 = 3; x1 = 4; y1 = 4 }) 3 3 ≡ true
an_area = refl

beside_it : has_pixel (record { x0 = 2; y0 = 3; x1 = 4; y1 = 4 }) 4 3 ≡ false
beside_it = refl

of_a_column : shade_at (Across (5 ∷ 6 ∷ 7 ∷ [])) 2 0 ≡ 7
of_a_column = refl

of_a_row : shade_at (Down (5 ∷ 6 ∷ 7 ∷ [])) 2 0 ≡ 5
of_a_row = refl

of_both : mixed (Cover 255) (shade_at (Even 9) 2 0) 77 ≡ 9
of_both = refl
