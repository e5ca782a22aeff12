-- What is seen of a picture.
use Rattle.std.specs.Prelude.{◌≡◌, ℕ, ◌<◌, List, [], ◌∷◌, slice_index}
use Rattle.flat_render.specs.declared.picture.Picture.{Picture}
use Rattle.flat_render.specs.Grids.{place_of}

abbrev pub width_of : Picture → ℕ
width_of picture = picture.grid.width

abbrev pub height_of : Picture → ℕ
height_of picture = picture.grid.height

-- a channel of a pixel
abbrev pub channel_of : Picture → ℕ → ℕ → ℕ → ℕ
channel_of picture c x y = slice_index picture.bytes.items (place_of picture.grid c x y)

-- the colour of a pixel
abbrev pub pixel_of : Picture → ℕ → ℕ → List ℕ
pixel_of picture x y = channel_of picture 0 x y ∷ channel_of picture 1 x y ∷ channel_of picture 2 x y ∷ []

-- a picture has these sides, and these colours
pub record Shows (picture : Picture) (w h : ℕ) (colour : ℕ → ℕ → List ℕ) : Type 0 where
  pub width : width_of picture ≡ w
  pub height : height_of picture ≡ h
  pub pixels : (x y : ℕ) → x < w → y < h → pixel_of picture x y ≡ colour x y
