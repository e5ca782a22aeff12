-- What is seen of a display that keeps its picture.
use Rattle.std.specs.Prelude.{ℕ, ◌*◌, Bool, ◌&&◌, nat_lt, nat_le, cond, List, Option, None, Some}
use Rattle.flat_io.specs.Kept.{counted}
use Rattle.flat_render.specs.declared.tile_grid.TheConstants.{PIXELS_MAX}
use Rattle.flat_ink.specs.Pixels.{pixel}
use Rattle.flat_scene.specs.declared.frames.DrawItem.{DrawItem}

-- its sides in pixels, the draw list that it shows, and how many shows failed
pub record Screen : Type 0 where
  pub width : ℕ
  pub height : ℕ
  pub items : List DrawItem
  pub faults : ℕ

-- a picture has pixels, and not too many
abbrev pub has_pixels : ℕ → ℕ → Bool
has_pixels w h = nat_lt 0 w && nat_lt 0 h && nat_le (w * h) PIXELS_MAX

-- the colour of a pixel on it
abbrev pub colour_at : Screen → ℕ → ℕ → Option (List ℕ)
colour_at d x y = cond (nat_lt x d.width && nat_lt y d.height) (Some (pixel d.items x y)) None

-- after a show that failed: the picture stays
abbrev pub after_failure : Screen → Screen
after_failure d = record d { faults = counted d.faults }
