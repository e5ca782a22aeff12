-- What hides what is below it, and what isn't seen.
use Rattle.std.specs.Prelude.{◌≡◌, ℕ, true}
use Rattle.flat_scene.specs.declared.calls.BlendMode.TheVariants.{Src}
use Rattle.flat_scene.specs.declared.frames.DrawItem.{DrawItem}
use Rattle.flat_ink.specs.declared.area.Area.{Area}
use Rattle.flat_ink.specs.Areas.{has_pixel}
use Rattle.flat_ink.specs.Pixels.{covers}

-- an item replaces what is below it, and covers an area
pub record HidesIn (item : DrawItem) (window : Area) : Type 0 where
  pub replaces : item.blend ≡ Src
  pub covers_all : (px py : ℕ) → has_pixel window px py ≡ true → covers item px py ≡ true
