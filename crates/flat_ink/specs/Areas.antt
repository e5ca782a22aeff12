-- Areas of whole pixels.
use Rattle.std.specs.Prelude.{ℕ, Bool, ◌&&◌, ◌<◌, ◌≤◌, ◌^◌, nat_le, nat_lt}
use Rattle.flat_ink.specs.declared.area.Area.{Area}

-- whether a number is at least the lower bound and below the upper one
abbrev pub is_among : ℕ → ℕ → ℕ → Bool
is_among low high n = nat_le low n && nat_lt n high

-- whether an area has a pixel
abbrev pub has_pixel : Area → ℕ → ℕ → Bool
has_pixel area px py = is_among area.x0 area.x1 px && is_among area.y0 area.y1 py

-- the bounds of the second area lie in the first
pub record IsInArea (outer inner : Area) : Type 0 where
  pub x0 : outer.x0 ≤ inner.x0
  pub y0 : outer.y0 ≤ inner.y0
  pub x1 : inner.x1 ≤ outer.x1
  pub y1 : inner.y1 ≤ outer.y1

-- an area that has a pixel, and none that is too far out to be counted
pub record IsWindow (area : Area) : Type 0 where
  pub columns : area.x0 < area.x1
  pub rows : area.y0 < area.y1
  pub right : area.x1 < 2 ^ 29
  pub bottom : area.y1 < 2 ^ 29
