-- Rectangles of places: from the lower bounds, which belong to them, to the upper ones, which don't.
use Rattle.std.specs.Prelude.{ℕ, ℤ, pos, ◌*◌, ◌+ℤ◌, ◌*ℤ◌, Bool, ◌&&◌, ◌||◌, int_lt, int_le}
use Rattle.std.specs.Int.{int_min, int_max}
use Rattle.flat_base.specs.declared.limits.TheConstants.{ONE}
use Rattle.flat_base.specs.declared.shapes.Rect.{Rect}
use Rattle.flat_base.specs.declared.shapes.IntRect.{IntRect}
use Rattle.flat_geom.specs.declared.matrix.Matrix.{Matrix}
use Rattle.flat_geom.specs.Matrices.{unit, mapped_point}

-- the rectangle between two corners, whichever way they lie
abbrev pub spanned : ℤ × ℤ → ℤ × ℤ → Rect
spanned p q = record {
  x0 = int_min p.0 q.0;
  y0 = int_min p.1 q.1;
  x1 = int_max p.0 q.0;
  y1 = int_max p.1 q.1;
}

-- the rectangle between the mapped corners
abbrev pub mapped_rect : Matrix → Rect → Rect
mapped_rect m r = spanned (mapped_point m r.x0 r.y0) (mapped_point m r.x1 r.y1)

-- what two rectangles share
abbrev pub shared_part : Rect → Rect → Rect
shared_part p q = record {
  x0 = int_max p.x0 q.x0;
  y0 = int_max p.y0 q.y0;
  x1 = int_min p.x1 q.x1;
  y1 = int_min p.y1 q.y1;
}

-- whether a rectangle has no point
abbrev pub has_no_point : Rect → Bool
has_no_point r = int_le r.x1 r.x0 || int_le r.y1 r.y0

-- whether a number is at least the lower bound and below the upper one
abbrev pub is_between : ℤ → ℤ → ℤ → Bool
is_between low high number = int_le low number && int_lt number high

-- whether a rectangle has a point
abbrev pub has_point : Rect → ℤ → ℤ → Bool
has_point r x y = is_between r.x0 r.x1 x && is_between r.y0 r.y1 y

-- a rectangle of whole units, in places: exact, so its bounds may lie beyond those of a mapped place
abbrev pub in_places : IntRect → Rect
in_places r = record {
  x0 = r.x *ℤ unit;
  y0 = r.y *ℤ unit;
  x1 = (r.x +ℤ r.w) *ℤ unit;
  y1 = (r.y +ℤ r.h) *ℤ unit;
}

-- the rectangle of a size in units, with its corner at the origin
abbrev pub sized_rect : ℕ → ℕ → Rect
sized_rect w h = record { x0 = pos 0; y0 = pos 0; x1 = pos (w * ONE); y1 = pos (h * ONE) }
