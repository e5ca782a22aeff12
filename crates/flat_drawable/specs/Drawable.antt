-- What every draw item of a frame has.
use Rattle.std.specs.Prelude.{pos, ◌≤◌, ◌≤ℤ◌}
use Rattle.flat_base.specs.declared.limits.TheConstants.{OPACITY_MAX}
use Rattle.flat_base.specs.declared.shapes.IntRect.{IntRect}
use Rattle.flat_base.specs.declared.shapes.Rect.{Rect}
use Rattle.flat_geom.specs.declared.matrix.Matrix.{Matrix}
use Rattle.flat_geom.specs.Rectangles.{mapped_rect, sized_rect}
use Rattle.flat_scene.specs.declared.frames.DrawItem.{DrawItem}
use Rattle.flat_scene.specs.declared.frames.Paint.{Paint}
use Rattle.flat_scene.specs.declared.frames.Paint.TheVariants.{Fill, Image}
use Rattle.flat_scene.specs.declared.frames.SceneMatrix.{SceneMatrix}

-- the second rectangle lies in the first
pub record IsWithin (outer inner : Rect) : Type 0 where
  pub x0 : outer.x0 ≤ℤ inner.x0
  pub y0 : outer.y0 ≤ℤ inner.y0
  pub x1 : inner.x1 ≤ℤ outer.x1
  pub y1 : inner.y1 ≤ℤ outer.y1

-- a part of a buffer: it has no negative corner, and sides of at least 1
pub record IsSample (sample : IntRect) : Type 0 where
  pub x : pos 0 ≤ℤ sample.x
  pub y : pos 0 ≤ℤ sample.y
  pub w : pos 1 ≤ℤ sample.w
  pub h : pos 1 ≤ℤ sample.h

-- what an image shows is a part of a buffer
abbrev pub HasSample : Paint → Type 0
HasSample (Fill rgba) = Unit {0}
HasSample (Image buffers index sample flip) = IsSample sample

-- the matrix of an item
abbrev pub matrix_of : SceneMatrix → Matrix
matrix_of m = record { swap = m.swap; a = m.a; b = m.b; x = m.x; y = m.y }

-- the rectangle of an item's size, on the display, uncut
abbrev pub full_rect : DrawItem → Rect
full_rect item = mapped_rect (matrix_of item.matrix) (sized_rect item.w item.h)

-- The visible part of an item lies in its rectangle, its opacity is at most one, and an image shows a part of a buffer.
pub record IsDrawable (item : DrawItem) : Type 0 where
  pub visible : IsWithin (full_rect item) item.visible
  pub opacity : item.opacity ≤ OPACITY_MAX
  pub sample : HasSample item.paint
