-- The definitions, computed.
use Rattle.std.proofs.Common.{ℤ, pos, negsuc, ◌^◌, ◌≡◌, refl, Bool, true, false}
use Rattle.flat_base.specs.declared.shapes.Rect.{Rect}
use Rattle.flat_base.specs.declared.shapes.Orientation.TheVariants.{Ccw0, Ccw90}
use Rattle.flat_geom.specs.declared.matrix.Matrix.{Matrix}
use Rattle.flat_geom.specs.Matrices.{composed, local_matrix, mapped_point}
use Rattle.flat_geom.specs.Rectangles.{mapped_rect, shared_part, has_no_point}

abbrev matrix : Bool → ℤ → ℤ → ℤ → ℤ → Matrix
matrix swap a b x y = record { swap = swap; a = a; b = b; x = x; y = y }

abbrev rect : ℤ → ℤ → ℤ → ℤ → Rect
rect x0 y0 x1 y1 = record { x0 = x0; y0 = y0; x1 = x1; y1 = y1 }

-- with scales of 2 and 1, a quarter turn takes (3, 5) to (5, -6)
turned : mapped_point (local_matrix 131072 65536 Ccw90 (pos 0) (pos 0)) (pos 3) (pos 5) ≡ (pos 5, negsuc 5)
turned = refl

-- products are rounded towards 0, and the mapped corners are put in order
rounded : mapped_rect (matrix false (pos 32768) (negsuc 32767) (pos 0) (pos 0)) (rect (pos 1) (pos 1) (pos 3) (pos 3)) ≡ rect (pos 0) (negsuc 0) (pos 1) (pos 0)
rounded = refl

-- a move beyond the last place ends there
moved_far : local_matrix 65536 65536 Ccw0 (pos 2147483647) (pos 0) ≡ matrix false (pos 65536) (pos 65536) (pos (2 ^ 46)) (pos 0)
moved_far = refl

-- and a scale beyond the last entry
scaled_far : composed (matrix false (pos 16777216) (pos 16777216) (pos 0) (pos 0)) (matrix false (pos 16777216) (pos 16777216) (pos 0) (pos 0))
    ≡ matrix false (pos (2 ^ 31)) (pos (2 ^ 31)) (pos 0) (pos 0)
scaled_far = refl

-- two rectangles that only touch share nothing
touching : has_no_point (shared_part (rect (pos 0) (pos 0) (pos 4) (pos 4)) (rect (pos 4) (pos 0) (pos 8) (pos 4))) ≡ true
touching = refl
