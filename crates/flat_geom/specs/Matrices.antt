-- Matrices in fixed point: scaling and moving along both axes, which may be exchanged first.
use Rattle.std.specs.Prelude.{ℕ, ℤ, pos, neg_ℤ, ◌+ℤ◌, ◌*ℤ◌, Bool, true, false, not, if◌then◌else◌}
use Rattle.flat_base.specs.Fixed.{fixed_product, entry_of, place_of}
use Rattle.flat_base.specs.declared.limits.TheConstants.{ONE}
use Rattle.flat_base.specs.declared.shapes.Orientation.{Orientation}
use Rattle.flat_base.specs.declared.shapes.Orientation.TheVariants.{Ccw0, Ccw90, Ccw180, Ccw270}
use Rattle.flat_geom.specs.declared.matrix.Matrix.{Matrix}

-- one unit, in fixed point
abbrev pub unit : ℤ
unit = pos ONE

-- the matrix that scales both axes alike
abbrev pub scaling_matrix : ℕ → Matrix
scaling_matrix ratio = record { swap = false; a = pos ratio; b = pos ratio; x = pos 0; y = pos 0 }

-- along one axis: the number, scaled and moved
abbrev pub scaled_and_moved : ℤ → ℤ → ℤ → ℤ
scaled_and_moved scale number offset = place_of (fixed_product scale number +ℤ offset)

-- where a matrix takes a point, whose x and y it exchanges first where it swaps
abbrev pub mapped_point : Matrix → ℤ → ℤ → ℤ × ℤ
mapped_point m px py = (
  scaled_and_moved m.a (if m.swap then py else px) m.x,
  scaled_and_moved m.b (if m.swap then px else py) m.y,
)

-- one scale through another
abbrev pub scaled_entry : ℤ → ℤ → ℤ
scaled_entry outer inner = entry_of (fixed_product outer inner)

-- the inner matrix seen through the outer one, which exchanges the inner one's axes where it swaps
abbrev pub composed : Matrix → Matrix → Matrix
composed outer inner = record {
  swap = if outer.swap then not inner.swap else inner.swap;
  a = scaled_entry outer.a (if outer.swap then inner.b else inner.a);
  b = scaled_entry outer.b (if outer.swap then inner.a else inner.b);
  x = scaled_and_moved outer.a (if outer.swap then inner.y else inner.x) outer.x;
  y = scaled_and_moved outer.b (if outer.swap then inner.x else inner.y) outer.y;
}

-- where so many units from the origin lie
abbrev pub place_of_units : ℤ → ℤ
place_of_units n = place_of (n *ℤ unit)

-- the matrix with these entries that moves by units
abbrev pub moving_matrix : Bool → ℤ → ℤ → ℤ → ℤ → Matrix
moving_matrix swap a b tx ty = record {
  swap = swap;
  a = entry_of a;
  b = entry_of b;
  x = place_of_units tx;
  y = place_of_units ty;
}

-- the matrix of a transform: it scales, then turns, then moves by units
abbrev pub local_matrix : ℕ → ℕ → Orientation → ℤ → ℤ → Matrix
local_matrix sx sy Ccw0 tx ty = moving_matrix false (pos sx) (pos sy) tx ty
local_matrix sx sy Ccw90 tx ty = moving_matrix true (pos sy) (neg_ℤ (pos sx)) tx ty
local_matrix sx sy Ccw180 tx ty = moving_matrix false (neg_ℤ (pos sx)) (neg_ℤ (pos sy)) tx ty
local_matrix sx sy Ccw270 tx ty = moving_matrix true (neg_ℤ (pos sy)) (pos sx) tx ty
