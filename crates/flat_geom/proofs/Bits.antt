-- Signed numbers that are written to bits and read back.
use Rattle.std.proofs.Common.{ℕ, ℤ, pos, neg_ℤ, ◌+ℤ◌, ◌-ℤ◌, ◌*ℤ◌, ◌<◌, ◌≡◌, ◌^◌, FitsSigned, to_z, of_z, w32, w64, arith, lit<}
use Rattle.std.specs.Int.{w128}
use Rattle.std.proofs.lemmas.Int.{fits_signed_mul, ints}
use Rattle.flat_base.specs.Fixed.{fixed_product}

-- 128 bits hold a scaled number and its offset
pub moved_fits : (scale number offset : ℤ) → FitsSigned w64 scale → FitsSigned w64 number → FitsSigned w64 offset
    → FitsSigned w128 (fixed_product scale number +ℤ offset)
moved_fits scale number offset f g h =
    let product : FitsSigned w128 (scale *ℤ number) = fits_signed_mul w128 scale number (2 ^ 63) (2 ^ 63) (omega (arith, ints)) (omega (arith, ints))
    (lit< tt) in
    omega (arith, ints)

-- a number of 32 bits times 65,536 fits 64 bits
pub bound_read_back : (n : ℤ) → FitsSigned w32 n → to_z w64 (of_z w64 (to_z w64 (of_z w64 (to_z w32 (of_z w32 n))) *ℤ pos 65536)) ≡ n *ℤ pos 65536
bound_read_back n f = omega (arith, ints)

-- and so does the sum of two
pub sum_read_back : (n m : ℤ) → FitsSigned w32 n → FitsSigned w32 m
    → to_z w64 (of_z w64 (to_z w64 (of_z w64 (to_z w64 (of_z w64 (to_z w32 (of_z w32 n))) +ℤ to_z w64 (of_z w64 (to_z w32 (of_z w32 m))))) *ℤ pos 65536))
    ≡ (n +ℤ m) *ℤ pos 65536
sum_read_back n m f g = omega (arith, ints)

-- a number of 32 bits, in 128 bits, is that number
pub widened : (n : ℕ) → n < 2 ^ 32 → to_z w128 n ≡ pos n
widened n h = omega (arith, ints)

-- and its negative is the negative
pub negative_read_back : (n : ℕ) → n < 2 ^ 32 → to_z w128 (of_z w128 (pos 0 -ℤ to_z w128 n)) ≡ neg_ℤ (pos n)
negative_read_back n h = omega (arith, ints)
