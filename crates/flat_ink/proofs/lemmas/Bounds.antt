-- Bounds of pixels and of parts.
use Rattle.std.proofs.Common.{ℕ, ℤ, pos, ◌+◌, ◌*◌, ◌/◌, ◌%◌, ◌<◌, ◌≡◌, ◌-ℤ◌, ◌<ℤ◌, ◌≤ℤ◌, Bool, true, false, not, ◌&&◌, nat_lt, nat_le, int_lt, int_le}
use Rattle.std.proofs.Common.{unsigned_abs, if◌then◌else◌, FitsSigned, w64, to_z, of_z, ap, ◌∙◌, sym, arith}
use Rattle.std.proofs.lemmas.Int.{ints, to_z-of_z}
use Rattle.std.proofs.lemmas.Nat.{div_below, mod_below, div-add-mod', div-mul-add, mul-add-lt}
use Rattle.std.proofs.lemmas.Bool.Decides.{nat_tests}
use Rattle.flat_base.proofs.lemmas.Tests.{and-left, and-right}
use Rattle.flat_geom.specs.Rectangles.{is_between}
use Rattle.flat_ink.specs.Areas.{is_among}
use Rattle.flat_ink.specs.Pixels.{centre, depth}
use Rattle.flat_ink.specs.declared.axis.Axis.{Axis}

-- what a test says
pub int-le : (a b : ℤ) → int_le a b ≡ true → a ≤ℤ b
int-le a b h = grind (arith, ints)

pub int-lt : (a b : ℤ) → int_lt a b ≡ true → a <ℤ b
int-lt a b h = grind (arith, ints)

from-low : (low high c : ℤ) → low ≤ℤ c → c <ℤ high → unsigned_abs (c -ℤ low) < unsigned_abs (high -ℤ low)
from-low low high c h k = omega (arith, ints)

from-high : (low high c : ℤ) → low ≤ℤ c → c <ℤ high → unsigned_abs ((high -ℤ pos 1) -ℤ c) < unsigned_abs (high -ℤ low)
from-high low high c h k = omega (arith, ints)

both-ways : (low high c : ℤ) (b : Bool) → low ≤ℤ c → c <ℤ high → unsigned_abs (if b then c -ℤ low else (high -ℤ pos 1) -ℤ c) < unsigned_abs (high -ℤ low)
both-ways low high c true h k = from-low low high c h k
both-ways low high c false h k = from-high low high c h k

-- a pixel within an item lies less deep than the item is wide
pub depth-below : (axis : Axis) (p : ℕ) → is_between axis.low axis.high (centre p) ≡ true → depth axis p < unsigned_abs (axis.high -ℤ axis.low)
depth-below axis p h =
    both-ways axis.low axis.high (centre p) (int_lt (pos 0) axis.entry)
    (int-le _ _ (and-left _ _ h)) (int-lt _ _ (and-right (int_le axis.low (centre p)) _ h))

-- so its part is one of those that there are
pub part-below : (d count extent : ℕ) → d < extent → 0 < count → d * count / extent < count
part-below d count extent h k = grind (arith, div_below (d * count) extent count)

-- a part that is as wide as the others
pub wide-part : (d count k extent : ℕ) → 0 < count → 0 < k → extent ≡ count * k → d / k ≡ d * count / extent
wide-part d count k extent some wide e =
    let rest : d % k * count + 0 < count * k = mul-add-lt (d % k) count 0 k (mod_below d k wide) some in
    let cut : (d / k * k + d % k) * count ≡ d * count = ap (λ (n : ℕ). n * count) (div-add-mod' d k) in
    let place : d / k * (count * k) + d % k * count ≡ (d / k * k + d % k) * count = grind arith in
    sym (div-mul-add (d / k) (count * k) (d % k * count) (omega (arith, rest)))
    ∙ ap (λ (n : ℕ). n / (count * k)) (place ∙ cut)
    ∙ ap (λ (m : ℕ). d * count / m) (sym e)

-- a test from below is the opposite of the test from above
le-not_lt : (a b : ℕ) → nat_le a b ≡ not (nat_lt b a)
le-not_lt a b = grind (arith, nat_tests)

int_le-not_lt : (a b : ℤ) → int_le a b ≡ not (int_lt b a)
int_le-not_lt a b = grind (arith, ints)

-- bounds that tell pixels as places tell their centres
pub among-between : (low high : ℕ) (from to : ℤ) (p : ℕ) → nat_lt p low ≡ int_lt (centre p) from → nat_lt p high ≡ int_lt (centre p) to
    → is_among low high p ≡ is_between from to (centre p)
among-between low high from to p h k =
    ap (λ b. b && nat_lt p high) (le-not_lt low p ∙ ap not h ∙ sym (int_le-not_lt from (centre p))) ∙ ap (λ b. int_le from (centre p) && b) k

-- the same of bounds that are read back from their bits
pub among-between-read : (low high : ℕ) (from to : ℤ) (p : ℕ) → FitsSigned w64 from → FitsSigned w64 to
    → nat_lt p low ≡ int_lt (centre p) (to_z w64 (of_z w64 from)) → nat_lt p high ≡ int_lt (centre p) (to_z w64 (of_z w64 to))
    → is_among low high p ≡ is_between from to (centre p)
among-between-read low high from to p f g h k =
    among-between low high from to p (h ∙ ap (int_lt (centre p)) (to_z-of_z w64 from f)) (k ∙ ap (int_lt (centre p)) (to_z-of_z w64 to g))
