use Rattle.std.proofs.Common.{arith, refl}
use Rattle.std.proofs.lemmas.Int.{ints}
use Rattle.flat_drawable.proofs.is_within.Goals as goal

pub returns : goal.returns
returns c = (λ _. record { x0 = omega (arith, ints); y0 = omega (arith, ints); x1 = omega (arith, ints); y1 = omega (arith, ints) }, λ _. refl)

pub returns-then-inner-outer : goal.returns-then-inner-outer
returns-then-inner-outer c = (λ never. (cc), λ within. absurd (omega (arith, ints)))

pub returns-then-inner-outer-2 : goal.returns-then-inner-outer-2
returns-then-inner-outer-2 c = (λ never. (cc), λ within. absurd (omega (arith, ints)))

pub returns-then-inner-outer-3 : goal.returns-then-inner-outer-3
returns-then-inner-outer-3 c = (λ never. (cc), λ within. absurd (omega (arith, ints)))

pub returns-then-inner-outer-4 : goal.returns-then-inner-outer-4
returns-then-inner-outer-4 c = (λ never. (cc), λ within. absurd (omega (arith, ints)))
