use Rattle.std.proofs.Common.{arith}
use Rattle.itoa.proofs.Decimal.{length_four}
use Rattle.flat_page.proofs.Numerals.{few}
use Rattle.flat_page.proofs.digits.count_digits.Goals as goal

pub loop-left-init : goal.loop-left-init
loop-left-init c = omega arith

pub overflow_add-digits : goal.overflow_add-digits
overflow_add-digits c = record { fits = let most = few c.args.n c.ranges.n.fits in omega (arith, most, c.loop-left.invariant) }

pub loop-left-smaller : goal.loop-left-smaller
loop-left-smaller c = omega (arith, c.loop-left-test.true)

pub loop-left-preserved : goal.loop-left-preserved
loop-left-preserved c =
    let long = length_four c.loop-left.left c.loop-left-test.true c.loop-left.auto.left-fits.fits in
    omega (arith, long, c.loop-left.invariant)

pub overflow_add-result : goal.overflow_add-result
overflow_add-result c =
    record { fits = let most = few c.args.n c.ranges.n.fits in omega (arith, most, c.loop-left.invariant, c.few_digits.ensures) }

pub returns : goal.returns
returns c = omega (arith, c.loop-left.invariant, c.few_digits.ensures)
