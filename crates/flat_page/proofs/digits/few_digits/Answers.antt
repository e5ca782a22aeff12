use Rattle.std.proofs.Common.{◌/◌, arith, sym}
use Rattle.itoa.proofs.Decimal.{length_one, length_pair, length_two}
use Rattle.flat_page.proofs.digits.few_digits.Goals as goal

pub returns-then-n-lt10 : goal.returns-then-n-lt10
returns-then-n-lt10 c = sym (length_one c.args.n c.if-n-lt10.true)

pub returns-then-n-lt100 : goal.returns-then-n-lt100
returns-then-n-lt100 c = sym (length_two c.args.n (omega (arith, c.if-n-lt10.false)) c.if-n-lt100.true)

pub returns-then-n-lt1000 : goal.returns-then-n-lt1000
returns-then-n-lt1000 c =
    let more = length_pair c.args.n (omega (arith, c.if-n-lt100.false)) (omega (arith, c.requires.small)) in
    let one = length_one (c.args.n / 100) (omega (arith, c.if-n-lt1000.true)) in
    omega (arith, more, one)

pub returns : goal.returns
returns c =
    let more = length_pair c.args.n (omega (arith, c.if-n-lt1000.false)) (omega (arith, c.requires.small)) in
    let two = length_two (c.args.n / 100) (omega (arith, c.if-n-lt1000.false)) (omega (arith, c.requires.small)) in
    omega (arith, more, two)
