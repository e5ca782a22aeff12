use Rattle.std.proofs.Common.{arith, sym, to_z-of_z}
use Rattle.flat_page.proofs.Filling.{fills_same, none_filled}
use Rattle.flat_page.proofs.Numerals.{minus, no_sign}
use Rattle.flat_page.proofs.digits.write_sign.Goals as goal

pub returns-then-value-ge0 : goal.returns-then-value-ge0
returns-then-value-ge0 c =
    let back = to_z-of_z c.ranges.value in
    fills_same (sym (no_sign c.args.value (rw back at c.if-value-ge0.true))) (none_filled c.args.bytes.now c.args.at (omega (arith, c.requires.room)))

pub returns : goal.returns
returns c = let back = to_z-of_z c.ranges.value in fills_same (sym (minus c.args.value (rw back at c.if-value-ge0.false))) c.write_byte.ensures
