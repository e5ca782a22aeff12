use Rattle.std.proofs.Common.{arith}
use Rattle.flat_page.proofs.Filling.{fills_then}
use Rattle.flat_page.proofs.Numerals.{few}
use Rattle.flat_page.proofs.digits.write_count.Goals as goal

pub write_digits-requires : goal.write_digits-requires
write_digits-requires c =
    let most = few c.args.value c.ranges.value.fits in
    let byte = c.write_byte-next.ensures in
    record { room = omega (arith, most, c.requires.room, byte.place, byte.long) }

pub returns-clause-fills : goal.returns-clause-fills
returns-clause-fills c = fills_then c.write_byte-next.ensures c.write_digits.ensures

pub returns-clause-short : goal.returns-clause-short
returns-clause-short c =
    let most = few c.args.value c.ranges.value.fits in
    let byte = c.write_byte-next.ensures in
    let digits = c.write_digits.ensures in
    omega (arith, most, byte.place, digits.place)
