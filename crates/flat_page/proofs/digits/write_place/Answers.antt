use Rattle.std.proofs.Common.{arith, ap, to_z-of_z, ◌++◌, ◌∙◌}
use Rattle.std.specs.Fmt.{decimal}
use Rattle.flat_page.specs.Rooms.{sign}
use Rattle.flat_page.proofs.Filling.{fills_same, fills_then}
use Rattle.flat_page.proofs.Numerals.{few, few_signs, signed}
use Rattle.flat_page.proofs.digits.write_place.Goals as goal

pub write_sign-third-requires : goal.write_sign-third-requires
write_sign-third-requires c = let byte = c.write_byte-second.ensures in record { room = omega (arith, c.requires.room, byte.place, byte.long) }

pub write_digits-requires : goal.write_digits-requires
write_digits-requires c =
    let most = few c.unsigned_abs.result (omega arith) in
    let signs = few_signs c.args.value in
    let back = to_z-of_z c.ranges.value in
    let byte = c.write_byte-second.ensures in
    let before = rw back at c.write_sign-third.ensures in
    record { room = omega (arith, most, signs, c.requires.room, byte.place, byte.long, before.place, before.long) }

pub returns-clause-fills : goal.returns-clause-fills
returns-clause-fills c =
    let back = to_z-of_z c.ranges.value in
    let whole = ap (λ n. sign c.args.value ++ decimal n) (rw back at c.unsigned_abs.ensures.value) ∙ signed c.args.value in
    fills_then c.write_byte-second.ensures (fills_same whole (fills_then (rw back at c.write_sign-third.ensures) c.write_digits.ensures))

pub returns-clause-short : goal.returns-clause-short
returns-clause-short c =
    let most = few c.unsigned_abs.result (omega arith) in
    let signs = few_signs c.args.value in
    let back = to_z-of_z c.ranges.value in
    let before = rw back at c.write_sign-third.ensures in
    omega (arith, most, signs, c.write_byte-second.ensures.place, before.place, c.write_digits.ensures.place)
