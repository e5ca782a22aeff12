use Rattle.std.proofs.Common.{arith}
use Rattle.flat_page.proofs.Numerals.{few}
use Rattle.flat_page.proofs.page.Page.number.Goals as goal

pub write_digits-self-inside-requires : goal.write_digits-self-inside-requires
write_digits-self-inside-requires c =
    let most = few c.args.value c.ranges.value.fits in
    let room = c.in_ok-ensure_room.ensures.room in
    record { room = omega (arith, most, room, c.as_mut_slice.ensures.len) }
