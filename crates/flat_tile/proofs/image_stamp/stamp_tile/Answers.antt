use Rattle.std.proofs.Common.{if◌then◌else◌, arith}
use Rattle.flat_ink.specs.Areas.{has_pixel}
use Rattle.flat_tile.specs.Preparing.{stamped}
use Rattle.flat_tile.specs.Tiles.{x_of, y_of, pixels_of}
use Rattle.flat_tile.proofs.lemmas.Planes.{some-pixels}
use Rattle.flat_tile.proofs.ThreePlanes.{planes-changed}
use Rattle.flat_tile.proofs.image_stamp.stamp_tile.Goals as goal

pub returns : goal.returns
returns c = λ m small.
    planes-changed (pixels_of c.args.tile) m
    (λ n k old. if has_pixel c.args.it.now.cut (x_of c.args.tile k) (y_of c.args.tile k) then stamped c.args.it.now n (x_of c.args.tile k) (y_of c.args.tile k)
    else old)
    c.args.bytes.now _ _ _ _ c.stamp_rows.new.red c.stamp_rows.new.green c.stamp_rows.new.blue
    (some-pixels c.args.tile c.requires.tile) (omega (arith, c.requires.size, small))
    c.split_at_mut-red.ensures.value c.split_at_mut-green.ensures.value
    (omega (arith, c.split_at_mut-red.ensures.front_len)) (omega (arith, c.split_at_mut-green.ensures.front_len))
    (omega (arith, c.requires.size, c.split_at_mut-red.ensures.back_len, c.split_at_mut-green.ensures.back_len))
    (omega (arith, c.stamp_rows.auto.red, c.split_at_mut-red.ensures.front_len))
    (omega (arith, c.stamp_rows.auto.green, c.split_at_mut-green.ensures.front_len))
    (omega (arith, c.stamp_rows.auto.blue, c.requires.size, c.split_at_mut-red.ensures.back_len, c.split_at_mut-green.ensures.back_len))
    c.stamp_rows.ensures.red c.stamp_rows.ensures.green c.stamp_rows.ensures.blue
