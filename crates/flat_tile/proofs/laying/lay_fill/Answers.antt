use Rattle.std.proofs.Common.{◌<◌, length, arith}
use Rattle.std.specs.Prelude.{slice_index}
use Rattle.flat_ink.specs.Areas.{has_pixel}
use Rattle.flat_ink.specs.Inks.{mixed}
use Rattle.flat_tile.specs.Tiles.{x_at, y_at, pixels_of}
use Rattle.flat_tile.proofs.lemmas.Planes.{some-pixels}
use Rattle.flat_tile.proofs.Preparing.{by-channels}
use Rattle.flat_tile.proofs.laying.lay_fill.Goals as goal

pub returns : goal.returns
returns c = λ m small.
    let first : m < length c.lay_even.new.bytes = omega (arith, c.lay_even.auto.bytes) in
    let second : m < length c.lay_even-2.new.bytes = omega (arith, c.lay_even-2.auto.bytes) in
    by-channels (pixels_of c.args.tile) m (has_pixel c.args.cut (x_at c.args.tile m) (y_at c.args.tile m))
    (λ n old. mixed c.args.mix (slice_index c.args.tones n) old) _ _ _ _
    (some-pixels c.args.tile c.requires.tile) (omega (arith, c.requires.size))
    (c.lay_even.ensures.there m small) (c.lay_even.ensures.others m small)
    (c.lay_even-2.ensures.there m first) (c.lay_even-2.ensures.others m first)
    (c.lay_even-3.ensures.there m second) (c.lay_even-3.ensures.others m second)
