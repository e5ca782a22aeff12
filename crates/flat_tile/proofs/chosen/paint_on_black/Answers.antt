use Rattle.std.proofs.Common.{◌∙◌, ap, arith}
use Rattle.flat_ink.specs.Areas.{has_pixel}
use Rattle.flat_tile.specs.Tiles.{x_at, y_at, channel_at}
use Rattle.flat_ink.specs.declared.area.Area.{Area}
use Rattle.flat_tile.proofs.Fresh.{drawn-on-black}
use Rattle.flat_tile.proofs.lemmas.Items.{tile-has-byte}
use Rattle.flat_tile.proofs.lemmas.Planes.{some-pixels}
use Rattle.flat_tile.proofs.chosen.paint_on_black.Goals as goal

pub returns : goal.returns
returns c = λ m small.
    drawn-on-black (channel_at c.args.tile m) c.args.item.now (has_pixel c.area.result (x_at c.args.tile m) (y_at c.args.tile m))
    (x_at c.args.tile m) (y_at c.args.tile m) _ _
    (ap (λ (area : Area). has_pixel area (x_at c.args.tile m) (y_at c.args.tile m)) c.area.ensures
    ∙ tile-has-byte c.args.tile m c.requires.tile (some-pixels c.args.tile c.requires.tile))
    (c.blacken_all.ensures m small) (c.paint_prepared.ensures m (omega (arith, small, c.blacken_all.auto.bytes)))
