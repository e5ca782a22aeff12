use Rattle.std.proofs.Common.{◌≡◌, ◌∙◌, ap, true, arith}
use Rattle.flat_ink.specs.Areas.{has_pixel}
use Rattle.flat_tile.specs.Tiles.{x_at, y_at, channel_at, tile_area}
use Rattle.flat_ink.specs.declared.area.Area.{Area}
use Rattle.flat_tile.proofs.Fresh.{drawn-over, tile-covered}
use Rattle.flat_tile.proofs.lemmas.Items.{tile-has-byte}
use Rattle.flat_tile.proofs.lemmas.Planes.{some-pixels}
use Rattle.flat_tile.proofs.chosen.paint_over.Goals as goal

pub returns : goal.returns
returns c = λ m small.
    let has : has_pixel (tile_area c.args.tile) (x_at c.args.tile m) (y_at c.args.tile m) ≡ true =
    tile-has-byte c.args.tile m c.requires.tile (some-pixels c.args.tile c.requires.tile) in
    drawn-over (channel_at c.args.tile m) c.args.item.now (has_pixel c.area.result (x_at c.args.tile m) (y_at c.args.tile m))
    (x_at c.args.tile m) (y_at c.args.tile m) _ _
    (ap (λ (area : Area). has_pixel area (x_at c.args.tile m) (y_at c.args.tile m)) c.area.ensures ∙ has)
    (c.requires.prepared.replaces c.requires.over.replaces)
    (tile-covered c.args.item.now c.args.it.now c.args.tile (x_at c.args.tile m) (y_at c.args.tile m) c.requires.prepared c.requires.over.within
    c.requires.tile has)
    (c.paint_prepared.ensures m small)
