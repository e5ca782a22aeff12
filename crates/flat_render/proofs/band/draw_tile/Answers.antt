use Rattle.std.proofs.Common.{◌∙◌}
use Rattle.flat_tile.specs.Chosen.{chosen}
use Rattle.flat_tile.specs.Tiles.{tile_area}
use Rattle.flat_render.proofs.Bands.{seen-drawn-in}
use Rattle.flat_render.proofs.Choices.{choice-all}
use Rattle.flat_render.proofs.band.draw_tile.Goals as goal

pub returns : goal.returns
returns c = λ m small.
    c.draw_chosen.ensures m small
    ∙ seen-drawn-in c.args.tile c.args.items.now (chosen c.args.items.now c.args.places.now) m c.requires.tile
    (choice-all (tile_area c.args.tile) c.args.items.now c.args.places.now c.requires.places)
