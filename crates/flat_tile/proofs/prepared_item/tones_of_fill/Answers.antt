use Rattle.flat_tile.proofs.Preparing.{fill-paint}
use Rattle.flat_tile.proofs.prepared_item.tones_of_fill.Goals as goal

pub returns : goal.returns
returns c = fill-paint c.args.item.now c.args.rgba c.args.area _ _ _ c.requires.fill c.tone_of.ensures c.tone_of-2.ensures c.tone_of-3.ensures
