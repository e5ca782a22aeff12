use Rattle.std.proofs.Common.{◌+◌}
use Rattle.std.proofs.lemmas.List.Elements.{All-drop, All-take}
use Rattle.flat_drawable.specs.Drawable.{IsDrawable}
use Rattle.flat_tile.proofs.chosen.draw.Goals as goal

pub paint_all-requires-clause-items : goal.paint_all-requires-clause-items
paint_all-requires-clause-items c = All-take IsDrawable _ _ (All-drop IsDrawable (c.first_seen-first.result + 1) c.args.items.now c.requires.items)
