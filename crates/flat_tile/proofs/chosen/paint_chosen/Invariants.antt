use Rattle.std.proofs.Common.{take}
use Rattle.flat_tile.specs.Chosen.{chosen}
use Rattle.flat_ink.specs.Channels.{channel_after}
use Rattle.flat_tile.proofs.lemmas.Items.{IsDrawnIn}
use Rattle.flat_tile.proofs.chosen.paint_chosen.Given as goal

abbrev pub invariant-loop-n : goal.invariant-loop-n
invariant-loop-n l = IsDrawnIn (λ c px py was. channel_after c (take l.n (chosen l.items l.places)) px py was) l.tile l.window l.initial.bytes l.bytes
