use Rattle.std.proofs.Common.{take}
use Rattle.flat_ink.specs.Channels.{channel_after}
use Rattle.flat_tile.proofs.lemmas.Items.{IsDrawnIn}
use Rattle.flat_tile.proofs.tile.paint_all.Given as goal

abbrev pub invariant-loop-n : goal.invariant-loop-n
invariant-loop-n l = IsDrawnIn (λ c px py was. channel_after c (take l.n l.items) px py was) l.tile l.window l.initial.bytes l.bytes
