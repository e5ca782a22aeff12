use Rattle.std.proofs.Common.{arith}
use Rattle.flat_ink.specs.Inks.{mixed}
use Rattle.flat_tile.proofs.Wholes.{whole-rows}
use Rattle.flat_tile.proofs.plane.mix_plane.Goals as goal

pub returns : goal.returns
returns c =
    whole-rows c.args.tile c.args.cut c.requires.tile.width c.requires.cut c.requires.some.rows (omega arith)
    (λ old. mixed c.args.mix c.args.s old) c.args.plane.now c.mix_one.new.line c.requires.size c.mix_one.auto.line c.mix_one.ensures
