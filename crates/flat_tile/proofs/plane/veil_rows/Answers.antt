use Rattle.std.proofs.Common.{arith}
use Rattle.flat_ink.specs.Colours.{covered}
use Rattle.flat_tile.proofs.lemmas.Rows.{row-step}
use Rattle.flat_tile.proofs.plane.veil_rows.Goals as goal

pub loop-py-preserved : goal.loop-py-preserved
loop-py-preserved c =
    row-step c.args.tile c.args.cut c.loop-py.py c.requires.tile.width c.requires.cut c.requires.some.columns (omega arith) c.loop-py-test.true
    (λ px py old. covered c.args.weight c.args.s old) c.args.plane.now c.loop-py.plane c.veil.new.line
    c.requires.size c.loop-py.auto.plane c.veil.auto.line c.veil.ensures c.loop-py.invariant
