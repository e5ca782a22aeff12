use Rattle.std.proofs.Common.{arith}
use Rattle.flat_tile.proofs.lemmas.Rows.{row-step}
use Rattle.flat_tile.proofs.plane.wash_rows_by.Goals as goal

pub loop-py-preserved : goal.loop-py-preserved
loop-py-preserved c =
    row-step c.args.tile c.args.cut c.loop-py.py c.requires.tile.width c.requires.cut c.requires.some.columns (omega arith) c.loop-py-test.true
    (λ px py old. c.args.s) c.args.plane.now c.loop-py.plane c.wash_ends.new.line
    c.requires.size c.loop-py.auto.plane c.wash_ends.auto.line c.wash_ends.ensures c.loop-py.invariant
