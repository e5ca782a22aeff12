use Rattle.flat_tile.proofs.Preparing.{stamp-toned}
use Rattle.flat_tile.proofs.laying.stamp_of.Goals as goal

pub returns-clause-values : goal.returns-clause-values
returns-clause-values c =
    stamp-toned c.args.steps c.args.area c.args.cut c.steps_from.result c.steps_from-2.result c.steps_from.ensures.values c.steps_from-2.ensures.values
    c.requires.covered c.requires.columns c.requires.rows
