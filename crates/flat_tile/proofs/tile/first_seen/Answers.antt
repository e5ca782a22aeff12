use Rattle.std.proofs.Common.{◌<◌, ◌-◌, length, refl, arith}
use Rattle.flat_tile.proofs.CoveredUp.{hidden}
use Rattle.flat_tile.proofs.tile.first_seen.Goals as goal

pub returns-then-hides-clause-same : goal.returns-then-hides-clause-same
returns-then-hides-clause-same c = λ n px py has.
    let within : (length c.args.items.now - 1) - c.loop-n.n < length c.args.items.now = omega arith in
    hidden n c.args.items.now ((length c.args.items.now - 1) - c.loop-n.n) _ px py within
    (c.if-hides.ensures refl).replaces ((c.if-hides.ensures refl).covers_all px py has)
