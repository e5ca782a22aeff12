use Rattle.std.proofs.Common.{rules, refl}
use Rattle.flat_base.proofs.lemmas.Tests.{and-true}
use Rattle.flat_ink.specs.Pixels.{centre}
use Rattle.flat_ink.proofs.lemmas.Windows.{pixel-left, pixel-right, pixel-top, pixel-bottom, read-between}
use Rattle.flat_ink.proofs.area.is_covered.Goals as goal

pub returns : goal.returns
returns c = λ across px py has.
    and-true (read-between c.args.r.x0 c.args.r.x1 (centre px) _ (search rules) (search rules)
    (c.if-not-is_across.ensures refl px (pixel-left c.args.area px py has) (pixel-right c.args.area px py has)))
    (read-between c.args.r.y0 c.args.r.y1 (centre py) _ (search rules) (search rules)
    (c.is_across-2.ensures across py (pixel-top c.args.area px py has) (pixel-bottom c.args.area px py has)))
