use Rattle.std.proofs.Common.{rules}
use Rattle.flat_geom.specs.Rectangles.{is_between}
use Rattle.flat_ink.specs.Pixels.{centre}
use Rattle.flat_ink.proofs.lemmas.Windows.{not-right, pixel-top, pixel-bottom, read-between}
use Rattle.flat_ink.proofs.area.is_missed.Goals as goal

pub returns : goal.returns
returns c = λ beside px py has.
    not-right (is_between c.args.r.x0 c.args.r.x1 (centre px)) (is_between c.args.r.y0 c.args.r.y1 (centre py))
    (read-between c.args.r.y0 c.args.r.y1 (centre py) _ (search rules) (search rules)
    (c.is_beside-2.ensures beside py (pixel-top c.args.area px py has) (pixel-bottom c.args.area px py has)))
