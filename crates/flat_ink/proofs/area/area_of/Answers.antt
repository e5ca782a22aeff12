use Rattle.std.proofs.Common.{rules, ap, ◌∙◌, ◌&&◌}
use Rattle.flat_geom.specs.Rectangles.{is_between}
use Rattle.flat_ink.specs.Areas.{is_among}
use Rattle.flat_ink.specs.Pixels.{centre}
use Rattle.flat_ink.proofs.lemmas.Bounds.{among-between-read}
use Rattle.flat_ink.proofs.area.area_of.Goals as goal

pub returns : goal.returns
returns c = λ px py h k.
    ap (λ b. b && is_among c.centres_below-2.result c.centres_below-4.result py)
    (among-between-read _ _ _ _ px (search rules) (search rules) (c.centres_below.ensures px h) (c.centres_below-3.ensures px h))
    ∙ ap (λ b. is_between c.args.r.x0 c.args.r.x1 (centre px) && b)
    (among-between-read _ _ _ _ py (search rules) (search rules) (c.centres_below-2.ensures py k) (c.centres_below-4.ensures py k))
