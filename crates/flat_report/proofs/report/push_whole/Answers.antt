use Rattle.std.proofs.Common.{◌++◌, ◌∙◌, ap, refl}
use Rattle.flat_report.proofs.Reaching.{put_three, whole_is}
use Rattle.flat_report.proofs.report.push_whole.Goals as goal

pub returns : goal.returns
returns c =
    put_three c.args.paged.now _ _ _ _ _ _ c.in_ok-title.ensures c.in_ok-end.ensures.text c.in_ok-push_rest.ensures
    ∙ ap (λ t. c.args.paged.now ++ t) (whole_is c.args.script.now c.args.probes.now c.args.whole.now _ c.in_ok-end.end refl c.in_ok-end.ensures.rest)
