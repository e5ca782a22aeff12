use Rattle.flat_report.proofs.Reaching.{put_three}
use Rattle.flat_report.proofs.apart.push_joined.Goals as goal

pub returns-clause-text : goal.returns-clause-text
returns-clause-text c =
    put_three c.args.paged.now _ _ _ _ _ _ c.in_ok-title.ensures c.in_ok-push_written.ensures.text c.in_ok-push_rest.ensures
