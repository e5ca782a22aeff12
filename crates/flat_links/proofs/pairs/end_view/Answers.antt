use Rattle.flat_links.proofs.ViewMarks.{ends-no-view}
use Rattle.flat_links.proofs.pairs.end_view.Goals as goal

pub returns-in-None : goal.returns-in-None
returns-in-None c = rw c.in-None.is (ends-no-view c.args.presents c.args.pairs.now)
