use Rattle.flat_links.proofs.NotedPairs.{lists-pushed}
use Rattle.flat_links.proofs.noted.list_pair.Goals as goal

pub returns : goal.returns
returns c = lists-pushed c.args.p c.args.overflows c.args.noted.now.items _ c.push.ensures.items
