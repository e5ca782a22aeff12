use Rattle.std.proofs.Common.{drop}
use Rattle.flat_links.proofs.NotedPairs.{SettledBut}
use Rattle.flat_links.proofs.usage.settle_noted.Given as goal

abbrev pub invariant-loop-p : goal.invariant-loop-p
invariant-loop-p l = SettledBut (drop l.p-index l.noted) l.fn.pairs.items l.pairs.items
