use Rattle.std.proofs.Common.{drop}
use Rattle.flat_links.proofs.Heard.{AreHeardBut}
use Rattle.flat_links.proofs.noted.PairStates.heard.Given as goal

-- what is pending is seen of all pairs but those that are still to be looked at, and those whose view's owner is in the set
abbrev pub invariant-loop-p : goal.invariant-loop-p
invariant-loop-p l = AreHeardBut (drop l.p-index l.p-items) l.heard l.setup l.self-inside.states.items
