use Rattle.std.proofs.Common.{drop, List}
use Rattle.flat_links.specs.declared.pairs.PairState.{PairState}
use Rattle.flat_links.specs.Clears.{ClearsLive}
use Rattle.flat_links.proofs.clears.clear_live.Given as goal

-- what is left leads from here to the same end
abbrev pub invariant-loop-one : goal.invariant-loop-one
invariant-loop-one l = (last : List PairState) → ClearsLive (drop l.one-index l.live) l.calls l.presents l.pairs last
    → ClearsLive l.live l.calls l.presents l.fn.pairs last
