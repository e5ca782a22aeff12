use Rattle.std.proofs.Common.{drop, List}
use Rattle.flat_links.specs.declared.pairs.PairState.{PairState}
use Rattle.flat_links.specs.Usage.{SeesUses}
use Rattle.flat_links.proofs.noted.PairStates.see_uses.Given as goal

-- what is left leads from here to the same end
abbrev pub invariant-loop-one : goal.invariant-loop-one
invariant-loop-one l = (last : List PairState) → SeesUses (drop l.one-index l.uses) l.self.items last → SeesUses l.uses l.fn.self.items last
