use Rattle.std.proofs.Common.{drop}
use Rattle.flat_draft.proofs.Laying.{IsLaying}
use Rattle.flat_draft.proofs.lay.+lay.Given as goal

abbrev pub decreases-lay : goal.decreases-lay
decreases-lay l = l.levels

abbrev pub invariant-loop-key : goal.invariant-loop-key
invariant-loop-key l = IsLaying l.graph l.contents l.levels l.is_root l.keys (drop l.key-index l.keys) l.initial.builder l.builder
