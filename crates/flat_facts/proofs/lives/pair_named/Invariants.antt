use Rattle.std.proofs.Common.{◌≡◌, drop}
use Rattle.flat_facts.specs.Lives.{pair_named}
use Rattle.flat_facts.proofs.lives.pair_named.Given as goal

-- none of those before has that name
abbrev pub invariant-loop-one : goal.invariant-loop-one
invariant-loop-one l = pair_named (drop l.one-index l.live) l.name.0 ≡ pair_named l.live l.name.0
