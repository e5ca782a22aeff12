use Rattle.std.proofs.Common.{◌≡◌, ℕ, ◌+◌, length, drop}
use Rattle.flat_facts.specs.Contents.{capped}
use Rattle.flat_rules.specs.Serials.{contents_made}
use Rattle.flat_facts.proofs.contents.count_contents.Given as goal

-- what is left leads from here to the same end
abbrev pub invariant-loop-call : goal.invariant-loop-call
invariant-loop-call l = (n : ℕ) → l.count ≡ capped n → (m : ℕ)
    × ((l.now ≡ capped m) × (m + length (contents_made (drop l.call-index l.calls)) ≡ n + length (contents_made l.calls)))
