use Rattle.std.proofs.Common.{◌≡◌, length}
use Rattle.flat_rules.specs.Numbers.{AllNumbered}
use Rattle.flat_links.proofs.UsageSteps.{IsSettledUpTo}
use Rattle.flat_links.proofs.usage.settle_all.Given as goal

abbrev pub invariant-loop-place : goal.invariant-loop-place
invariant-loop-place l = record {
  count : length l.pairs.items ≡ length l.fn.pairs.items;
  each : AllNumbered (IsSettledUpTo l.fn.pairs.items l.place) l.pairs.items;
}
