use Rattle.std.proofs.Common.{◌≡◌, ◌<◌, ◌^◌, drop}
use Rattle.flat_text.specs.Number.{digits_after}
use Rattle.flat_text.proofs.number.all_digits_in.Given as goal

abbrev pub invariant-loop-b : goal.invariant-loop-b
invariant-loop-b l = record {
  same : digits_after l.n (drop l.b-index l.word) ≡ digits_after 0 l.word;
  below : l.n < 10 ^ l.b-index;
}
