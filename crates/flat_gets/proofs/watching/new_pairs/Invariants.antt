use Rattle.std.proofs.Common.{◌≡◌, ◌≤◌, length, vec_capacity, All}
use Rattle.flat_gets.specs.Pairs.{IsUnasked}
use Rattle.flat_gets.proofs.watching.new_pairs.Given as goal

abbrev pub invariant-loop : goal.invariant-loop
invariant-loop l = record {
  count : length l.pairs.items ≡ l.counter;
  room : l.n ≤ vec_capacity l.pairs;
  none : All IsUnasked l.pairs.items;
}
