use Rattle.std.proofs.Common.{◌≡◌, ◌≤◌, length, All, vec_capacity}
use Rattle.flat_links.specs.AllEnds.{HasNone}
use Rattle.flat_links.proofs.entries.new_ends.Given as goal

abbrev pub invariant-loop : goal.invariant-loop
invariant-loop l = record {
  count : length l.ends.items ≡ l.counter;
  room : l.n ≤ vec_capacity l.ends;
  none : All HasNone l.ends.items;
}
