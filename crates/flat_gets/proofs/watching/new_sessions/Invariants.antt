use Rattle.std.proofs.Common.{◌≡◌, ◌≤◌, length, vec_capacity, All}
use Rattle.flat_gets.specs.Listed.{KeptGets, no_gets}
use Rattle.flat_gets.proofs.watching.new_sessions.Given as goal

abbrev pub invariant-loop : goal.invariant-loop
invariant-loop l = record {
  count : length l.sessions.items ≡ l.counter;
  room : l.n ≤ vec_capacity l.sessions;
  none : All (λ (one : KeptGets). one ≡ no_gets) l.sessions.items;
}
