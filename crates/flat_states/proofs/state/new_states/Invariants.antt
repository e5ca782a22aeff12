use Rattle.std.proofs.Common.{◌≡◌, ◌≤◌, length, All, vec_capacity}
use Rattle.flat_states.specs.Presents.{IsNew}
use Rattle.flat_states.proofs.state.new_states.Given as goal

abbrev pub invariant-loop : goal.invariant-loop
invariant-loop l = record {
  count : length l.states.items ≡ l.counter;
  room : l.n ≤ vec_capacity l.states;
  new : All IsNew l.states.items;
}
