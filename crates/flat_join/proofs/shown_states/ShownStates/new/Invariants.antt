use Rattle.std.proofs.Common.{◌≡◌, ◌≤◌, length, All, None, vec_capacity}
use Rattle.std.specs.Prelude.{option_map}
use Rattle.std.specs.Arc.{arc_value}
use Rattle.flat_join.proofs.shown_states.ShownStates.new.Given as goal

abbrev pub invariant-loop : goal.invariant-loop
invariant-loop l = record {
  size : length l.states.items ≡ l.counter;
  room : l.sessions ≤ vec_capacity l.states;
  none : All (λ state. option_map arc_value state ≡ None) l.states.items;
}
