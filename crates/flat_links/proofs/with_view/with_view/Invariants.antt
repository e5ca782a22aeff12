use Rattle.std.proofs.Common.{◌≡◌, ℕ, ◌<◌, ◌≤◌, length, false, slice_index_or}
use Rattle.flat_states.specs.declared.state.SessionState.{SessionState}
use Rattle.flat_links.specs.Views.{has_view_in}
use Rattle.flat_links.proofs.with_view.with_view.Given as goal

-- the flags so far are those of the states
abbrev pub invariant-loop-i : goal.invariant-loop-i
invariant-loop-i l = record {
  size : length l.has ≡ 16;
  rest : (k : ℕ) → l.i ≤ k → slice_index_or l.has k false ≡ false;
  each : (k : ℕ) (d : SessionState) → k < l.i → slice_index_or l.has k false ≡ has_view_in l.pairs.items (slice_index_or l.states k d);
}
