use Rattle.std.proofs.Common.{◌≡◌, ◌+◌, ◌≤◌, ◌++◌, length, map, vec_capacity}
use Rattle.flat_states.proofs.state.let_go.Given as goal

abbrev pub invariant-loop-queued : goal.invariant-loop-queued
invariant-loop-queued l = record {
  taken : l.state.queue.taken + length l.state.queue.waiting ≡ l.fn.state.queue.taken + length l.fn.state.queue.waiting;
  going : l.state.going.items ++ map (λ kept. kept.args.release) l.state.queue.waiting ≡ map (λ kept. kept.args.release) l.fn.state.queue.waiting;
  few : length l.state.going.items + length l.state.queue.waiting ≤ 5;
  took : l.state.took ≡ 0;
  room : vec_capacity l.state.going ≡ vec_capacity l.fn.state.going;
  closed : l.state.closed ≡ l.fn.state.closed;
  account : l.state.account ≡ l.fn.state.account;
}

abbrev pub decreases-loop-queued : goal.decreases-loop-queued
decreases-loop-queued l = length l.state.queue.waiting
