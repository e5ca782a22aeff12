use Rattle.std.proofs.Common.{◌≡◌, ◌+◌, ◌<◌, ◌≤◌, ◌++◌, length, map, drop, All, None, vec_capacity}
use Rattle.flat_fence.specs.Fences.{has}
use Rattle.flat_rules.specs.Lasts.{last_from}
use Rattle.flat_states.specs.Presents.{frame_takes}
use Rattle.flat_states.proofs.state.take_ready.Given as goal

abbrev pub invariant-loop-queued : goal.invariant-loop-queued
invariant-loop-queued l = record {
  waiting : l.state.queue.waiting ≡ drop l.state.took l.fn.state.queue.waiting;
  took : l.state.took + length (frame_takes l.time (has l.fences) l.state.queue.waiting) ≡ length (frame_takes l.time (has l.fences) l.fn.state.queue.waiting);
  taken : l.state.queue.taken ≡ l.fn.state.queue.taken + l.state.took;
  going : l.state.going.items ++ map (λ kept. kept.args.release) (frame_takes l.time (has l.fences) l.state.queue.waiting)
      ≡ map (λ kept. kept.args.release) (frame_takes l.time (has l.fences) l.fn.state.queue.waiting);
  last : last_from l.last (map (λ kept. kept.item) (frame_takes l.time (has l.fences) l.state.queue.waiting))
      ≡ last_from None (map (λ kept. kept.item) (frame_takes l.time (has l.fences) l.fn.state.queue.waiting));
  few : length l.state.going.items + length l.state.queue.waiting ≤ 5;
  count : l.state.took + length l.state.queue.waiting ≤ 5;
  within : All (λ kept. All (λ f. f.0 < length l.fences) kept.args.acquire) l.state.queue.waiting;
  room : vec_capacity l.state.going ≡ vec_capacity l.fn.state.going;
  closed : l.state.closed ≡ l.fn.state.closed;
  let_go : l.state.let_go ≡ l.fn.state.let_go;
  account : l.state.account ≡ l.fn.state.account;
}

abbrev pub decreases-loop-queued : goal.decreases-loop-queued
decreases-loop-queued l = length l.state.queue.waiting
