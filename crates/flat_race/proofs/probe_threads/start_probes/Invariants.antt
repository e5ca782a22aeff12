use Rattle.std.proofs.Common.{◌≡◌, ℕ, ◌<◌, ◌≤◌, None, Some, length, slice_index_or, deque_capacity}
use Rattle.flat_publish.specs.State.{newcomer}
use Rattle.flat_race.specs.ProbeThreads.{AreProbesOut}
use Rattle.flat_race.proofs.probe_threads.start_probes.Given as goal

abbrev pub invariant-loop-probe : goal.invariant-loop-probe
invariant-loop-probe g l = record {
  out : AreProbesOut l.context.script.now l.published.home 0 l.out.items;
  many : length l.out.items ≡ l.probe;
  room : l.context.script.now.setup.probes ≤ deque_capacity l.out;
  left : (k : ℕ) → l.probe ≤ k → k < l.context.script.now.setup.probes → slice_index_or l.probes k None ≡ Some (newcomer l.published.home);
}
