use Rattle.std.proofs.Common.{◌≡◌, ◌+◌, length}
use Rattle.flat_play.specs.Last.{StaysLast}
use Rattle.flat_race.specs.ProbeThreads.{AreAnswered, AreProbesOut}
use Rattle.flat_race.proofs.probe_threads.meet_each.Given as goal

abbrev pub invariant-loop-next : goal.invariant-loop-next
invariant-loop-next g l = record {
  same : l.published ≡ l.initial.published;
  stays : StaysLast l.script.setup l.initial.last l.last;
  out : AreProbesOut l.script l.initial.published.home l.probe l.out.items;
  many : l.probe + length l.out.items ≡ l.script.setup.probes;
  answered : AreAnswered l.script (record { home = l.initial.published.home; frames = l.initial.published.frames }) l.probe l.answers.items;
}

abbrev pub decreases-loop-next : goal.decreases-loop-next
decreases-loop-next g l = length l.out.items
