use Rattle.std.proofs.Common.{◌≡◌, ◌≤◌, length}
use Rattle.flat_race.specs.SessionThreads.{AreBack, AreOut}
use Rattle.flat_race.proofs.threads.put_back.Given as goal

abbrev pub invariant-loop-last : goal.invariant-loop-last
invariant-loop-last g l = record {
  out : AreOut l.context.stage.now l.context.script.now (length l.out.items) l.out.items;
  few : length l.out.items ≤ l.context.script.now.setup.sessions;
  own : l.seats.stage ≡ l.context.stage.now;
  back : AreBack l.context.stage.now l.context.script.now (length l.out.items) l.are_whole l.seats.seats;
}

abbrev pub decreases-loop-last : goal.decreases-loop-last
decreases-loop-last g l = length l.out.items
