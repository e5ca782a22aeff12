use Rattle.std.proofs.Common.{◌≡◌, ◌≤◌, length, vec_capacity}
use Rattle.flat_race.specs.PlaceLists.{ArePlaces}
use Rattle.flat_race.specs.SessionThreads.{AreLeft, AreOut}
use Rattle.flat_race.proofs.threads.start_each.Given as goal

abbrev pub invariant-loop-before : goal.invariant-loop-before
invariant-loop-before g l = record {
  own : l.seats.stage ≡ l.context.stage.now;
  left : AreLeft l.context.stage.now l.context.script.now.setup.sessions l.before l.seats.seats;
  out : AreOut l.context.stage.now l.context.script.now l.before l.out.items;
  places : ArePlaces l.context.script.now.lines l.before l.places.items;
  many : length l.places.items ≡ l.context.script.now.setup.sessions;
  room : l.context.script.now.setup.sessions ≤ vec_capacity l.out;
}
