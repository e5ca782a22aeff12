use Rattle.std.proofs.Common.{◌≡◌, [], length, replicate, take}
use Rattle.flat_race.specs.PlaceLists.{ArePlaces}
use Rattle.flat_race.proofs.own_lines.places_by_session.Given as goal

abbrev pub invariant-loop : goal.invariant-loop
invariant-loop l = l.places.items ≡ replicate l.counter []

abbrev pub invariant-loop-place : goal.invariant-loop-place
invariant-loop-place l = record {
  count : length l.places.items ≡ l.script.setup.sessions;
  each : ArePlaces (take l.place l.script.lines) 0 l.places.items;
}
