use Rattle.std.proofs.Common.{drop}
use Rattle.flat_race.specs.OwnLines.{StandsBefore}
use Rattle.flat_race.proofs.session.read_all.Given as goal

abbrev pub invariant-loop-i : goal.invariant-loop-i
invariant-loop-i g l = StandsBefore l.context.script.now l.context.stage.now l.initial.seat.session (drop l.i l.places) l.seat
