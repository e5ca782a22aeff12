use Rattle.std.proofs.Common.{arith, length}
use Rattle.std.proofs.lemmas.Result.{IfOk-from_err}
use Rattle.flat_play.proofs.lemmas.Begun.{none-begun}
use Rattle.flat_play.proofs.lemmas.Seen.{kept_none}
use Rattle.flat_race.specs.declared.running.RaceState.{RaceState}
use Rattle.flat_race.specs.Ends.{MayRace}
use Rattle.flat_race.proofs.RaceEnds.{run_as}
use Rattle.flat_race.proofs.race.race_script.Goals as goal

pub new_film-requires : goal.new_film-requires
new_film-requires g c = record { playable = c.requires.playable }

pub new_stage-requires : goal.new_stage-requires
new_stage-requires g c = record { playable = c.requires.playable }

pub race_on-requires : goal.race_on-requires
race_on-requires g c =
    let new = c.in_ok-film.ensures.new in
    let stage = c.in-Ok.ensures in
    let state : RaceState = record { compositor = c.in-Ok.compositor; seats = c.in-Ok.seats; film = c.in_ok-film.film } in
    let may : MayRace c.in-Ok.stage c.args.script.now (length c.args.displays.now.items) state = record {
      playable = c.requires.playable;
      of = stage.of;
      fresh = stage.compositor;
      own = stage.own;
      sessions = stage.sessions;
      none = record { stands = new.stands; none = new.none; number = omega (arith, c.len.ensures, c.args.displays.now.ok.0, new.number); few = new.few };
    } in (c.type_bounds.sync-T, (c.type_bounds.sync-G, may))

pub returns-in_err-film-clause-kept : goal.returns-in_err-film-clause-kept
returns-in_err-film-clause-kept g c = kept_none _ _ _ _ _ (none-begun c.args.script.now)

pub returns-in_err-film-clause-run : goal.returns-in_err-film-clause-run
returns-in_err-film-clause-run g c = IfOk-from_err _ _ c.from_residual.ensures.0

pub returns-in_default-clause-kept : goal.returns-in_default-clause-kept
returns-in_default-clause-kept g c = kept_none _ _ _ _ _ (none-begun c.args.script.now)

pub returns-in_default-clause-run : goal.returns-in_default-clause-run
returns-in_default-clause-run g c = tt

pub returns-clause-kept : goal.returns-clause-kept
returns-clause-kept g c = c.race_on.ensures.kept

pub returns-clause-run : goal.returns-clause-run
returns-clause-run g c = run_as _ _ _ _ _ _ _ _ c.in_ok-film.ensures.keeping c.race_on.ensures.run
