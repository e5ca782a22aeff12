use Rattle.std.proofs.Common.{◌∙◌, true, length, refl}
use Rattle.flat_play.proofs.lemmas.Places.{setup_is}
use Rattle.flat_play.proofs.lemmas.Starting.{few_sessions}
use Rattle.flat_race.proofs.Closing.{IsClosed, all_home, all_probed, as_many, has_begun, has_played, same_frames}
use Rattle.flat_race.proofs.race.close.Goals as goal

pub close-board-requires-clause-home : goal.close-board-requires-clause-home
close-board-requires-clause-home c = all_home c.args.script.now c.args.stage true c.args.ended.seats.seats c.requires.ended.back

pub returns-clause-out : goal.returns-clause-out
returns-clause-out c =
    let script = c.args.script.now in
    let ended = c.args.ended in
    let seat = ended.compositor.display in
    let made = c.close-board.ensures in
    let board = c.close-board.result in
    let closed : IsClosed seat ended.seats board = record { display = made.compositor; sessions = made.sessions; legal = made.legal } in
    let setup = made.fixed.0 ∙ c.requires.of.setup in
    let few = few_sessions script.setup (setup_is script c.requires.playable) in
    record {
      played = has_played script c.args.stage seat ended.seats ended.film c.requires.ended board closed setup few c.seats_tell_actors.ensures
          c.journals_keep_seats.ensures.seats;
      probes = all_probed script c.args.stage seat ended.seats ended.film c.requires.ended board closed setup few;
      kept = refl;
      set = refl;
      finishes = same_frames script c.args.stage (length script.lines) seat c.requires.ended.directed ended.seats true c.requires.ended.back board closed setup
          few;
      as_many = as_many script c.args.stage seat ended.seats ended.film c.requires.ended board closed setup few;
    }

pub returns-clause-begun : goal.returns-clause-begun
returns-clause-begun c =
    let script = c.args.script.now in
    let made = c.close-board.ensures in
    let closed : IsClosed c.args.ended.compositor.display c.args.ended.seats c.close-board.result =
    record { display = made.compositor; sessions = made.sessions; legal = made.legal } in
    has_begun script c.args.stage (length script.lines) c.args.ended.compositor.display c.requires.ended.directed c.args.ended.seats true c.requires.ended.back
    c.close-board.result closed (made.fixed.0 ∙ c.requires.of.setup) (few_sessions script.setup (setup_is script c.requires.playable))
    c.seats_tell_actors.ensures c.journals_keep_seats.ensures.seats
