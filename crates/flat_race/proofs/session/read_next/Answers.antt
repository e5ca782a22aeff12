use Rattle.std.proofs.Common.{◌≡◌, true}
use Rattle.flat_scene.specs.History.{is_session}
use Rattle.flat_play.proofs.lemmas.Steps.{At, at_place}
use Rattle.flat_race.proofs.SessionSteps.{line_few, line_owned, line_room, no_text, reads, skips}
use Rattle.flat_race.proofs.session.read_next.Goals as goal

pub returns-in_default-clause-stands : goal.returns-in_default-clause-stands
returns-in_default-clause-stands g c =
    let x = c.at-line.result.now in
    let at : At c.args.context.now.script.now c.args.place x = at_place c.args.context.now.script.now c.args.place x c.requires.playable c.at-line.ensures in
    skips c.args.context.now.script.now c.args.context.now.stage.now c.args.seat.now.session c.args.place x at
    (no_text (is_session c.args.seat.now.session x.actor) x.number x.body (λ text is. c.in_default.not-Session text is)) c.args.seat.now c.requires.stands

pub read_line-requires-clause-owned : goal.read_line-requires-clause-owned
read_line-requires-clause-owned g c κs within =
    let x = c.at-line.result.now in
    let at : At c.args.context.now.script.now c.args.place x = at_place c.args.context.now.script.now c.args.place x c.requires.playable c.at-line.ensures in
    let whose : is_session c.args.seat.now.session x.actor ≡ true = c.requires.mine x c.at-line.ensures in
    line_owned c.args.context.now.script.now c.args.context.now.stage.now c.args.seat.now c.args.place x at c.requires.of c.requires.stands _ whose
    (c.in-Session.is)

pub read_line-requires-clause-room : goal.read_line-requires-clause-room
read_line-requires-clause-room g c κs within =
    let x = c.at-line.result.now in
    let at : At c.args.context.now.script.now c.args.place x = at_place c.args.context.now.script.now c.args.place x c.requires.playable c.at-line.ensures in
    let whose : is_session c.args.seat.now.session x.actor ≡ true = c.requires.mine x c.at-line.ensures in
    line_room c.args.context.now.script.now c.args.context.now.stage.now c.args.seat.now c.args.place x at c.requires.of c.requires.stands _ whose
    (c.in-Session.is)

pub read_line-requires-clause-few : goal.read_line-requires-clause-few
read_line-requires-clause-few g c κs within =
    let x = c.at-line.result.now in
    let at : At c.args.context.now.script.now c.args.place x = at_place c.args.context.now.script.now c.args.place x c.requires.playable c.at-line.ensures in
    line_few c.args.context.now.script.now c.args.context.now.stage.now c.args.seat.now c.args.place x at c.requires.playable c.at-line.ensures
    c.requires.stands

pub returns-in_ok-read_line-in-Session-clause-stands : goal.returns-in_ok-read_line-in-Session-clause-stands
returns-in_ok-read_line-in-Session-clause-stands g c =
    let x = c.at-line.result.now in
    let at : At c.args.context.now.script.now c.args.place x = at_place c.args.context.now.script.now c.args.place x c.requires.playable c.at-line.ensures in
    let whose : is_session c.args.seat.now.session x.actor ≡ true = c.requires.mine x c.at-line.ensures in
    reads c.args.context.now.script.now c.args.context.now.stage.now c.args.seat.now.session c.args.place x at _ whose (c.in-Session.is) c.args.seat.now
    c.read_line.new.seat c.requires.stands c.read_line.ensures.goes_on (c.in_ok-read_line-in-Session.ensures.follows _ c.requires.stands.reads)
