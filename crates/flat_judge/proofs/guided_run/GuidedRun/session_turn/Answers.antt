use Rattle.std.proofs.Common.{◌≡◌, ◌+◌, false, Some, slice_get, refl, sym, ◌∙◌, arith}
use Rattle.std.proofs.lemmas.Option.{slice_get-get_or}
use Rattle.flat_play.proofs.lemmas.Starting.{is_numbered}
use Rattle.flat_judge.proofs.RunSteps.{goes_on, seat_open, seat_sits, session_goes}
use Rattle.flat_judge.proofs.guided_run.GuidedRun.session_turn.Goals as goal

pub turn-requires-clause-declared : goal.turn-requires-clause-declared
turn-requires-clause-declared c =
    let many = c.requires.stands.seats.count in
    is_numbered c.args.script.now.setup c.args.k (omega (arith, many, c.requires.within))

pub turn-requires-clause-sits : goal.turn-requires-clause-sits
turn-requires-clause-sits c =
    let guided = c.args.self.now in
    let seat = c.index_mut-seat.result.now in
    let at : slice_get guided.seats.items c.args.k ≡ Some seat =
    slice_get-get_or guided.seats.items c.args.k seat c.requires.within ∙ (let found = sym c.index_mut-seat.ensures.value in λ i. Some (found i)) in
    let unended : seat.has_ended ≡ false = c.requires.open seat at in
    seat_open c.args.script.now (record { 0 = c.args.k + 1 }) guided.screen.board.history seat unended
    (seat_sits c.args.script.now guided c.args.k seat c.requires.stands c.requires.within c.index_mut-seat.ensures.value)

pub returns-clause-stands : goal.returns-clause-stands
returns-clause-stands c =
    let guided = c.args.self.now in
    session_goes c.args.script.now guided _ c.args.k c.turn.new.self c.turn.new.board c.requires.within c.requires.stands c.in_ok-turn.ensures.goes
    c.in_ok-turn.ensures.sits refl refl refl refl refl

pub returns-clause-on : goal.returns-clause-on
returns-clause-on c =
    goes_on c.args.self.now.seats.items c.args.k c.index_mut-seat.result.now c.turn.new.self c.requires.within c.index_mut-seat.ensures.value
    c.in_ok-turn.ensures.later

pub returns-clause-goes : goal.returns-clause-goes
returns-clause-goes c = c.in_ok-turn.ensures.goes
