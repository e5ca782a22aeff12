use Rattle.std.proofs.Common.{◌+◌, List, false, refl, sym, subst, arith}
use Rattle.flat_play.proofs.lemmas.Places.{setup_is}
use Rattle.flat_play.proofs.lemmas.Starting.{is_numbered}
use Rattle.flat_judge.specs.declared.session_cursor.SessionCursor.{SessionCursor}
use Rattle.flat_judge.proofs.Seats.{SeatsTo, new_sits, seats_all, seats_more}
use Rattle.flat_judge.proofs.opening.new_seats.Goals as goal

pub new-requires : goal.new-requires
new-requires c = (c.args.script.now.setup, setup_is c.args.script.now c.requires, refl)

pub loop-before-preserved : goal.loop-before-preserved
loop-before-preserved c =
    let script = c.args.script.now in
    let n = c.loop-before.before in
    let P : List SessionCursor → Type 0 = SeatsTo script (n + 1) in
    let new = c.in_ok-reader.ensures script.setup refl (is_numbered script.setup n (omega (arith, c.loop-before-test.true))) in
    subst P (sym c.in_ok-push.ensures.items)
    (seats_more script n c.loop-before.seats.items (record { reader = c.in_ok-reader.reader; place = 0; has_ended = false }) c.loop-before.invariant
    (new_sits c.lines_are_read.ensures.none script (record { 0 = n + 1 }) c.in_ok-reader.reader new))

pub returns : goal.returns
returns c = seats_all c.args.script.now c.loop-before.before c.loop-before.seats.items (omega (arith, c.loop-before.auto.before-end, c.loop-before-test.false))
    c.loop-before.invariant
