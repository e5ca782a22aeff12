use Rattle.flat_join.proofs.Finding.{notes-nothing, notes-shown}
use Rattle.flat_join.proofs.distances.note_below.Goals as goal

pub returns-in-Some : goal.returns-in-Some
returns-in-Some c =
    notes-shown c.args.shown.now c.args.distance c.args.session.0 c.args.distances.now c.note_viewports.new.distances c.deref.result.now _ c.deref.ensures
    c.in-Some.ensures c.note_viewports.ensures

pub returns-in-None : goal.returns-in-None
returns-in-None c = notes-nothing c.args.shown.now c.args.distance c.args.session.0 c.args.distances.now c.in-None.ensures
