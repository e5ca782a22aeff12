use Rattle.std.proofs.Common.{ap}
use Rattle.flat_core.specs.Machines.{Machine}
use Rattle.flat_play.proofs.lemmas.Places.{setup_is}
use Rattle.flat_play.proofs.lemmas.Starting.{starts}
use Rattle.flat_play.proofs.run.start.Goals as goal

pub new_readers-requires : goal.new_readers-requires
new_readers-requires c = setup_is c.args.script.now c.requires

pub new-requires-2 : goal.new-requires-2
new-requires-2 c = setup_is c.args.script.now c.requires

pub returns-clause-stands : goal.returns-clause-stands
returns-clause-stands c =
    starts c.args.script.now _ c.requires c.lines_are_read.ensures.none c.in_ok-board.ensures c.in_ok-readers.ensures c.in_ok-start.ensures
    c.in_ok-store.ensures.stands

pub returns-clause-no_entry : goal.returns-clause-no_entry
returns-clause-no_entry c = ap (λ (m : Machine). m.history) c.in_ok-board.ensures
