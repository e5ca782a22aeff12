use Rattle.std.proofs.Common.{ap}
use Rattle.flat_core.specs.Machines.{Machine}
use Rattle.flat_play.proofs.lemmas.Places.{setup_is}
use Rattle.flat_judge.proofs.Screens.{screen_first}
use Rattle.flat_judge.proofs.replay_screen.ReplayScreen.new.Goals as goal

pub new-requires-2 : goal.new-requires-2
new-requires-2 c = setup_is c.args.script.now c.requires

pub returns-clause-stands : goal.returns-clause-stands
returns-clause-stands c =
    screen_first c.args.script.now _ c.in_ok-board.ensures c.in_ok-start.ensures c.in_ok-store.ensures.stands c.in_ok-store.ensures.keeping

pub returns-clause-no_entry : goal.returns-clause-no_entry
returns-clause-no_entry c = ap (λ (m : Machine). m.history) c.in_ok-board.ensures
