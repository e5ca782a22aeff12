use Rattle.std.proofs.Common.{◌-◌}
use Rattle.std.specs.Prelude.{option_map}
use Rattle.std.specs.Arc.{arc_value}
use Rattle.std.proofs.lemmas.List.{map-set}
use Rattle.flat_join.proofs.shown_states.ShownStates.set.Goals as goal

pub returns : goal.returns
returns c = rw (← c.self.view_is) (map-set (option_map arc_value) c.self.inside.states.items (c.args.s.0 - 1) c.args.state)
