use Rattle.std.proofs.Common.{◌≡◌}
use Rattle.std.specs.Option.{option_map}
use Rattle.flat_graph.specs.State.{without_content}
use Rattle.flat_graph.proofs.Sweeping.{changed_below}
use Rattle.flat_graph.proofs.nodes.drop_held.Given as goal

abbrev pub invariant-loop-key : goal.invariant-loop-key
invariant-loop-key l = l.nodes ≡ record l.initial.nodes { slots = changed_below l.key (option_map (without_content l.serial)) l.initial.nodes.slots }
