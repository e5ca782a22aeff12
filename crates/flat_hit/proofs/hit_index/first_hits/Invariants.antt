use Rattle.std.proofs.Common.{◌≡◌, take, reverse}
use Rattle.std.specs.Prelude.{filter_map}
use Rattle.flat_topology.specs.Hits.{hit_on, first_of_each}
use Rattle.flat_hit.proofs.Regions.{given_at}
use Rattle.flat_hit.proofs.hit_index.first_hits.Given as goal

abbrev pub invariant-loop-before : goal.invariant-loop-before
invariant-loop-before l = l.hits ≡ first_of_each (filter_map (given_at (hit_on l.x l.y) l.nodes) (take l.before (reverse l.places)))
