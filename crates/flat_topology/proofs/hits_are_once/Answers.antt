use Rattle.std.specs.Prelude.{◌*ℤ◌, map, filter_map, reverse}
use Rattle.flat_geom.specs.Matrices.{unit}
use Rattle.flat_topology.specs.Place.{placed_nodes}
use Rattle.flat_topology.specs.Hits.{hit_on, hit_list}
use Rattle.flat_topology.proofs.lemmas.Distinct.{pairs-distinct}
use Rattle.flat_topology.proofs.Hitting.{distinct-first}
use Rattle.flat_topology.proofs.hits_are_once.Goals as goal

pub returns : goal.returns
returns c = λ setup shown x y.
    pairs-distinct (map (λ hit. hit.session.0) (hit_list setup shown x y))
    (distinct-first (filter_map (hit_on (x *ℤ unit) (y *ℤ unit)) (reverse (placed_nodes setup shown))))
