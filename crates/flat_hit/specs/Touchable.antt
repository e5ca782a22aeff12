-- The nodes that a point looks at: those with hit regions.
use Rattle.std.specs.Prelude.{ℕ, suc, Bool, true, false, cond, List, [], ◌∷◌}
use Rattle.flat_scene.specs.declared.calls.HitRegion.{HitRegion}
use Rattle.flat_topology.specs.declared.PlacedNode.{PlacedNode}

abbrev pub has_any : List HitRegion → Bool
has_any [] = false
has_any (region ∷ regions) = true

abbrev pub has_region : PlacedNode → Bool
has_region at = has_any at.hits

-- the places of some nodes that have hit regions, of which the first node stands at this place
abbrev pub places_from : ℕ → List PlacedNode → List ℕ
places_from first [] = []
places_from first (at ∷ later) = cond (has_region at) (first ∷ places_from (suc first) later)
    (places_from (suc first) later)

-- of all nodes
abbrev pub region_places : List PlacedNode → List ℕ
region_places = places_from 0
