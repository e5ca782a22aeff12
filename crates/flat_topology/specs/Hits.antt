-- What a point of the display hits.
use Rattle.std.specs.Prelude.{ℤ, ◌*ℤ◌, not, ◌==◌, List, [], ◌∷◌, reverse, filter, filter_map, Option, Some, None}
use Rattle.std.specs.Prelude.{option_map}
use Rattle.std.specs.List.{find}
use Rattle.flat_base.specs.declared.shapes.IntRect.{IntRect}
use Rattle.flat_base.specs.declared.shapes.Rect.{Rect}
use Rattle.flat_geom.specs.Matrices.{unit}
use Rattle.flat_geom.specs.Rectangles.{mapped_rect, shared_part, has_point, in_places}
use Rattle.flat_scene.specs.declared.frames.Hit.{Hit}
use Rattle.flat_scene.specs.declared.setup.Setup.{Setup}
use Rattle.flat_topology.specs.declared.PlacedNode.{PlacedNode}
use Rattle.flat_topology.specs.Shown.{Shown}
use Rattle.flat_topology.specs.Place.{placed_nodes}

-- the part of the display that a region of a node covers; an infinite one covers the node's clip
abbrev pub region_rect : PlacedNode → Option IntRect → Rect
region_rect at None = at.clip
region_rect at (Some area) = shared_part (mapped_rect at.matrix (in_places area)) at.clip

-- the hit of a place on a node, by the first of its regions that has the place
abbrev pub hit_on : ℤ → ℤ → PlacedNode → Option Hit
hit_on x y at =
    option_map (λ region. record { session = at.session; interaction = region.interaction })
    (find (λ region. has_point (region_rect at region.area) x y) at.hits)

-- the first hit of each session
abbrev pub first_of_each : List Hit → List Hit
first_of_each [] = []
first_of_each (hit ∷ later) = hit ∷ filter (λ other. not (other.session.0 == hit.session.0)) (first_of_each later)

-- the sessions whose nodes a point in units hits, last drawn first, each once
abbrev pub hits_among : List PlacedNode → ℤ → ℤ → List Hit
hits_among nodes x y = first_of_each (filter_map (hit_on (x *ℤ unit) (y *ℤ unit)) (reverse nodes))

-- what a point of the display hits
abbrev pub hit_list : Setup → Shown → ℤ → ℤ → List Hit
hit_list setup shown = hits_among (placed_nodes setup shown)
