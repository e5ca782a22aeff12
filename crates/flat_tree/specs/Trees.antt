-- The view tree, from the views alone, and from the fields of a joined tree.
use Rattle.std.specs.Prelude.{ℕ, Bool, true, false, ◌&&◌, not, ◌==◌, List, [], ◌∷◌, map, filter}
use Rattle.std.specs.List.{list_any, range_with_len}
use Rattle.flat_base.specs.declared.ids.SessionNo.{SessionNo}
use Rattle.flat_base.specs.declared.limits.TheConstants.{SESSIONS_MAX}
use Rattle.flat_scene.specs.declared.frames.SessionSet.{SessionSet}
use Rattle.flat_scene.specs.declared.frames.ViewNode.{ViewNode}
use Rattle.flat_scene.specs.declared.frames.ViewTree.{ViewTree}
use Rattle.flat_topology.specs.declared.GlobalTopology.{GlobalTopology}
use Rattle.flat_topology.specs.Members.{is_member}
use Rattle.flat_topology.specs.Connected.{connected_view}

-- whether a session has one of the views
abbrev pub is_among : List ViewNode → ℕ → Bool
is_among views s = list_any (λ view. view.session.0 == s) views

-- whether a session of a set has none of the views
abbrev pub is_apart : List ViewNode → SessionSet → ℕ → Bool
is_apart views with_view s = is_member with_view s && not (is_among views s)

-- the session of a number, if it is apart
abbrev pub if_apart : Bool → ℕ → List SessionNo
if_apart false s = []
if_apart true s = record { 0 = s } ∷ []

-- those of so many sessions, in order
abbrev pub apart_below : ℕ → List ViewNode → SessionSet → List SessionNo
apart_below sessions views with_view = map (λ s. record { 0 = s })
    (filter (is_apart views with_view) (range_with_len 1 sessions))

-- the view tree of the views
abbrev pub tree_of : List ViewNode → SessionSet → ViewTree
tree_of views with_view = record { nodes = views; apart = apart_below SESSIONS_MAX views with_view }

-- the view tree of a joined tree
abbrev pub tree_from : GlobalTopology → SessionSet → ViewTree
tree_from joined with_view = tree_of (map (connected_view joined.display joined.nodes) joined.connected) with_view
