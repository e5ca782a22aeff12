-- The connected sessions, each with the placed node below which it hangs.
use Rattle.std.specs.Prelude.{ℕ, suc, ◌+◌, List, [], ◌∷◌, ◌++◌, Option, Some, None, option_and_then, slice_get}
use Rattle.flat_base.specs.declared.ids.SessionNo.{SessionNo}
use Rattle.flat_base.specs.declared.shapes.Rect.{Rect}
use Rattle.flat_scene.specs.declared.frames.ViewNode.{ViewNode}
use Rattle.flat_scene.specs.declared.setup.Setup.{Setup}
use Rattle.flat_topology.specs.declared.ConnectedSession.{ConnectedSession}
use Rattle.flat_topology.specs.declared.GlobalTopology.{GlobalTopology}
use Rattle.flat_topology.specs.declared.PlacedNode.{PlacedNode}
use Rattle.flat_topology.specs.Shown.{Shown}
use Rattle.flat_topology.specs.Join.{JoinedTree, nothing, node, child_view, join}
use Rattle.flat_topology.specs.Place.{display_rect, placed_nodes}
use Rattle.flat_topology.specs.Views.{viewport_bounds}

-- how many nodes a joined tree has
abbrev pub joined_count : JoinedTree → ℕ
joined_count nothing = 0
joined_count (node s n linked below after) = 1 + joined_count linked + joined_count below + joined_count after
joined_count (child_view s root) = joined_count root

-- the sessions in preorder of their views, where the nodes have the numbers from this one on;
-- the outermost hangs below that node
abbrev pub connected_in : ℕ → Option ℕ → JoinedTree → List ConnectedSession
connected_in next at nothing = []
connected_in next at (node s n linked below after) =
    connected_in (suc next) (Some next) linked
    ++ (connected_in (suc next + joined_count linked) at below
    ++ connected_in (suc next + joined_count linked + joined_count below) at after)
connected_in next at (child_view s root) = record { session = record { 0 = s }; at = at } ∷ connected_in next at root

-- the connected sessions; the first hangs below no node
abbrev pub connected_sessions : Setup → Shown → List ConnectedSession
connected_sessions setup shown = connected_in 0 None (join setup shown)

-- the joined tree as a list of placed nodes and one of connected sessions
abbrev pub joined_lists : Setup → Shown → GlobalTopology
joined_lists setup shown = record {
  display = display_rect setup;
  nodes = placed_nodes setup shown;
  connected = connected_sessions setup shown;
}

-- the view of a session that hangs below a placed node, or else fills the display
abbrev pub view_below : Rect → SessionNo → Option PlacedNode → ViewNode
view_below display s None = record { session = s; parent = None; bounds = display }
view_below display s (Some at) = record { session = s; parent = Some at.session; bounds = viewport_bounds at }

-- the view of a connected session, among placed nodes
abbrev pub connected_view : Rect → List PlacedNode → ConnectedSession → ViewNode
connected_view display nodes c = view_below display c.session (option_and_then (slice_get nodes) c.at)
