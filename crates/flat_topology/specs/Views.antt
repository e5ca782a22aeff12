-- The view tree: who is shown below whom, and where.
use Rattle.std.specs.Prelude.{ℕ, Bool, ◌&&◌, not, List, [], ◌∷◌, ◌++◌, Option, Some, None, map, filter}
use Rattle.std.specs.List.{range_with_len}
use Rattle.flat_base.specs.declared.ids.SessionNo.{SessionNo}
use Rattle.flat_base.specs.declared.shapes.Rect.{Rect}
use Rattle.flat_scene.specs.declared.frames.ViewNode.{ViewNode}
use Rattle.flat_scene.specs.declared.frames.ViewTree.{ViewTree}
use Rattle.flat_scene.specs.declared.setup.Setup.{Setup}
use Rattle.flat_scene.specs.declared.trees.Content.{Content}
use Rattle.flat_scene.specs.declared.trees.Content.TheVariants as content
use Rattle.flat_topology.specs.declared.PlacedNode.{PlacedNode}
use Rattle.flat_topology.specs.Shown.{Shown}
use Rattle.flat_topology.specs.Join.{JoinedTree, nothing, node, child_view, join, is_joined}
use Rattle.flat_topology.specs.Place.{Space, display_rect, display_space, node_space, linked_space, viewport_rect}
use Rattle.flat_topology.specs.Place.{placed_node}

-- the rectangle of a placed node's content, if that is a viewport
abbrev pub content_bounds : PlacedNode → Option Content → Rect
content_bounds at (Some (content.Viewport serial pair props)) = viewport_rect at.matrix props
content_bounds at _ = at.clip

-- the bounds of the child view below a placed viewport: the viewport's rectangle, uncut
abbrev pub viewport_bounds : PlacedNode → Rect
viewport_bounds at = content_bounds at at.content

-- the views of a joined tree in preorder; a view's parent is the session of the viewport that shows it, and the
-- outermost view has this
-- parent and these bounds
abbrev pub views_in : Option SessionNo → Rect → Space → JoinedTree → List ViewNode
views_in parent bounds outer nothing = []
views_in parent bounds outer (node s n linked below after) =
    views_in (Some (record { 0 = s })) (viewport_bounds (placed_node s (node_space outer n) n))
    (linked_space (node_space outer n) n.content) linked
    ++ (views_in parent bounds (node_space outer n) below ++ views_in parent bounds outer after)
views_in parent bounds outer (child_view s root) =
    record { session = record { 0 = s }; parent = parent; bounds = bounds } ∷ views_in parent bounds outer root

-- one view for each connected session; the first has no parent and the display's bounds
abbrev pub view_nodes : Setup → Shown → List ViewNode
view_nodes setup shown = views_in None (display_rect setup) (display_space setup) (join setup shown)

-- the sessions that have a view but are not connected, in order
abbrev pub apart_sessions : Setup → Shown → (ℕ → Bool) → List SessionNo
apart_sessions setup shown has_view =
    map (λ s. record { 0 = s })
    (filter (λ s. has_view s && not (is_joined setup shown s)) (range_with_len 1 setup.sessions))

-- the view tree, where this tells which sessions are open and made a view whose end isn't lost
abbrev pub view_tree : Setup → Shown → (ℕ → Bool) → ViewTree
view_tree setup shown has_view = record { nodes = view_nodes setup shown; apart = apart_sessions setup shown has_view }
