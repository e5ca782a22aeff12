-- Nothing is drawn or hit outside of the viewports that show it.
use Rattle.std.specs.Prelude.{ℤ, ◌*ℤ◌, ◌≡◌, true, List, [], ◌∷◌, ◌++◌, map, Option, Some}
use Rattle.std.specs.List.{All}
use Rattle.flat_base.specs.declared.shapes.Rect.{Rect}
use Rattle.flat_drawable.specs.Drawable.{IsWithin}
use Rattle.flat_geom.specs.Matrices.{unit}
use Rattle.flat_geom.specs.Rectangles.{has_point}
use Rattle.flat_scene.specs.declared.frames.DrawItem.{DrawItem}
use Rattle.flat_scene.specs.declared.frames.Hit.{Hit}
use Rattle.flat_scene.specs.declared.frames.ViewNode.{ViewNode}
use Rattle.flat_scene.specs.declared.setup.Setup.{Setup}
use Rattle.flat_scene.specs.declared.trees.Content.{Content}
use Rattle.flat_scene.specs.declared.trees.Content.TheVariants as content
use Rattle.flat_topology.specs.declared.PlacedNode.{PlacedNode}
use Rattle.flat_topology.specs.Draw.{draw_list, node_item}
use Rattle.flat_topology.specs.Fit.{FitsSetup}
use Rattle.flat_topology.specs.Hits.{hit_list, hit_on}
use Rattle.flat_topology.specs.Join.{JoinedTree, nothing, node, child_view, join}
use Rattle.flat_topology.specs.Place.{
  Space,
  display_rect,
  display_space,
  node_space,
  linked_space,
  viewport_rect,
  placed_node,
  placed_nodes,
}
use Rattle.flat_topology.specs.Shown.{Shown}
use Rattle.flat_topology.specs.Views.{view_nodes}

-- A placed node, with the rectangles of all viewports above it, from the innermost to the display's own rectangle.
pub record NodeInViewports : Type 0 where
  pub at : PlacedNode
  pub viewports : List Rect

-- the rectangles above a child view: below a viewport, its rectangle too
abbrev pub viewports_of_child : List Rect → Space → Option Content → List Rect
viewports_of_child above here (Some (content.Viewport serial pair props)) = viewport_rect here.matrix props ∷ above
viewports_of_child above here _ = above

-- the nodes of a joined tree, each with the viewports above it
abbrev pub in_viewports : List Rect → Space → JoinedTree → List NodeInViewports
in_viewports above outer nothing = []
in_viewports above outer (node s n linked below after) =
    (record { at = placed_node s (node_space outer n) n; viewports = above })
    ∷ (in_viewports (viewports_of_child above (node_space outer n) n.content)
    (linked_space (node_space outer n) n.content) linked
    ++ (in_viewports above (node_space outer n) below ++ in_viewports above outer after))
in_viewports above outer (child_view s root) = in_viewports above outer root

-- all nodes that the display shows, each with the rectangles of the viewports above it
abbrev pub nodes_in_viewports : Setup → Shown → List NodeInViewports
nodes_in_viewports setup shown = in_viewports (display_rect setup ∷ []) (display_space setup) (join setup shown)

-- These are the placed nodes, in the same order.
abbrev pub NodesInViewportsArePlaced : Type 0
NodesInViewportsArePlaced = (setup : Setup) (shown : Shown) →
    map (λ placed. placed.at) (nodes_in_viewports setup shown) ≡ placed_nodes setup shown

-- Each draw item lies inside its node's clip, inside every viewport above, and on the display.
abbrev pub ItemsStayInViewports : Type 0
ItemsStayInViewports = (setup : Setup) (shown : Shown) →
    All (λ placed. (item : DrawItem) → node_item placed.at ≡ Some item
    → IsWithin placed.at.clip item.visible × All (λ rect. IsWithin rect item.visible) placed.viewports)
    (nodes_in_viewports setup shown)

-- A place that hits a node lies inside the node's clip, inside every viewport above, and on the display.
abbrev pub HitsStayInViewports : Type 0
HitsStayInViewports = (setup : Setup) (shown : Shown) (x y : ℤ) →
    All (λ placed. (hit : Hit) → hit_on x y placed.at ≡ Some hit
    → (has_point placed.at.clip x y ≡ true) × All (λ rect. has_point rect x y ≡ true) placed.viewports)
    (nodes_in_viewports setup shown)

-- Whatever is drawn and hit of a view's session lies inside the view's bounds.
pub record IsInBounds (setup : Setup) (shown : Shown) (view : ViewNode) : Type 0 where
  pub items : All (λ item. item.session ≡ view.session → IsWithin view.bounds item.visible) (draw_list setup shown)
  pub hits : (x y : ℤ) → All (λ hit. hit.session ≡ view.session → has_point view.bounds (x *ℤ unit) (y *ℤ unit) ≡ true)
      (hit_list setup shown x y)

-- Whatever is drawn and hit of a session lies inside the bounds of its view.
abbrev pub SessionsStayInBounds : Type 0
SessionsStayInBounds = (setup : Setup) (shown : Shown) → FitsSetup setup shown
    → All (IsInBounds setup shown) (view_nodes setup shown)
