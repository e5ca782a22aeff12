-- Where the nodes of the joined tree stand on the display.
use Rattle.std.specs.Prelude.{ℕ, ◌*◌, ◌/◌, List, [], ◌∷◌, ◌++◌, Option, Some, None}
use Rattle.flat_base.specs.declared.limits.TheConstants.{ONE, OPACITY_MAX}
use Rattle.flat_base.specs.declared.shapes.IntRect.{IntRect}
use Rattle.flat_base.specs.declared.shapes.Rect.{Rect}
use Rattle.flat_geom.specs.declared.matrix.Matrix.{Matrix}
use Rattle.flat_geom.specs.Matrices.{scaling_matrix, composed, local_matrix}
use Rattle.flat_geom.specs.Rectangles.{mapped_rect, shared_part, in_places, sized_rect}
use Rattle.flat_scene.specs.declared.calls.ViewportProps.{ViewportProps}
use Rattle.flat_scene.specs.declared.setup.Setup.{Setup}
use Rattle.flat_scene.specs.declared.trees.Content.{Content}
use Rattle.flat_scene.specs.declared.trees.Content.TheVariants as content
use Rattle.flat_scene.specs.declared.trees.Node.{Node}
use Rattle.flat_topology.specs.declared.PlacedNode.{PlacedNode}
use Rattle.flat_topology.specs.Shown.{Shown}
use Rattle.flat_topology.specs.Join.{JoinedTree, nothing, node, child_view, join}

-- an opacity seen through another
abbrev pub seen_through : ℕ → ℕ → ℕ
seen_through outer own = outer * own / ONE

-- what a node hands on to the nodes below it
pub record Space : Type 0 where
  pub matrix : Matrix
  pub clip : Rect
  pub opacity : ℕ

-- the display's own rectangle
abbrev pub display_rect : Setup → Rect
display_rect setup = sized_rect setup.width setup.height

-- the space of the display, which scales by its pixel ratio
abbrev pub display_space : Setup → Space
display_space setup = record { matrix = scaling_matrix setup.ratio; clip = display_rect setup; opacity = OPACITY_MAX }

-- a clip, cut by a clip boundary that is mapped by a matrix
abbrev pub cut_clip : Rect → Matrix → Option IntRect → Rect
cut_clip clip matrix None = clip
cut_clip clip matrix (Some boundary) = shared_part clip (mapped_rect matrix (in_places boundary))

-- the matrix of a node below an outer one
abbrev pub node_matrix : Matrix → Node → Matrix
node_matrix outer n = composed outer (local_matrix n.scale.0 n.scale.1 n.turn n.place.0 n.place.1)

-- the space of a node in an outer one
abbrev pub node_space : Space → Node → Space
node_space outer n = record {
  matrix = node_matrix outer.matrix n;
  clip = cut_clip outer.clip (node_matrix outer.matrix n) n.clip;
  opacity = seen_through outer.opacity n.opacity;
}

-- the logical rectangle of a viewport, on the display
abbrev pub viewport_rect : Matrix → ViewportProps → Rect
viewport_rect matrix props = mapped_rect matrix (sized_rect props.w props.h)

-- the space of the child view below a viewport, which is cut by the viewport's rectangle
abbrev pub linked_space : Space → Option Content → Space
linked_space here (Some (content.Viewport serial pair props)) =
    record here { clip = shared_part here.clip (viewport_rect here.matrix props) }
linked_space here _ = here

-- a node of a session in its space
abbrev pub placed_node : ℕ → Space → Node → PlacedNode
placed_node s here n = record {
  session = record { 0 = s };
  serial = n.serial;
  matrix = here.matrix;
  clip = here.clip;
  opacity = here.opacity;
  content = n.content;
  hits = n.hits;
}

-- the nodes in preorder: a node, then the child view below its viewport, then its children, then the nodes after it
abbrev pub placed_in : Space → JoinedTree → List PlacedNode
placed_in outer nothing = []
placed_in outer (node s n linked below after) =
    placed_node s (node_space outer n) n
    ∷ (placed_in (linked_space (node_space outer n) n.content) linked
    ++ (placed_in (node_space outer n) below ++ placed_in outer after))
placed_in outer (child_view s root) = placed_in outer root

-- all nodes that the display shows, each in its place
abbrev pub placed_nodes : Setup → Shown → List PlacedNode
placed_nodes setup shown = placed_in (display_space setup) (join setup shown)
