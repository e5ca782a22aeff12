-- The tree that a draft's parts show.
use Rattle.std.specs.Prelude.{ℕ, zero, suc, ◌≤◌, Bool, true, false, List, [], ◌∷◌, map, option_to_list, Option, Some}
use Rattle.std.specs.Prelude.{None}
use Rattle.std.specs.List.{filter_map}
use Rattle.std.specs.Option.{option_map, option_and_then}
use Rattle.flat_base.specs.declared.ids.PairNo.{PairNo}
use Rattle.flat_base.specs.declared.limits.TheConstants.{PATH_NODES_MAX}
use Rattle.flat_scene.specs.declared.trees.Children.{Children}
use Rattle.flat_scene.specs.declared.trees.Children.TheVariants.{Empty}
use Rattle.flat_scene.specs.declared.trees.Content.{Content}
use Rattle.flat_scene.specs.declared.trees.HeldContent.{HeldContent}
use Rattle.flat_scene.specs.declared.trees.Node.{Node}
use Rattle.flat_scene.specs.declared.trees.Tree.{Tree}
use Rattle.flat_scene.specs.Tree.{head_of, regions_of}
use Rattle.flat_scene.specs.Trees.{more}
use Rattle.flat_graph.specs.declared.nodes.GraphNode.{GraphNode}
use Rattle.flat_graph.specs.Stands.{serial_of}
use Rattle.flat_graph.specs.State.{GraphState, node_at}
use Rattle.flat_collect.specs.Forest.{Forest, height, size}
use Rattle.flat_content.specs.Table.{TableState, content_at, use_at}
use Rattle.flat_snap.specs.Building.{with_children}

-- what a transform shows that holds a content
abbrev pub content_shown : TableState → Option HeldContent → Option Content
content_shown table held = option_and_then (content_at table) (option_map serial_of held)

-- the node of a transform, without children
abbrev pub leaf : TableState → Bool → GraphNode → Node
leaf table is_root node = record {
  serial = node.serial;
  scale = node.scale;
  turn = node.turn;
  place = node.place;
  clip = node.clip;
  opacity = node.opacity;
  hits = regions_of is_root node.hits;
  content = content_shown table node.content;
  children = Empty;
}

-- what is made of the nodes of a graph, one after another
abbrev pub laid : (GraphNode → Node) → List (Option GraphNode) → Children
laid make [] = Empty
laid make (None ∷ slots) = laid make slots
laid make (Some node ∷ slots) = more (make node) (laid make slots)

-- the nodes of some keys with all below them, cut off after so many levels
unfoldable pub shown_nodes : GraphState → TableState → ℕ → Bool → List ℕ → Children
shown_nodes graph table zero is_root keys = Empty
shown_nodes graph table (suc levels) is_root keys =
    laid (λ node. with_children (leaf table is_root node) (shown_nodes graph table levels false node.children))
    (map (node_at graph) keys)

-- the nodes of the paths from the root
abbrev pub all_shown : GraphState → TableState → Children
all_shown graph table = shown_nodes graph table PATH_NODES_MAX true (option_to_list graph.root)

-- the tree of a graph and a table, with a view
abbrev pub shown_tree : Option PairNo → GraphState → TableState → Tree
shown_tree view graph table = record {
  view = view;
  root = head_of (all_shown graph table);
  viewports = filter_map (use_at table) table.viewports;
}

-- a forest's paths have so few nodes, and there is room for it
pub record HasRoom (forest : Forest) (levels room : ℕ) : Type 0 where
  pub short : height forest ≤ levels
  pub small : size forest ≤ room
