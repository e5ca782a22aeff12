-- What a graph unfolds to, and when that is a tree to present.
use Rattle.std.specs.Prelude.{ℕ, suc, ◌≡◌, ◌||◌, Bool, nat_lt, IsTrue, IsFalse, option_to_list, Option, Some, None}
use Rattle.std.specs.Prelude.{cond}
use Rattle.flat_base.specs.declared.errors.Reason.{Reason}
use Rattle.flat_base.specs.declared.errors.Reason.TheVariants.{Cycle, TreeTooLarge, ViewportTwice}
use Rattle.flat_base.specs.declared.limits.TheConstants.{TREE_NODES_MAX, PATH_NODES_MAX}
use Rattle.flat_scene.specs.declared.trees.HeldContent.{HeldContent}
use Rattle.flat_scene.specs.Cycles.{HasCycle}
use Rattle.flat_scene.specs.Misuse.{has_twice}
use Rattle.flat_graph.specs.declared.nodes.GraphNode.{GraphNode}
use Rattle.flat_graph.specs.Reasons.{links_in}
use Rattle.flat_graph.specs.State.{GraphState, node_at}
use Rattle.flat_collect.specs.declared.TreeCheck.{TreeCheck}
use Rattle.flat_collect.specs.declared.TreeCheck.TheVariants.{Good, Bad}
use Rattle.flat_collect.specs.Forest.{Forest, unfolded, size, height, held}

-- the serial of a content, if it is a viewport
abbrev pub viewport_held : Option HeldContent → Option ℕ
viewport_held None = None
viewport_held (Some content) = cond content.viewport (Some content.serial) None

abbrev pub viewport_of : Option GraphNode → Option ℕ
viewport_of None = None
viewport_of (Some node) = viewport_held node.content

-- the viewport that the node of a key holds
abbrev pub viewport_in : GraphState → ℕ → Option ℕ
viewport_in graph key = viewport_of (node_at graph key)

-- The tree of the paths from the root. It has one level more than is allowed, so that it is too high exactly where a
-- path is too long.
abbrev pub graph_tree : GraphState → Forest
graph_tree graph = unfolded (links_in graph) (suc PATH_NODES_MAX) (option_to_list graph.root)

-- a node that the root reaches reaches itself
abbrev pub IsCyclic : GraphState → Type 0
IsCyclic graph = (root : ℕ) × (graph.root ≡ Some root) × HasCycle (links_in graph) root

-- there are too many nodes, or there is a path that is too long
abbrev pub is_too_large : Forest → Bool
is_too_large forest = nat_lt TREE_NODES_MAX (size forest) || nat_lt PATH_NODES_MAX (height forest)

-- one viewport is the content of two nodes
abbrev pub shows_twice : GraphState → Bool
shows_twice graph = has_twice (held (viewport_in graph) (graph_tree graph))

-- a graph has no tree to present, and this is the first reason
abbrev pub HasFault : GraphState → Reason → Type 0
HasFault graph Cycle = IsCyclic graph
HasFault graph TreeTooLarge = ¬ IsCyclic graph × IsTrue (is_too_large (graph_tree graph))
HasFault graph ViewportTwice = ¬ IsCyclic graph × IsFalse (is_too_large (graph_tree graph)) × IsTrue (shows_twice graph)
HasFault graph _ = ⊥

-- a graph has a tree to present
pub record HasTree (graph : GraphState) : Type 0 where
  pub acyclic : ¬ IsCyclic graph
  pub small : IsFalse (is_too_large (graph_tree graph))
  pub once : IsFalse (shows_twice graph)

-- the verdict on a graph: its tree has so many nodes, or this is the first reason why it has none
abbrev pub IsJudged : GraphState → TreeCheck → Type 0
IsJudged graph (Good nodes) = HasTree graph × (nodes ≡ size (graph_tree graph))
IsJudged graph (Bad reason) = HasFault graph reason
