-- What contracts see of a graph.
use Rattle.std.specs.Prelude.{ℕ, pos, ◌+◌, ◌<◌, ◌≤◌, ◌≡◌, ◌≢◌, Bool, true, false, cond, not, ◌==◌, is_some, IsSome}
use Rattle.std.specs.Prelude.{List, [], ◌∷◌, ◌++◌, filter, length, map, count_by, slice_index_or, slice_set, Option}
use Rattle.std.specs.Prelude.{Some, None}
use Rattle.std.specs.Option.{option_map}
use Rattle.std.specs.List.{Contains}
use Rattle.flat_base.specs.declared.shapes.Orientation.TheVariants.{Ccw0}
use Rattle.flat_base.specs.declared.limits.TheConstants.{ONE, OPACITY_MAX}
use Rattle.flat_scene.specs.declared.trees.HeldContent.{HeldContent}
use Rattle.flat_graph.specs.declared.names.NamedNode.{NamedNode}
use Rattle.flat_graph.specs.declared.nodes.GraphNode.{GraphNode}
use Rattle.flat_graph.specs.Names.{key_named, names_but, names_with, IsRising}

-- the node or nothing at each key from 0 on, the names by rising id, the root's key, and how many transforms were
-- ever made
pub record GraphState : Type 0 where
  pub nodes : List (Option GraphNode)
  pub names : List NamedNode
  pub root : Option ℕ
  pub made : ℕ

abbrev pub empty_graph : GraphState
empty_graph = record { nodes = []; names = []; root = None; made = 0 }

abbrev pub node_at : GraphState → ℕ → Option GraphNode
node_at graph key = slice_index_or graph.nodes key None

-- a key has a node
abbrev pub IsKept : List (Option GraphNode) → ℕ → Type 0
IsKept nodes key = IsSome (slice_index_or nodes key None)

-- what is named, the root, and each child of a node have a node;
-- each id stands once among the names, and 0 not at all; no two ids name one node
pub record IsSound (graph : GraphState) : Type 0 where
  pub names_kept : (id key : ℕ) → key_named graph.names id ≡ Some key → IsKept graph.nodes key
  pub root_kept : (key : ℕ) → graph.root ≡ Some key → IsKept graph.nodes key
  pub children_kept : (key : ℕ) (node : GraphNode) → node_at graph key ≡ Some node → (child : ℕ)
      → Contains node.children child → IsKept graph.nodes child
  pub rising : IsRising graph.names
  pub no_zero : key_named graph.names 0 ≡ None
  pub apart : (id other key : ℕ) → key_named graph.names id ≡ Some key → key_named graph.names other ≡ Some key
      → id ≡ other

-- what is true of each graph, whose keys are below the places
pub record IsGraph (places : ℕ) (graph : GraphState) : Type 0 where
  pub sound : IsSound graph
  pub in_range : (key : ℕ) → IsKept graph.nodes key → key < places
  pub few : count_by is_some graph.nodes ≤ graph.made

-- a transform as it is made
abbrev pub new_node : ℕ → GraphNode
new_node serial = record {
  serial = serial;
  scale = (ONE, ONE);
  turn = Ccw0;
  place = (pos 0, pos 0);
  clip = None;
  opacity = OPACITY_MAX;
  hits = None;
  content = None;
  children = [];
}

-- a new node stands under a key that was free, and an id names it
pub record Creates (old new : GraphState) (id serial : ℕ) : Type 0 where
  pub key : ℕ
  pub was_free : node_at old key ≡ None
  pub there : node_at new key ≡ Some (new_node serial)
  pub others : (other : ℕ) → other ≢ key → node_at new other ≡ node_at old other
  pub names : new.names ≡ names_with (record { id = id; key = key }) old.names
  pub root : new.root ≡ old.root
  pub made : new.made ≡ old.made + 1

-- the graph with another node under a key
abbrev pub with_node : GraphState → ℕ → GraphNode → GraphState
with_node graph key node = record graph { nodes = slice_set graph.nodes key (Some node) }

-- the graph with the node of a key changed, where there is one
abbrev pub changed_node : GraphState → ℕ → (GraphNode → GraphNode) → Option GraphNode → GraphState
changed_node graph key change None = graph
changed_node graph key change (Some node) = with_node graph key (change node)

abbrev pub change_at : GraphState → Option ℕ → (GraphNode → GraphNode) → GraphState
change_at graph None change = graph
change_at graph (Some key) change = changed_node graph key change (node_at graph key)

-- the graph with the node changed that an id names
abbrev pub change_named : GraphState → ℕ → (GraphNode → GraphNode) → GraphState
change_named graph id = change_at graph (key_named graph.names id)

-- the graph in which an id names nothing
abbrev pub released : GraphState → ℕ → GraphState
released graph id = record graph { names = names_but id graph.names }

-- the graph with the root that an id names; 0 names none
abbrev pub with_root : GraphState → ℕ → GraphState
with_root graph id = record graph { root = cond (id == 0) None (key_named graph.names id) }

-- the graph without nodes, names and root, which keeps the count
abbrev pub emptied : GraphState → GraphState
emptied graph = record empty_graph { made = graph.made }

-- a node with one child more, behind the others, and with one less
abbrev pub with_child : Option ℕ → GraphNode → GraphNode
with_child None node = node
with_child (Some child) node = record node { children = node.children ++ child ∷ [] }

abbrev pub without_child : Option ℕ → GraphNode → GraphNode
without_child None node = node
without_child (Some child) node = record node { children = filter (λ other. not (other == child)) node.children }

-- a node with these children in place of its own
abbrev pub with_children : List ℕ → GraphNode → GraphNode
with_children children node = record node { children = children }

-- what a node holds, but for the content of a serial number
abbrev pub held_but : ℕ → Option HeldContent → Option HeldContent
held_but serial None = None
held_but serial (Some held) = cond (held.serial == serial) None (Some held)

abbrev pub without_content : ℕ → GraphNode → GraphNode
without_content serial node = record node { content = held_but serial node.content }

-- the graph in which no node holds that content
abbrev pub without_held : GraphState → ℕ → GraphState
without_held graph serial = record graph { nodes = map (option_map (without_content serial)) graph.nodes }

-- the nodes whose keys are marked
abbrev pub marked_nodes : List Bool → List (Option GraphNode) → List (Option GraphNode)
marked_nodes marks [] = []
marked_nodes [] (slot ∷ slots) = None ∷ marked_nodes [] slots
marked_nodes (mark ∷ marks) (slot ∷ slots) = cond mark slot None ∷ marked_nodes marks slots

-- the graph of the marked nodes alone
abbrev pub only_marked : List Bool → GraphState → GraphState
only_marked marks graph = record graph { nodes = marked_nodes marks graph.nodes }

-- a key is marked
abbrev pub IsMarked : List Bool → ℕ → Type 0
IsMarked marks key = slice_index_or marks key false ≡ true

-- The marks may be all that is kept: there is one for each key, and the root, what is named, and each child of what
-- is marked are marked.
pub record MayKeep (marks : List Bool) (graph : GraphState) : Type 0 where
  pub covers : (key : ℕ) → IsSome (node_at graph key) → key < length marks
  pub root_marked : (key : ℕ) → graph.root ≡ Some key → IsMarked marks key
  pub names_marked : (id key : ℕ) → key_named graph.names id ≡ Some key → IsMarked marks key
  pub children_marked : (key : ℕ) (node : GraphNode) → node_at graph key ≡ Some node → IsMarked marks key → (child : ℕ)
      → Contains node.children child → IsMarked marks child
