-- How a graph stands for the transforms of a draft.
use Rattle.std.specs.Prelude.{ℕ, ◌≡◌, List, [], ◌∷◌, map, length, IsSome, Option, Some, None}
use Rattle.std.specs.Option.{option_map}
use Rattle.flat_scene.specs.declared.trees.HeldContent.{HeldContent}
use Rattle.flat_scene.specs.Draft.{Draft, Transform, Made, Name, named, of_serial}
use Rattle.flat_scene.specs.Misuse.{is_viewport}
use Rattle.flat_graph.specs.declared.nodes.GraphNode.{GraphNode}
use Rattle.flat_graph.specs.Names.{key_named}
use Rattle.flat_graph.specs.State.{GraphState, IsSound, node_at}

-- the serial of a node, if there is one
abbrev pub node_serial : Option GraphNode → ℕ
node_serial None = 0
node_serial (Some node) = node.serial

-- the serial of the node of a key
abbrev pub serial_at : GraphState → ℕ → ℕ
serial_at graph key = node_serial (node_at graph key)

abbrev pub serial_of : HeldContent → ℕ
serial_of held = held.serial

-- a node as a transform of the draft: its children and its content are serials
abbrev pub as_transform : GraphState → GraphNode → Transform
as_transform graph node = record {
  scale = node.scale;
  turn = node.turn;
  place = node.place;
  clip = node.clip;
  opacity = node.opacity;
  hits = node.hits;
  content = option_map serial_of node.content;
  children = map (serial_at graph) node.children;
}

-- each id stands once
abbrev pub IsOnce : List Name → Type 0
IsOnce [] = Unit {0}
IsOnce (name ∷ names) = (named names name.id ≡ None) × IsOnce names

-- what is held was made, and the mark says whether it is a viewport
pub record IsHeld (contents : List Made) (held : HeldContent) : Type 0 where
  pub made : IsSome (of_serial contents held.serial)
  pub sort : held.viewport ≡ is_viewport (of_serial contents held.serial)

-- A graph stands for the transforms of a draft:
-- its nodes are some of them, each once, and among these are the root, what has a name, and the children of each.
pub record StandsFor (graph : GraphState) (draft : Draft) : Type 0 where
  pub sound : IsSound graph
  pub made : graph.made ≡ length draft.transforms
  pub names : (id : ℕ) → option_map (serial_at graph) (key_named graph.names id) ≡ named draft.transform_names id
  pub count : length graph.names ≡ length draft.transform_names
  pub once : IsOnce draft.transform_names
  pub root : option_map (serial_at graph) graph.root ≡ draft.root
  pub nodes : (key : ℕ) (node : GraphNode) → node_at graph key ≡ Some node
      → of_serial draft.transforms node.serial ≡ Some (as_transform graph node)
  -- no two nodes are of one transform
  pub apart : (key other : ℕ) (node node' : GraphNode) → node_at graph key ≡ Some node
      → node_at graph other ≡ Some node' → node.serial ≡ node'.serial → key ≡ other
  pub contents : (key : ℕ) (node : GraphNode) (held : HeldContent) → node_at graph key ≡ Some node
      → node.content ≡ Some held
      → IsHeld draft.contents held
