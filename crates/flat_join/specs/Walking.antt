-- A walk that places the nodes of the joined tree, and what is left of it.
use Rattle.std.specs.Prelude.{ℕ, ◌+◌, ◌*◌, ◌<◌, ◌≤◌, ◌≡◌, nat_lt, if◌then◌else◌, List, [], ◌∷◌, ◌++◌, length, Option}
use Rattle.std.specs.Prelude.{Some, None}
use Rattle.std.specs.List.{All}
use Rattle.flat_base.specs.declared.ids.SessionNo.{SessionNo}
use Rattle.flat_scene.specs.declared.trees.Children.TheVariants.{Empty}
use Rattle.flat_scene.specs.declared.trees.Tree.{Tree}
use Rattle.flat_snap.specs.Flat.{FlatNode, flat_nodes}
use Rattle.flat_snap.specs.Forest.{as_node, forest_in}
use Rattle.flat_snap.specs.Stretch.{IsStretch}
use Rattle.flat_topology.specs.declared.PlacedNode.{PlacedNode}
use Rattle.flat_topology.specs.declared.ConnectedSession.{ConnectedSession}
use Rattle.flat_join.specs.declared.scope.Scope.{Scope}
use Rattle.flat_join.specs.declared.join_walk.NodeRange.{NodeRange}
use Rattle.flat_join.specs.declared.join_walk.JoinWalk.{JoinWalk}
use Rattle.flat_topology.specs.Shown.{Shown, state_of, nodes_of}
use Rattle.flat_topology.specs.Join.{JoinedTree, Viewer, joined_nodes, led_to}
use Rattle.flat_topology.specs.Place.{Space, placed_node, placed_in}
use Rattle.flat_topology.specs.Connected.{joined_count, connected_in}

-- the nodes of a state, in preorder
abbrev pub flat_of : Option Tree → List FlatNode
flat_of None = []
flat_of (Some tree) = flat_nodes tree

-- a session with the nodes that it shows
abbrev pub viewer_at : Shown → SessionNo → Viewer
viewer_at shown s = record { session = s.0; nodes = nodes_of (state_of shown s.0) }

-- the space that a scope has
abbrev pub space_of : Scope → Space
space_of scope = record { matrix = scope.matrix; clip = scope.clip; opacity = scope.opacity }

-- the nodes of a stretch, each viewport with what its pair leads to
abbrev pub tree_of : Shown → NodeRange → JoinedTree
tree_of shown s = joined_nodes (led_to shown s.views) s.session.0
    (forest_in (flat_of (state_of shown s.session.0)) 0 s.next s.end)

-- how many nodes are still to be placed; the last stretch comes first
abbrev pub still_count : Shown → List NodeRange → ℕ
still_count shown [] = 0
still_count shown (s ∷ left) = still_count shown left + joined_count (tree_of shown s)

-- these nodes, each in its place
abbrev pub still_placed : Shown → List NodeRange → List PlacedNode
still_placed shown [] = []
still_placed shown (s ∷ left) = still_placed shown left ++ placed_in (space_of s.scope) (tree_of shown s)

-- the sessions below them, where the nodes have the numbers from this one on
abbrev pub still_connected : Shown → ℕ → List NodeRange → List ConnectedSession
still_connected shown next [] = []
still_connected shown next (s ∷ left) = still_connected shown next left
    ++ connected_in (next + still_count shown left) None (tree_of shown s)

-- how much is left to do: a stretch with each node makes two more, or three
abbrev pub work_in : JoinedTree → ℕ
work_in tree = 1 + 3 * joined_count tree

abbrev pub work : Shown → List NodeRange → ℕ
work shown [] = 0
work shown (s ∷ left) = work shown left + work_in (tree_of shown s)

-- A stretch is one of the nodes of its session.
pub record IsOf (shown : Shown) (s : NodeRange) : Type 0 where
  pub some : 0 < s.session.0
  pub few : s.session.0 ≤ length shown
  pub stretch : IsStretch (flat_of (state_of shown s.session.0)) s.next s.end

-- the nodes below a node of a stretch
abbrev pub below_stretch : NodeRange → FlatNode → Scope → NodeRange
below_stretch s n scope = record s { next = s.next + 1; end = n.end; scope = scope }

-- the nodes after it
abbrev pub after_stretch : NodeRange → FlatNode → NodeRange
after_stretch s n = record s { next = n.end }

-- a stretch comes first, if it has a node
abbrev pub pushed : List NodeRange → NodeRange → List NodeRange
pushed left s = if nat_lt s.next s.end then left ++ s ∷ [] else left

-- The first node of a stretch is in its place, the nodes below it come next, and then those after it.
pub record HasPut (old : JoinWalk) (s : NodeRange) (n : FlatNode) (scope : Scope) (new : JoinWalk) : Type 0 where
  pub nodes : new.nodes ≡ old.nodes ++ placed_node s.session.0 (space_of scope) (as_node n Empty) ∷ []
  pub connected : new.connected ≡ old.connected
  pub left : new.left.items ≡ pushed (pushed old.left.items (after_stretch s n)) (below_stretch s n scope)

-- The nodes and sessions of a tree come next, and then what was left before.
pub record Continues (shown : Shown) (old : JoinWalk) (outer : Space) (at : Option ℕ) (tree : JoinedTree)
    (new : JoinWalk) : Type 0 where
  pub placed : new.nodes ++ still_placed shown new.left.items ≡ old.nodes
      ++ (placed_in outer tree ++ still_placed shown old.left.items)
  pub connected : new.connected ++ still_connected shown (length new.nodes) new.left.items
      ≡ old.connected ++ (connected_in (length old.nodes) at tree
      ++ still_connected shown (length old.nodes + joined_count tree) old.left.items)
  pub whole : All (IsOf shown) new.left.items

-- What is placed, and what is left, are all nodes and all sessions.
pub record IsOnTheWay (shown : Shown) (all_nodes : List PlacedNode) (all_sessions : List ConnectedSession)
    (walk : JoinWalk) : Type 0
  where
    pub placed : walk.nodes ++ still_placed shown walk.left.items ≡ all_nodes
    pub connected : walk.connected ++ still_connected shown (length walk.nodes) walk.left.items ≡ all_sessions
    pub whole : All (IsOf shown) walk.left.items
