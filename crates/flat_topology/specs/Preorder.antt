-- The order in which nodes are drawn, by where they stand in the joined tree.
use Rattle.std.specs.Prelude.{ℕ, zero, suc, Bool, true, false, ◌&&◌, ◌||◌, ◌==◌, nat_lt, if◌then◌else◌, ◌≡◌, List, []}
use Rattle.std.specs.Prelude.{◌∷◌, ◌++◌, map, Option, Some, None, option_map}
use Rattle.std.specs.List.{list_all, Contains}
use Rattle.flat_scene.specs.declared.calls.HitRegion.{HitRegion}
use Rattle.flat_scene.specs.declared.trees.Content.{Content}
use Rattle.flat_scene.specs.declared.trees.Node.{Node}
use Rattle.flat_topology.specs.declared.PlacedNode.{PlacedNode}
use Rattle.flat_topology.specs.Join.{JoinedTree, nothing, node, child_view}

-- The address of a node says how it is reached:
-- the number of a node among its siblings, then 0 for the child view below it or 1 for its own
-- children, then the number of the next node, and so on, to the number of the node itself.
abbrev pub Address : Type 0
Address = List ℕ

-- one address comes before another: the other goes on from it, or at the first difference the one has the lesser number
abbrev pub comes_before : Address → Address → Bool
comes_before [] [] = false
comes_before [] (n ∷ other) = true
comes_before (m ∷ one) [] = false
comes_before (m ∷ one) (n ∷ other) = nat_lt m n || ((m == n) && comes_before one other)

-- each address comes before all later ones
abbrev pub are_in_order : List Address → Bool
are_in_order [] = true
are_in_order (one ∷ later) = list_all (comes_before one) later && are_in_order later

-- the node at an address, and whose it is, where the first node has this number
abbrev pub node_at : ℕ → JoinedTree → Address → Option (ℕ × Node)
node_at first nothing address = None
node_at first (node s fields linked below after) [] = None
node_at first (node s fields linked below after) (n ∷ []) =
    if n == first then Some (s, fields) else node_at (suc first) after (n ∷ [])
node_at first (node s fields linked below after) (n ∷ zero ∷ address) =
    if n == first then node_at 0 linked address else node_at (suc first) after (n ∷ 0 ∷ address)
node_at first (node s fields linked below after) (n ∷ suc zero ∷ address) =
    if n == first then node_at 0 below address else node_at (suc first) after (n ∷ 1 ∷ address)
node_at first (node s fields linked below after) (n ∷ suc (suc other) ∷ address) = None
node_at first (child_view s root) address = node_at first root address

-- the addresses of all nodes, where the first has this number
abbrev pub addresses : ℕ → JoinedTree → List Address
addresses first nothing = []
addresses first (node s fields linked below after) =
    (first ∷ [])
    ∷ (map (λ address. first ∷ 0 ∷ address) (addresses 0 linked)
    ++ (map (λ address. first ∷ 1 ∷ address) (addresses 0 below) ++ addresses (suc first) after))
addresses first (child_view s root) = addresses first root

-- what a placed node has of its session's transform: the serial number, the content and the hit regions
pub record Kept : Type 0 where
  pub session : ℕ
  pub serial : ℕ
  pub content : Option Content
  pub hits : List HitRegion

abbrev pub kept_of : ℕ × Node → Kept
kept_of (s, n) = record { session = s; serial = n.serial; content = n.content; hits = n.hits }

abbrev pub kept_by : PlacedNode → Kept
kept_by at = record { session = at.session.0; serial = at.serial; content = at.content; hits = at.hits }

-- The placed nodes stand in preorder: they are those at the addresses of the joined tree, each node has an address,
-- and each address comes
-- before all later ones.
pub record IsPreorder (tree : JoinedTree) (placed : List PlacedNode) : Type 0 where
  pub in_order : are_in_order (addresses 0 tree) ≡ true
  pub nodes : map (λ address. option_map kept_of (node_at 0 tree address)) (addresses 0 tree)
      ≡ map (λ at. Some (kept_by at)) placed
  pub all : (address : Address) (n : ℕ × Node) → node_at 0 tree address ≡ Some n → Contains (addresses 0 tree) address
