-- A walk that builds the nodes of some keys.
use Rattle.std.proofs.Common.{ℕ, zero, suc, ◌+◌, ◌-◌, ◌<◌, ◌≤◌, ◌≡◌, refl, sym, ◌∙◌, ap, Bool, true, false, List, [], ◌∷◌, length, drop, Option, Some, None}
use Rattle.std.proofs.Common.{slice_index_or, drop-cons, add-one, arith}
use Rattle.std.specs.Prelude.{option_to_list, IsFalse}
use Rattle.flat_base.specs.declared.limits.TheConstants.{PATH_NODES_MAX}
use Rattle.flat_scene.specs.declared.trees.Children.{Children}
use Rattle.flat_scene.specs.declared.trees.Children.TheVariants.{Empty}
use Rattle.flat_scene.specs.Trees.{more, node_count, nodes}
use Rattle.flat_graph.specs.declared.nodes.GraphNode.{GraphNode}
use Rattle.flat_graph.specs.Reasons.{links_in}
use Rattle.flat_graph.specs.State.{GraphState, node_at}
use Rattle.flat_collect.specs.Forest.{Forest, size}
use Rattle.flat_collect.specs.Judge.{is_too_large}
use Rattle.flat_collect.specs.Walking.{below}
use Rattle.flat_collect.proofs.lemmas.Walking.{below-first}
use Rattle.flat_content.specs.Table.{TableState}
use Rattle.flat_snap.specs.Building.{Building, adds, entered, left, with_children}
use Rattle.flat_snap.proofs.lemmas.Adding.{adds-none, adds-adds, left-adds}
use Rattle.flat_draft.specs.Shown.{HasRoom, all_shown, leaf, shown_nodes}

-- there is room for a tree that isn't too large, where there is room for so many nodes as it has
pub tree-room : (forest : Forest) (nodes room : ℕ) → IsFalse (is_too_large forest) → nodes ≡ size forest → room ≡ nodes → HasRoom forest PATH_NODES_MAX room
tree-room forest nodes room fits counted e = record { short = grind arith; small = omega (arith, counted, e) }

module _ (graph : GraphState) (table : TableState) where
  pub shown-none : (levels : ℕ) (is_root : Bool) → shown_nodes graph table levels is_root [] ≡ Empty
  unfolding shown_nodes
  shown-none zero is_root = refl
  shown-none (suc levels) is_root = refl

  shown-zero : (is_root : Bool) (keys : List ℕ) → shown_nodes graph table zero is_root keys ≡ Empty
  unfolding shown_nodes
  shown-zero is_root keys = refl

  -- a key without a node, and one with a node
  pub shown-skip : (levels : ℕ) (is_root : Bool) (key : ℕ) (keys : List ℕ) → node_at graph key ≡ None
      → shown_nodes graph table levels is_root (key ∷ keys) ≡ shown_nodes graph table levels is_root keys
  unfolding shown_nodes
  shown-skip zero is_root key keys e = refl
  shown-skip (suc levels) is_root key keys e = rw e refl

  pub shown-more : (levels : ℕ) (is_root : Bool) (key : ℕ) (keys : List ℕ) (node : GraphNode) → node_at graph key ≡ Some node
      → shown_nodes graph table (suc levels) is_root (key ∷ keys)
      ≡ more (with_children (leaf table is_root node) (shown_nodes graph table levels false node.children)) (shown_nodes graph table (suc levels) is_root keys)
  unfolding shown_nodes
  shown-more levels is_root key keys node e = rw e refl

  -- what is shown has no more nodes than the forest
  pub shown-count : (levels : ℕ) (is_root : Bool) (keys : List ℕ)
      → node_count (shown_nodes graph table levels is_root keys) ≤ size (below (links_in graph) levels keys)
  shown-count zero is_root keys = rw (shown-zero is_root keys) (omega arith)
  shown-count (suc levels) is_root [] = rw (shown-none (suc levels) is_root) (omega arith)
  shown-count (suc levels) is_root (key ∷ keys) = by_node (node_at graph key) refl (shown-count (suc levels) is_root keys)
      (shown-count levels false (links_in graph key))
    where
      by_node : (x : Option GraphNode) → node_at graph key ≡ x
          → node_count (shown_nodes graph table (suc levels) is_root keys) ≤ size (below (links_in graph) (suc levels) keys)
          → node_count (shown_nodes graph table levels false (links_in graph key)) ≤ size (below (links_in graph) levels (links_in graph key))
          → node_count (shown_nodes graph table (suc levels) is_root (key ∷ keys)) ≤ size (below (links_in graph) (suc levels) (key ∷ keys))
      by_node None e rest first = rw (shown-skip (suc levels) is_root key keys e, below-first (links_in graph) (suc levels) key keys) (omega (arith, rest))
      by_node (Some node) e rest first =
          let links : links_in graph key ≡ node.children = rw e refl in
          let first' : node_count (shown_nodes graph table levels false node.children) ≤ size (below (links_in graph) levels node.children) =
          rw links at first in
          rw (shown-more levels is_root key keys node e, below-first (links_in graph) (suc levels) key keys, links) (omega (arith, rest, first'))

  -- so far all is built but what is left, for which there is room
  pub record IsLaying (levels : ℕ) (is_root : Bool) (keys rest : List ℕ) (start now : Building) : Type 0 where
    pub whole : adds now (shown_nodes graph table levels is_root rest) ≡ adds start (shown_nodes graph table levels is_root keys)
    pub room : HasRoom (below (links_in graph) levels rest) levels now.room

  pub laying-at : (levels : ℕ) (is_root : Bool) (keys : List ℕ) (i : ℕ) (start now : Building) → i < length keys
      → IsLaying levels is_root keys (drop i keys) start now → IsLaying levels is_root keys (slice_index_or keys i 0 ∷ drop (i + 1) keys) start now
  laying-at levels is_root keys i start now within l = rw (drop-cons keys i 0, ← add-one i) at l

  -- a node is passed over
  pub laying-skip : (levels : ℕ) (is_root : Bool) (keys : List ℕ) (key : ℕ) (rest : List ℕ) (start now : Building) → node_at graph key ≡ None
      → IsLaying levels is_root keys (key ∷ rest) start now → IsLaying levels is_root keys rest start now
  laying-skip levels is_root keys key rest start now e l =
      let room = rw (below-first (links_in graph) levels key rest) at l.room in
      record {
        whole = rw (shown-skip levels is_root key rest e) at l.whole;
        room = record { short = omega (arith, room.short); small = omega (arith, room.small) };
      }

  -- a key is left where there is a level and room
  pub laying-fits : (levels : ℕ) (is_root : Bool) (keys : List ℕ) (key : ℕ) (rest : List ℕ) (start now : Building)
      → IsLaying levels is_root keys (key ∷ rest) start now → (1 ≤ levels) × (1 ≤ now.room)
  laying-fits levels is_root keys key rest start now l =
      let room = rw (below-first (links_in graph) levels key rest) at l.room in
      (omega (arith, room.short), omega (arith, room.small))

  -- and room for what is below it
  pub laying-below : (levels fewer : ℕ) (is_root : Bool) (keys : List ℕ) (key : ℕ) (rest : List ℕ) (start now : Building) (node : GraphNode)
      → levels ≡ suc fewer → node_at graph key ≡ Some node
      → IsLaying levels is_root keys (key ∷ rest) start now → HasRoom (below (links_in graph) fewer node.children) fewer (now.room - 1)
  laying-below levels fewer is_root keys key rest start now node less e l =
      let links : links_in graph key ≡ node.children = rw e refl in
      let room = rw (below-first (links_in graph) levels key rest, less, links) at l.room in
      record { short = omega (arith, room.short); small = omega (arith, room.small) }

  -- a node is built, with all below it
  pub laying-more : (levels fewer : ℕ) (is_root : Bool) (keys : List ℕ) (key : ℕ) (rest : List ℕ) (start now deeper after : Building) (node : GraphNode)
      → levels ≡ suc fewer → node_at graph key ≡ Some node
      → deeper ≡ adds (entered now (leaf table is_root node)) (shown_nodes graph table fewer false node.children) → after ≡ left deeper
      → IsLaying levels is_root keys (key ∷ rest) start now → IsLaying levels is_root keys rest start after
  laying-more levels fewer is_root keys key rest start now deeper after node less e built closed l =
      let one : Children = more (with_children (leaf table is_root node) (shown_nodes graph table fewer false node.children)) Empty in
      let is : after ≡ adds now one = closed ∙ ap left built ∙ left-adds now (leaf table is_root node) (shown_nodes graph table fewer false node.children) in
      let links : links_in graph key ≡ node.children = rw e refl in
      let room = rw (below-first (links_in graph) levels key rest, less, links) at l.room in
      let few : node_count (shown_nodes graph table fewer false node.children) ≤ size (below (links_in graph) fewer node.children) =
      shown-count fewer false node.children in
      rw is
      (record {
        whole = adds-adds now one (shown_nodes graph table levels is_root rest) ∙ sym (ap (adds now) (rw less (shown-more fewer is_root key rest node e)))
            ∙ l.whole;
        room = record { short = rw less (omega (arith, room.short)); small = rw less (omega (arith, room.small, few)) };
      })

  pub laying-begin : (levels : ℕ) (is_root : Bool) (keys : List ℕ) (start : Building) → HasRoom (below (links_in graph) levels keys) levels start.room
      → IsLaying levels is_root keys keys start start
  laying-begin levels is_root keys start room = record { whole = refl; room = room }

  pub laying-end : (levels : ℕ) (is_root : Bool) (keys : List ℕ) (start now : Building) → IsLaying levels is_root keys [] start now
      → now ≡ adds start (shown_nodes graph table levels is_root keys)
  laying-end levels is_root keys start now l = sym (adds-none now) ∙ ap (adds now) (sym (shown-none levels is_root)) ∙ l.whole

  -- no root, no node; one root, one node at most
  pub no-root : graph.root ≡ None → all_shown graph table ≡ Empty
  no-root e = ap (λ (root : Option ℕ). shown_nodes graph table PATH_NODES_MAX true (option_to_list root)) e ∙ shown-none PATH_NODES_MAX true

  one-key : (levels : ℕ) (is_root : Bool) (key : ℕ) → length (nodes (shown_nodes graph table levels is_root (key ∷ []))) ≤ 1
  one-key zero is_root key = rw (shown-zero is_root (key ∷ [])) (omega arith)
  one-key (suc levels) is_root key = by_node (node_at graph key) refl
    where
      by_node : (x : Option GraphNode) → node_at graph key ≡ x → length (nodes (shown_nodes graph table (suc levels) is_root (key ∷ []))) ≤ 1
      by_node None e = rw (shown-skip (suc levels) is_root key [] e, shown-none (suc levels) is_root) (omega arith)
      by_node (Some node) e = rw (shown-more levels is_root key [] node e, shown-none (suc levels) is_root) (omega arith)

  pub one-root : length (nodes (all_shown graph table)) ≤ 1
  one-root = by_root graph.root
    where
      by_root : (root : Option ℕ) → length (nodes (shown_nodes graph table PATH_NODES_MAX true (option_to_list root))) ≤ 1
      by_root None = rw (shown-none PATH_NODES_MAX true) (omega arith)
      by_root (Some key) = one-key PATH_NODES_MAX true key
