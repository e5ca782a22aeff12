-- How many nodes the joined tree has.
use Rattle.std.proofs.Common.{ℕ, zero, suc, ◌+◌, ◌*◌, ◌≤◌, ◌≡◌, refl, length, Option, Some, None, arith}
use Rattle.std.proofs.lemmas.List.{length-append}
use Rattle.flat_base.specs.declared.limits.TheConstants.{TREE_NODES_MAX}
use Rattle.flat_scene.specs.declared.setup.Setup.{Setup}
use Rattle.flat_scene.specs.declared.trees.Children.{Children}
use Rattle.flat_scene.specs.declared.trees.Children.TheVariants.{Empty}
use Rattle.flat_scene.specs.declared.trees.Content.{Content}
use Rattle.flat_scene.specs.declared.trees.Content.TheVariants as content
use Rattle.flat_scene.specs.Trees.{first, node_count}
use Rattle.flat_topology.specs.Shown.{Shown}
use Rattle.flat_topology.specs.Fit.{FitsSetup}
use Rattle.flat_topology.specs.Join.{JoinedTree, Viewer, viewer_from, linked_to, joined_nodes, viewed, led_to, led_from, sessions_in}
use Rattle.flat_topology.specs.Connected.{joined_count}
use Rattle.flat_topology.proofs.lemmas.Distances.{viewer-state}

-- as many nodes as the sessions of a tree may have
abbrev allowed : JoinedTree → ℕ
allowed tree = length (sessions_in tree) * TREE_NODES_MAX

-- a tree has no more nodes than its sessions may have
abbrev IsFew : JoinedTree → Type 0
IsFew tree = joined_count tree ≤ allowed tree

few-linked : (led : ℕ → JoinedTree) → ((q : ℕ) → IsFew (led q)) → (what : Option Content) → IsFew (linked_to led what)
few-linked led few None = omega arith
few-linked led few (Some (content.Fill serial rgba w h)) = omega arith
few-linked led few (Some (content.Image serial buffers index sample w h blend flip opacity)) = omega arith
few-linked led few (Some (content.Viewport serial pair props)) = few pair.0

few-nodes : (led : ℕ → JoinedTree) → ((q : ℕ) → IsFew (led q)) → (s : ℕ) (nodes : Children)
    → joined_count (joined_nodes led s nodes) ≤ node_count nodes + allowed (joined_nodes led s nodes)
few-nodes led few s Empty = omega arith
few-nodes led few s (first serial scale turn place clip opacity hits what children rest) =
    let linked : IsFew (linked_to led what) = few-linked led few what in
    let below : joined_count (joined_nodes led s children) ≤ node_count children + allowed (joined_nodes led s children) = few-nodes led few s children in
    let after : joined_count (joined_nodes led s rest) ≤ node_count rest + allowed (joined_nodes led s rest) = few-nodes led few s rest in
    simp length-append (omega (arith, linked, below, after))

module _ (setup : Setup) (shown : Shown) (fit : FitsSetup setup shown) where
  few-viewed : (views p : ℕ) (found : Option Viewer) → viewer_from 1 shown p ≡ found → ((q : ℕ) → IsFew (led_to shown views q))
      → IsFew (viewed (led_to shown views) found)
  few-viewed views p None e few = omega arith
  few-viewed views p (Some viewer) e few =
      let own : node_count viewer.nodes ≤ TREE_NODES_MAX = rw (viewer-state shown p viewer e).1 (fit.small viewer.session) in
      let all : joined_count (joined_nodes (led_to shown views) viewer.session viewer.nodes)
      ≤ node_count viewer.nodes + length (sessions_in (joined_nodes (led_to shown views) viewer.session viewer.nodes)) * TREE_NODES_MAX =
      few-nodes (led_to shown views) few viewer.session viewer.nodes in
      omega (arith, own, all)

  few-led : (views p : ℕ) → IsFew (led_to shown views p)
  few-led zero p = omega arith
  few-led (suc views) p = few-viewed views p (viewer_from 1 shown p) refl (few-led views)

  pub few-joined : (found : Option ℕ) → joined_count (led_from shown found) ≤ length (sessions_in (led_from shown found)) * TREE_NODES_MAX
  few-joined None = omega arith
  few-joined (Some p) = few-led (length shown) p
