-- When shown states fit a setup.
use Rattle.std.specs.Prelude.{ℕ, ◌≤◌, ◌≡◌, ◌≢◌, Option, Some, max}
use Rattle.std.specs.List.{Contains, AllPairs}
use Rattle.flat_base.specs.declared.limits.TheConstants.{OPACITY_MAX, TREE_NODES_MAX}
use Rattle.flat_scene.specs.declared.trees.Children.{Children}
use Rattle.flat_scene.specs.declared.trees.Content.{Content}
use Rattle.flat_scene.specs.declared.trees.Content.TheVariants as content
use Rattle.flat_scene.specs.declared.setup.Setup.{Setup}
use Rattle.flat_scene.specs.Trees.{fold_nodes, node_count}
use Rattle.flat_topology.specs.Shown.{Shown, state_of, view_of, nodes_of, pairs_shown}
use Rattle.flat_topology.specs.Owners.{OwnsView, OwnsViewport}

-- the opacity of an image
abbrev pub image_opacity : Option Content → ℕ
image_opacity (Some (content.Image serial buffers index sample w h blend flip opacity)) = opacity
image_opacity _ = 0

-- the greatest opacity of a node or of an image
abbrev pub greatest_opacity : Children → ℕ
greatest_opacity = fold_nodes (λ node below after. max (max node.opacity (image_opacity node.content))
    (max below after)) 0

-- The shown states of all sessions fit the setup.
pub record FitsSetup (setup : Setup) (shown : Shown) : Type 0 where
  -- each view is of a pair whose view end the session owns
  pub views : (s p : ℕ) → view_of (state_of shown s) ≡ Some p → OwnsView setup s p
  -- each viewport is of a pair whose viewport end the session owns
  pub viewports : (s p : ℕ) → Contains (pairs_shown shown s) p → OwnsViewport setup s p
  -- no pair is on two nodes
  pub once : (s : ℕ) → AllPairs (λ p q. p ≢ q) (pairs_shown shown s)
  -- there are no more nodes than a tree may have
  pub small : (s : ℕ) → node_count (nodes_of (state_of shown s)) ≤ TREE_NODES_MAX
  -- no node and no image has an opacity above the greatest
  pub opacities : (s : ℕ) → greatest_opacity (nodes_of (state_of shown s)) ≤ OPACITY_MAX
