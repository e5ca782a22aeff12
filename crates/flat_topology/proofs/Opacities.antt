-- No opacity is above the greatest, however many nodes it goes through.
use Rattle.std.proofs.Common.{ℕ, zero, suc, ◌*◌, ◌≤◌, ◌≡◌, refl, List, ◌++◌, Option, Some, None, arith}
use Rattle.std.specs.List.{All}
use Rattle.std.proofs.lemmas.List.Elements.{All-nil, All-cons, All-append}
use Rattle.std.proofs.Math.Nat.{mul-le-mul_right}
use Rattle.flat_base.specs.declared.limits.TheConstants.{OPACITY_MAX}
use Rattle.flat_scene.specs.declared.setup.Setup.{Setup}
use Rattle.flat_scene.specs.declared.trees.Children.{Children}
use Rattle.flat_scene.specs.declared.trees.Children.TheVariants.{Empty}
use Rattle.flat_scene.specs.declared.trees.Content.{Content}
use Rattle.flat_scene.specs.declared.trees.Content.TheVariants as content
use Rattle.flat_scene.specs.declared.trees.Node.{Node}
use Rattle.flat_scene.specs.Trees.{first}
use Rattle.flat_topology.specs.declared.PlacedNode.{PlacedNode}
use Rattle.flat_topology.specs.Shown.{Shown}
use Rattle.flat_topology.specs.Fit.{FitsSetup, greatest_opacity, image_opacity}
use Rattle.flat_topology.specs.Join.{JoinedTree, Viewer, viewer_from, linked_to, joined_nodes, viewed, led_to}
use Rattle.flat_topology.specs.Place.{Space, seen_through, node_space, linked_space, placed_node, placed_in}
use Rattle.flat_topology.specs.Laws.{HasLowOpacity}
use Rattle.flat_topology.proofs.lemmas.Distances.{viewer-state}

abbrev pub AllLow : List PlacedNode → Type 0
AllLow = All HasLowOpacity

-- an opacity through another is no greater than it
seen-low : (outer own : ℕ) → outer ≤ OPACITY_MAX → own ≤ OPACITY_MAX → seen_through outer own ≤ OPACITY_MAX
seen-low outer own low own_low =
    let product : outer * own ≤ OPACITY_MAX * own = mul-le-mul_right own low in
    omega (arith, product)

module _ (led : ℕ → JoinedTree) (each : (q : ℕ) (outer : Space) → outer.opacity ≤ OPACITY_MAX → AllLow (placed_in outer (led q))) where
  low-linked : (here : Space) (what : Option Content) → here.opacity ≤ OPACITY_MAX → AllLow (placed_in (linked_space here what) (linked_to led what))
  low-linked here None low = All-nil HasLowOpacity
  low-linked here (Some (content.Fill serial rgba w h)) low = All-nil HasLowOpacity
  low-linked here (Some (content.Image serial buffers index sample w h blend flip opacity)) low = All-nil HasLowOpacity
  low-linked here (Some (content.Viewport serial pair props)) low = each pair.0 (linked_space here (Some (content.Viewport serial pair props))) low

  low-nodes : (s : ℕ) (outer : Space) (nodes : Children) → outer.opacity ≤ OPACITY_MAX → greatest_opacity nodes ≤ OPACITY_MAX
      → AllLow (placed_in outer (joined_nodes led s nodes))
  low-nodes s outer Empty low greatest = All-nil HasLowOpacity
  low-nodes s outer (first serial scale turn place clip opacity hits what children rest) low greatest =
      let n : Node = record {
        serial = serial;
        scale = scale;
        turn = turn;
        place = place;
        clip = clip;
        opacity = opacity;
        hits = hits;
        content = what;
        children = children;
      } in
      let own_low : opacity ≤ OPACITY_MAX = omega (arith, greatest) in
      let image_low : image_opacity what ≤ OPACITY_MAX = omega (arith, greatest) in
      let inner : Space = node_space outer n in
      let inner_low : inner.opacity ≤ OPACITY_MAX = seen-low outer.opacity opacity low own_low in
      let linked : List PlacedNode = placed_in (linked_space inner what) (linked_to led what) in
      let below : List PlacedNode = placed_in inner (joined_nodes led s children) in
      let after : List PlacedNode = placed_in outer (joined_nodes led s rest) in
      All-cons HasLowOpacity (placed_node s inner n) (linked ++ (below ++ after)) (inner_low, image_low)
      (All-append HasLowOpacity linked (below ++ after) (low-linked inner what inner_low)
      (All-append HasLowOpacity below after (low-nodes s inner children inner_low (omega (arith, greatest)))
      (low-nodes s outer rest low (omega (arith, greatest)))))

module _ (setup : Setup) (shown : Shown) (fit : FitsSetup setup shown) where
  low-viewed : (views p : ℕ) (found : Option Viewer) → viewer_from 1 shown p ≡ found
      → ((q : ℕ) (outer : Space) → outer.opacity ≤ OPACITY_MAX → AllLow (placed_in outer (led_to shown views q)))
      → (outer : Space) → outer.opacity ≤ OPACITY_MAX → AllLow (placed_in outer (viewed (led_to shown views) found))
  low-viewed views p None e each outer low = All-nil HasLowOpacity
  low-viewed views p (Some viewer) e each outer low =
      low-nodes (led_to shown views) each viewer.session outer viewer.nodes low (rw (viewer-state shown p viewer e).1 (fit.opacities viewer.session))

  pub low-led : (views p : ℕ) (outer : Space) → outer.opacity ≤ OPACITY_MAX → AllLow (placed_in outer (led_to shown views p))
  low-led zero p outer low = All-nil HasLowOpacity
  low-led (suc views) p outer low = low-viewed views p (viewer_from 1 shown p) refl (low-led views) outer low
