-- Who shows a session, and on whom it depends whether a session is connected.
use Rattle.std.proofs.Common.{ℕ, zero, suc, ◌≡◌, inl, refl, Bool, List, ◌++◌, Option, Some, None}
use Rattle.std.specs.Prelude.{IsTrue}
use Rattle.std.specs.List.{All, Contains}
use Rattle.std.proofs.lemmas.List.Elements.{All-nil, All-cons, All-append}
use Rattle.flat_base.specs.declared.ids.SessionNo.{SessionNo}
use Rattle.flat_base.specs.declared.shapes.Rect.{Rect}
use Rattle.flat_scene.specs.declared.frames.ViewNode.{ViewNode}
use Rattle.flat_scene.specs.declared.setup.Setup.{Setup}
use Rattle.flat_scene.specs.declared.trees.Children.{Children}
use Rattle.flat_scene.specs.declared.trees.Children.TheVariants.{Empty}
use Rattle.flat_scene.specs.declared.trees.Content.{Content}
use Rattle.flat_scene.specs.declared.trees.Content.TheVariants as content
use Rattle.flat_scene.specs.declared.trees.Node.{Node}
use Rattle.flat_scene.specs.Trees.{first}
use Rattle.flat_topology.specs.Shown.{Shown, state_of, view_of, pair_in, pairs_in, pairs_shown}
use Rattle.flat_topology.specs.Links.{IsBelow, IsChild, IsConnectedThrough, HasParents}
use Rattle.flat_topology.specs.Fit.{FitsSetup}
use Rattle.flat_topology.specs.Join.{JoinedTree, Viewer, viewer_from, linked_to, joined_nodes, viewed, led_to}
use Rattle.flat_topology.specs.Place.{Space, node_space, linked_space, placed_node}
use Rattle.flat_topology.specs.Views.{views_in, viewport_bounds}
use Rattle.flat_topology.proofs.lemmas.Distinct.{in-first, in-second, in-third, In, contains-in}
use Rattle.flat_topology.proofs.lemmas.Distances.{viewer-state}

-- ---- parents

module _ (setup : Setup) (shown : Shown) where
  -- each view's parent is the session that it is below
  abbrev pub HasItsParent : ViewNode → Type 0
  HasItsParent v = IsChild setup shown v.session.0 v.parent

  abbrev pub AllHave : List ViewNode → Type 0
  AllHave = All HasItsParent

  -- what a pair leads to has these parents, wherever it stands below one for which who shows the pair is a child
  abbrev pub LeadsToChildren : (ℕ → JoinedTree) → ℕ → Type 0
  LeadsToChildren led p = (parent : Option SessionNo) (bounds : Rect) (outer : Space)
      → ((c : ℕ) → view_of (state_of shown c) ≡ Some p → IsChild setup shown c parent) → AllHave (views_in parent bounds outer (led p))

  children-linked : (led : ℕ → JoinedTree) → ((q : ℕ) → LeadsToChildren led q) → (s : ℕ) (bounds : Rect) (outer : Space) (what : Option Content)
      → ((q : ℕ) → In q (pair_in what) → Contains (pairs_shown shown s) q) → AllHave (views_in (Some (record { 0 = s })) bounds outer (linked_to led what))
  children-linked led each s bounds outer None own = All-nil HasItsParent
  children-linked led each s bounds outer (Some (content.Fill serial rgba w h)) own = All-nil HasItsParent
  children-linked led each s bounds outer (Some (content.Image serial buffers index sample w h blend flip opacity)) own = All-nil HasItsParent
  children-linked led each s bounds outer (Some (content.Viewport serial pair props)) own =
      each pair.0 (Some (record { 0 = s })) bounds outer (λ c view. record { pair = pair.0; viewport = own pair.0 (inl refl); view = view })

  children-nodes : (led : ℕ → JoinedTree) → ((q : ℕ) → LeadsToChildren led q)
      → (s : ℕ) (parent : Option SessionNo) (bounds : Rect) (outer : Space) (nodes : Children)
      → ((q : ℕ) → In q (pairs_in nodes) → Contains (pairs_shown shown s) q) → AllHave (views_in parent bounds outer (joined_nodes led s nodes))
  children-nodes led each s parent bounds outer Empty own = All-nil HasItsParent
  children-nodes led each s parent bounds outer (first serial scale turn place clip opacity hits what children rest) own =
      let n : Node = record {
        serial = serial;
        scale = scale;
        turn = turn;
        place = place;
        clip = clip;
        opacity = opacity;
        hits = hits;
        content = what;
        children = children;
      } in
      let inner : Space = node_space outer n in
      let at : Rect = viewport_bounds (placed_node s inner n) in
      let under : Space = linked_space inner what in
      let first_views : List ViewNode = views_in (Some (record { 0 = s })) at under (linked_to led what) in
      let second_views : List ViewNode = views_in parent bounds inner (joined_nodes led s children) in
      let third_views : List ViewNode = views_in parent bounds outer (joined_nodes led s rest) in
      let linked : AllHave first_views = children-linked led each s at under what
      (λ q on. own q (in-first q (pair_in what) (pairs_in children) (pairs_in rest) on)) in
      let below : AllHave second_views =
      children-nodes led each s parent bounds inner children (λ q on. own q (in-second q (pair_in what) (pairs_in children) (pairs_in rest) on)) in
      let after : AllHave third_views =
      children-nodes led each s parent bounds outer rest (λ q on. own q (in-third q (pair_in what) (pairs_in children) (pairs_in rest) on)) in
      All-append HasItsParent first_views (second_views ++ third_views) linked (All-append HasItsParent second_views third_views below after)

  children-viewed : (views p : ℕ) (found : Option Viewer) → viewer_from 1 shown p ≡ found → ((q : ℕ) → LeadsToChildren (led_to shown views) q)
      → (parent : Option SessionNo) (bounds : Rect) (outer : Space) → ((c : ℕ) → view_of (state_of shown c) ≡ Some p → IsChild setup shown c parent)
      → AllHave (views_in parent bounds outer (viewed (led_to shown views) found))
  children-viewed views p None e each parent bounds outer is_child = All-nil HasItsParent
  children-viewed views p (Some viewer) e each parent bounds outer is_child =
      let state = viewer-state shown p viewer e in
      let own : ViewNode = record { session = record { 0 = viewer.session }; parent = parent; bounds = bounds } in
      let others : List ViewNode = views_in parent bounds outer (joined_nodes (led_to shown views) viewer.session viewer.nodes) in
      All-cons HasItsParent own others (is_child viewer.session state.0)
      (children-nodes (led_to shown views) each viewer.session parent bounds outer viewer.nodes (λ q on. contains-in q _ (rw (← state.1) on)))

  pub children-led : (views p : ℕ) → LeadsToChildren (led_to shown views) p
  children-led zero p = λ parent bounds outer is_child. All-nil HasItsParent
  children-led (suc views) p = children-viewed views p (viewer_from 1 shown p) refl (children-led views)

-- ---- a group with all possible parents decides

module _ (setup : Setup) (shown other : Shown) (fit : FitsSetup setup shown) (group : ℕ → Bool) (parents : HasParents setup group)
    (agree : (s : ℕ) → IsTrue (group s) → state_of shown s ≡ state_of other s) where
  pub connected-in-both : (d c : ℕ) → IsTrue (group c) → IsConnectedThrough setup shown d c → IsConnectedThrough setup other d c
  connected-in-both zero c is top = record { pair = top.pair; viewport = top.viewport; view = rw (agree c is) at top.view }
  connected-in-both (suc d) c is x =
      let below : IsBelow shown c x.0 = x.1 in
      let above : IsTrue (group x.0) = parents x.0 c below.pair is (fit.views c below.pair below.view) (fit.viewports x.0 below.pair below.viewport) in (
        x.0,
        record { pair = below.pair; viewport = rw (agree x.0 above) at below.viewport; view = rw (agree c is) at below.view },
        connected-in-both d x.0 above x.2,
      )
