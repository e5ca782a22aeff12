-- The views of a joined tree are a tree: each one stands behind its parent.
use Rattle.std.proofs.Common.{ℕ, zero, suc, ◌≡◌, ◌==◌, refl, sym, ap, ◌∙◌, subst, inl, inr, Bool, true, false, not, List, [], ◌∷◌, ◌++◌, length, map, reverse}
use Rattle.std.proofs.Common.{Option, Some, None, append_assoc, append-nil}
use Rattle.std.proofs.Math.Bool.{or-true}
use Rattle.std.proofs.lemmas.Bool.{eq-eqb, eqb-true}
use Rattle.std.proofs.lemmas.List.{map-append, reverse-append}
use Rattle.flat_base.proofs.lemmas.Tests.{and-true, or-false}
use Rattle.flat_base.specs.declared.ids.SessionNo.{SessionNo}
use Rattle.flat_base.specs.declared.shapes.Rect.{Rect}
use Rattle.flat_scene.specs.declared.frames.ViewNode.{ViewNode}
use Rattle.flat_scene.specs.declared.setup.Setup.{Setup}
use Rattle.flat_scene.specs.declared.trees.Children.{Children}
use Rattle.flat_scene.specs.declared.trees.Children.TheVariants.{Empty}
use Rattle.flat_scene.specs.declared.trees.Content.{Content}
use Rattle.flat_scene.specs.declared.trees.Content.TheVariants as content
use Rattle.flat_scene.specs.declared.trees.Node.{Node}
use Rattle.flat_scene.specs.Trees.{first}
use Rattle.flat_scene.specs.ViewTrees.{is_node}
use Rattle.flat_scene.specs.ViewShapes.{is_below, is_tree_in, is_tree}
use Rattle.flat_topology.specs.Shown.{Shown}
use Rattle.flat_topology.specs.Pairs.{display_pair}
use Rattle.flat_topology.specs.Join.{JoinedTree, Viewer, viewer_from, linked_to, joined_nodes, viewed, led_to, led_from}
use Rattle.flat_topology.specs.Place.{Space, display_rect, display_space, node_space, linked_space, placed_node}
use Rattle.flat_topology.specs.Views.{views_in, view_nodes, viewport_bounds}
use Rattle.flat_topology.proofs.lemmas.Distinct.{In, Distinct, in-left, in-right, distinct-left, distinct-right, distinct-apart}

abbrev numbered : ℕ → SessionNo
numbered s = record { 0 = s }

abbrev pub sessions_of : List ViewNode → List ℕ
sessions_of nodes = map (λ v. v.session.0) nodes

differs : (a b : ℕ) → (b ≡ a → ⊥) → (a == b) ≡ false
differs a b apart = by_test (a == b) refl
  where
    by_test : (c : Bool) → (a == b) ≡ c → (a == b) ≡ false
    by_test true e = absurd (apart (sym (eqb-true a b e)))
    by_test false e = e

-- ---- nodes behind others

-- nodes put behind others, where these stand last first
abbrev onto : List ViewNode → List ViewNode → List ViewNode
onto [] earlier = earlier
onto (node ∷ nodes) earlier = onto nodes (node ∷ earlier)

onto-append : (xs ys earlier : List ViewNode) → onto (xs ++ ys) earlier ≡ onto ys (onto xs earlier)
onto-append [] ys earlier = refl
onto-append (node ∷ xs) ys earlier = onto-append xs ys (node ∷ earlier)

onto-turned : (xs earlier : List ViewNode) → onto xs earlier ≡ reverse xs ++ earlier
onto-turned [] earlier = refl
onto-turned (node ∷ xs) earlier =
    onto-turned xs (node ∷ earlier) ∙ sym (ap (λ (turned : List ViewNode). turned ++ earlier) (reverse-append (node ∷ []) xs)
    ∙ append_assoc (reverse xs) (node ∷ []) earlier)

-- a node stays one
node-onto : (xs earlier : List ViewNode) (s : SessionNo) → is_node earlier s ≡ true → is_node (onto xs earlier) s ≡ true
node-onto [] earlier s there = there
node-onto (node ∷ xs) earlier s there = node-onto xs (node ∷ earlier) s (rw there (or-true (node.session.0 == s.0)))

-- a session that is on neither list is none
none-onto : (xs earlier : List ViewNode) (t : ℕ) → (In t (sessions_of xs) → ⊥) → is_node earlier (numbered t) ≡ false
    → is_node (onto xs earlier) (numbered t) ≡ false
none-onto [] earlier t apart none = none
none-onto (node ∷ xs) earlier t apart none = none-onto xs (node ∷ earlier) t (λ on. apart (inr on))
    (or-false (differs node.session.0 t (λ same. apart (inl same))) none)

-- ---- a tree that grows

-- behind a tree, these nodes make a tree, where their sessions differ and are none of its
abbrev Grows : List ViewNode → List ViewNode → Type 0
Grows earlier nodes = Distinct (sessions_of nodes) → ((t : ℕ) → In t (sessions_of nodes) → is_node earlier (numbered t) ≡ false) → is_tree_in earlier ≡ true
    → is_tree_in (onto nodes earlier) ≡ true

grows-none : (earlier : List ViewNode) → Grows earlier []
grows-none earlier = λ differ new tree. tree

grows-append : (earlier xs ys : List ViewNode) → Grows earlier xs → Grows (onto xs earlier) ys → Grows earlier (xs ++ ys)
grows-append earlier xs ys left right = λ differ new tree.
    let all : sessions_of (xs ++ ys) ≡ sessions_of xs ++ sessions_of ys = map-append (λ (v : ViewNode). v.session.0) xs ys in
    let apart : Distinct (sessions_of xs ++ sessions_of ys) = subst Distinct all differ in
    let new_left : (t : ℕ) → In t (sessions_of xs) → is_node earlier (numbered t) ≡ false
    = λ t on. new t (subst (λ (ns : List ℕ). In t ns) (sym all) (in-left t (sessions_of xs) (sessions_of ys) on)) in
    let new_right : (t : ℕ) → In t (sessions_of ys) → is_node (onto xs earlier) (numbered t) ≡ false
    = λ t on.
    none-onto xs earlier t (λ before. distinct-apart (sessions_of xs) (sessions_of ys) apart t before on)
    (new t (subst (λ (ns : List ℕ). In t ns) (sym all) (in-right t (sessions_of xs) (sessions_of ys) on))) in
    let grown : is_tree_in (onto xs earlier) ≡ true = left (distinct-left (sessions_of xs) (sessions_of ys) apart) new_left tree in
    ap is_tree_in (onto-append xs ys earlier) ∙ right (distinct-right (sessions_of xs) (sessions_of ys) apart) new_right grown

-- one node, and those behind it
grows-first : (own : ViewNode) (others earlier : List ViewNode) → is_below own.parent earlier ≡ true → Grows (own ∷ earlier) others
    → Grows earlier (own ∷ others)
grows-first own others earlier below later = λ differ new tree.
    let alone : is_node earlier own.session ≡ false = new own.session.0 (inl refl) in
    let grown : is_tree_in (own ∷ earlier) ≡ true = and-true (ap not alone) (and-true below tree) in
    later differ.1
    (λ t on. or-false (differs own.session.0 t (λ same. differ.0 (subst (λ (u : ℕ). In u (sessions_of others)) same on))) (new t (inr on)))
    grown

-- ---- the joined tree

-- what a pair leads to goes on a tree, below one of its sessions, or as its first
abbrev GoesOn : (ℕ → JoinedTree) → ℕ → Type 0
GoesOn led p = (parent : Option SessionNo) (bounds : Rect) (outer : Space) (earlier : List ViewNode) → is_below parent earlier ≡ true
    → Grows earlier (views_in parent bounds outer (led p))

grows-linked : (led : ℕ → JoinedTree) → ((q : ℕ) → GoesOn led q) → (s : ℕ) (bounds : Rect) (outer : Space) (what : Option Content) (earlier : List ViewNode)
    → is_node earlier (numbered s) ≡ true → Grows earlier (views_in (Some (numbered s)) bounds outer (linked_to led what))
grows-linked led each s bounds outer None earlier there = grows-none earlier
grows-linked led each s bounds outer (Some (content.Fill serial rgba w h)) earlier there = grows-none earlier
grows-linked led each s bounds outer (Some (content.Image serial buffers index sample w h blend flip opacity)) earlier there = grows-none earlier
grows-linked led each s bounds outer (Some (content.Viewport serial pair props)) earlier there = each pair.0 (Some (numbered s)) bounds outer earlier there

grows-nodes : (led : ℕ → JoinedTree) → ((q : ℕ) → GoesOn led q)
    → (s : ℕ) (parent : Option SessionNo) (bounds : Rect) (outer : Space) (nodes : Children) (earlier : List ViewNode)
    → is_node earlier (numbered s) ≡ true → Grows earlier (views_in parent bounds outer (joined_nodes led s nodes))
grows-nodes led each s parent bounds outer Empty earlier there = grows-none earlier
grows-nodes led each s parent bounds outer (first serial scale turn place clip opacity hits what children rest) earlier there =
    let n : Node = record {
      serial = serial;
      scale = scale;
      turn = turn;
      place = place;
      clip = clip;
      opacity = opacity;
      hits = hits;
      content = what;
      children = children;
    } in
    let inner : Space = node_space outer n in
    let at : Rect = viewport_bounds (placed_node s inner n) in
    let under : Space = linked_space inner what in
    let first_views : List ViewNode = views_in (Some (numbered s)) at under (linked_to led what) in
    let second_views : List ViewNode = views_in parent bounds inner (joined_nodes led s children) in
    let third_views : List ViewNode = views_in parent bounds outer (joined_nodes led s rest) in
    let with_first : List ViewNode = onto first_views earlier in
    let with_second : List ViewNode = onto second_views with_first in
    let still : is_node with_first (numbered s) ≡ true = node-onto first_views earlier (numbered s) there in
    let linked : Grows earlier first_views = grows-linked led each s at under what earlier there in
    let below : Grows with_first second_views = grows-nodes led each s parent bounds inner children with_first still in
    let after : Grows with_second third_views = grows-nodes led each s parent bounds outer rest with_second
    (node-onto second_views with_first (numbered s) still) in
    grows-append earlier first_views (second_views ++ third_views) linked (grows-append with_first second_views third_views below after)

grows-viewed : (led : ℕ → JoinedTree) → ((q : ℕ) → GoesOn led q)
    → (found : Option Viewer) (parent : Option SessionNo) (bounds : Rect) (outer : Space) (earlier : List ViewNode)
    → is_below parent earlier ≡ true → Grows earlier (views_in parent bounds outer (viewed led found))
grows-viewed led each None parent bounds outer earlier below = grows-none earlier
grows-viewed led each (Some viewer) parent bounds outer earlier below =
    let own : ViewNode = record { session = numbered viewer.session; parent = parent; bounds = bounds } in
    let others : List ViewNode = views_in parent bounds outer (joined_nodes led viewer.session viewer.nodes) in
    let there : is_node (own ∷ earlier) (numbered viewer.session) ≡ true = rw (eq-eqb viewer.session viewer.session refl) refl in
    grows-first own others earlier below (grows-nodes led each viewer.session parent bounds outer viewer.nodes (own ∷ earlier) there)

grows-led : (shown : Shown) (views p : ℕ) → GoesOn (led_to shown views) p
grows-led shown zero p = λ parent bounds outer earlier below. grows-none earlier
grows-led shown (suc views) p = grows-viewed (led_to shown views) (grows-led shown views) (viewer_from 1 shown p)

grows-from : (shown : Shown) (found : Option ℕ) (bounds : Rect) (outer : Space) → Grows [] (views_in None bounds outer (led_from shown found))
grows-from shown None bounds outer = grows-none []
grows-from shown (Some p) bounds outer = grows-led shown (length shown) p None bounds outer [] refl

-- views whose sessions differ are a tree
pub views-tree : (setup : Setup) (shown : Shown) → Distinct (sessions_of (view_nodes setup shown)) → is_tree (view_nodes setup shown) ≡ true
views-tree setup shown differ =
    let views : List ViewNode = view_nodes setup shown in
    let grown : is_tree_in (onto views []) ≡ true = grows-from shown (display_pair setup) (display_rect setup) (display_space setup) differ (λ t on. refl)
    refl in
    ap is_tree_in (sym (onto-turned views [] ∙ append-nil (reverse views))) ∙ grown
