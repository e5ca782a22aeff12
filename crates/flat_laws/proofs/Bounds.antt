-- What stands below a view lies inside its bounds.
use Rattle.std.proofs.Common.{◌≡◌, ◌∙◌, subst, ap, refl, ℕ, zero, suc, inl, inr, List, [], ◌∷◌, ◌++◌, length, Option, Some, None}
use Rattle.std.specs.Prelude.{◌*ℤ◌, filter_map, reverse, true}
use Rattle.std.specs.List.{All}
use Rattle.std.proofs.lemmas.List.Elements.{All-nil, All-cons, All-append, All-head, All-tail, All-weaker}
use Rattle.flat_base.specs.declared.ids.SessionNo.{SessionNo}
use Rattle.flat_base.specs.declared.shapes.Rect.{Rect}
use Rattle.flat_drawable.specs.Drawable.{IsWithin}
use Rattle.flat_geom.specs.Matrices.{unit}
use Rattle.flat_geom.specs.Rectangles.{has_point}
use Rattle.flat_scene.specs.declared.frames.DrawItem.{DrawItem}
use Rattle.flat_scene.specs.declared.frames.Hit.{Hit}
use Rattle.flat_scene.specs.declared.frames.ViewNode.{ViewNode}
use Rattle.flat_scene.specs.declared.setup.Setup.{Setup}
use Rattle.flat_scene.specs.declared.trees.Children.{Children}
use Rattle.flat_scene.specs.declared.trees.Children.TheVariants.{Empty}
use Rattle.flat_scene.specs.declared.trees.Content.{Content}
use Rattle.flat_scene.specs.declared.trees.Content.TheVariants as content
use Rattle.flat_scene.specs.declared.trees.Node.{Node}
use Rattle.flat_scene.specs.Trees.{first}
use Rattle.flat_topology.specs.declared.PlacedNode.{PlacedNode}
use Rattle.flat_topology.specs.Draw.{node_item, painting_of}
use Rattle.flat_topology.specs.Hits.{hit_on}
use Rattle.flat_topology.specs.Join.{JoinedTree, Viewer, child_view, joined_nodes, joined_sessions, led_from, led_to, linked_to, node, nothing, sessions_in}
use Rattle.flat_topology.specs.Join.{viewed, viewer_from}
use Rattle.flat_topology.specs.Laws.{JoinsEachOnce}
use Rattle.flat_topology.specs.Pairs.{display_pair}
use Rattle.flat_topology.specs.Place.{Space, display_rect, display_space, linked_space, node_matrix, node_space, placed_in, placed_node, placed_nodes}
use Rattle.flat_topology.specs.Place.{viewport_rect}
use Rattle.flat_topology.specs.Shown.{Shown}
use Rattle.flat_topology.specs.Views.{content_bounds, view_nodes, viewport_bounds, views_in}
use Rattle.flat_topology.proofs.lemmas.Distinct.{Distinct, In, distinct-apart, distinct-left, distinct-pairs, distinct-right, in-left, in-right}
use Rattle.flat_laws.specs.Places.{IsInBounds, SessionsStayInBounds}
use Rattle.flat_laws.proofs.Absent.{all-first, all-given, all-reverse, hit-session, item-session}
use Rattle.flat_laws.proofs.Insides.{cut-within, hit-within, item-within, shared-first, shared-second, within-itself, within-point, within-through}
use Rattle.flat_laws.proofs.Seen.{IsIn, in-led, in-nodes}

-- ---- views and nodes

abbrev Covers : ViewNode → PlacedNode → Type 0
Covers v at = at.session.0 ≡ v.session.0 → IsWithin v.bounds at.clip

-- each view covers the nodes of its session
abbrev AllCover : List ViewNode → List PlacedNode → Type 0
AllCover views nodes = All (λ v. All (Covers v) nodes) views

cover-append : (views : List ViewNode) (nodes more : List PlacedNode) → AllCover views nodes → AllCover views more → AllCover views (nodes ++ more)
cover-append [] nodes more a b = All-nil (λ v. All (Covers v) (nodes ++ more))
cover-append (v ∷ views) nodes more a b =
    All-cons (λ v. All (Covers v) (nodes ++ more)) v views
    (All-append (Covers v) nodes more (All-head (λ v. All (Covers v) nodes) v views a) (All-head (λ v. All (Covers v) more) v views b))
    (cover-append views nodes more (All-tail (λ v. All (Covers v) nodes) v views a) (All-tail (λ v. All (Covers v) more) v views b))

abbrev ViewIn : List ℕ → ViewNode → Type 0
ViewIn sessions v = In v.session.0 sessions

-- views of some sessions cover all nodes of others
cover-others : (xs ys : List ℕ) → ((x : ℕ) → In x xs → In x ys → ⊥) → (views : List ViewNode) (nodes : List PlacedNode)
    → All (ViewIn xs) views → All (IsIn ys) nodes → AllCover views nodes
cover-others xs ys apart views nodes on there =
    All-weaker (ViewIn xs) (λ v. All (Covers v) nodes)
    (λ v here. All-weaker (IsIn ys) (Covers v) (λ at below same. absurd (apart v.session.0 here (subst (λ s. In s ys) same below))) nodes there) views on

-- the views of a joined tree are of its sessions
views-on : (parent : Option SessionNo) (bounds : Rect) (outer : Space) (tree : JoinedTree) → All (ViewIn (sessions_in tree)) (views_in parent bounds outer tree)
views-on parent bounds outer nothing = All-nil (ViewIn [])
views-on parent bounds outer (node s n linked below after) =
    let here : Space = node_space outer n in
    let a : List ℕ = sessions_in linked in
    let b : List ℕ = sessions_in below in
    let c : List ℕ = sessions_in after in
    let P : ViewNode → Type 0 = ViewIn (a ++ (b ++ c)) in
    let there : Rect = viewport_bounds (placed_node s here n) in
    let child : List ViewNode = views_in (Some (record { 0 = s })) there (linked_space here n.content) linked in
    let lower : List ViewNode = views_in parent bounds here below in
    let later : List ViewNode = views_in parent bounds outer after in
    All-append P child (lower ++ later)
    (All-weaker (ViewIn a) P (λ v on. in-left v.session.0 a (b ++ c) on) child (views-on (Some (record { 0 = s })) there (linked_space here n.content) linked))
    (All-append P lower later
    (All-weaker (ViewIn b) P (λ v on. in-right v.session.0 a (b ++ c) (in-left v.session.0 b c on)) lower (views-on parent bounds here below))
    (All-weaker (ViewIn c) P (λ v on. in-right v.session.0 a (b ++ c) (in-right v.session.0 b c on)) later (views-on parent bounds outer after)))
views-on parent bounds outer (child_view s root) =
    let P : ViewNode → Type 0 = ViewIn (s ∷ sessions_in root) in
    let rest : List ViewNode = views_in parent bounds outer root in
    All-cons P (record { session = record { 0 = s }; parent = parent; bounds = bounds }) rest (inl refl)
    (All-weaker (ViewIn (sessions_in root)) P (λ v on. inr on) rest (views-on parent bounds outer root))

-- what is below a content keeps inside the rectangle
linked-within : (bounds : Rect) (here : Space) (what : Option Content) → IsWithin bounds here.clip → IsWithin bounds (linked_space here what).clip
linked-within bounds here None within = within
linked-within bounds here (Some (content.Fill serial rgba w h)) within = within
linked-within bounds here (Some (content.Image serial buffers index sample w h blend flip opacity)) within = within
linked-within bounds here (Some (content.Viewport serial pair props)) within =
    within-through bounds here.clip (linked_space here (Some (content.Viewport serial pair props))).clip within
    (shared-first here.clip (viewport_rect here.matrix props))

-- all nodes of a tree lie inside a rectangle in which its space does
all-within : (bounds : Rect) (outer : Space) (tree : JoinedTree) → IsWithin bounds outer.clip → All (λ at. IsWithin bounds at.clip) (placed_in outer tree)
all-within bounds outer nothing within = All-nil (λ at. IsWithin bounds at.clip)
all-within bounds outer (node s n linked below after) within =
    let here : Space = node_space outer n in
    let P : PlacedNode → Type 0 = λ at. IsWithin bounds at.clip in
    let at_node : IsWithin bounds here.clip = within-through bounds outer.clip here.clip within (cut-within outer.clip (node_matrix outer.matrix n) n.clip) in
    let child : List PlacedNode = placed_in (linked_space here n.content) linked in
    let lower : List PlacedNode = placed_in here below in
    let later : List PlacedNode = placed_in outer after in
    All-cons P (placed_node s here n) (child ++ (lower ++ later)) at_node
    (All-append P child (lower ++ later) (all-within bounds (linked_space here n.content) linked (linked-within bounds here n.content at_node))
    (All-append P lower later (all-within bounds here below at_node) (all-within bounds outer after within)))
all-within bounds outer (child_view s root) within = all-within bounds outer root within

-- ---- joined trees

-- the views of what a pair leads to cover its nodes, wherever it stands
abbrev IsCovered : JoinedTree → Type 0
IsCovered tree = (parent : Option SessionNo) (bounds : Rect) (outer : Space) → IsWithin bounds outer.clip
    → AllCover (views_in parent bounds outer tree) (placed_in outer tree)

module _ (led : ℕ → JoinedTree) (each : (q : ℕ) → Distinct (sessions_in (led q)) → IsCovered (led q))
    (on : (q : ℕ) (outer : Space) → All (IsIn (sessions_in (led q))) (placed_in outer (led q))) where
  linked-covered : (t : ℕ) (here : Space) (n : Node) → Distinct (sessions_in (linked_to led n.content))
      → AllCover (views_in (Some (record { 0 = t })) (viewport_bounds (placed_node t here n)) (linked_space here n.content) (linked_to led n.content))
      (placed_in (linked_space here n.content) (linked_to led n.content))
  linked-covered t here n distinct = by_content n.content refl distinct
    where
      Goal : Option Content → Type 0
      Goal what = AllCover (views_in (Some (record { 0 = t })) (content_bounds (placed_node t here n) what) (linked_space here what) (linked_to led what))
          (placed_in (linked_space here what) (linked_to led what))

      by_content : (what : Option Content) → n.content ≡ what → Distinct (sessions_in (linked_to led what)) → Goal what
      by_content None is d = All-nil (λ v. All (Covers v) [])
      by_content (Some (content.Fill serial rgba w h)) is d = All-nil (λ v. All (Covers v) [])
      by_content (Some (content.Image serial buffers index sample w h blend flip opacity)) is d = All-nil (λ v. All (Covers v) [])
      by_content (Some (content.Viewport serial pair props)) is d =
          each pair.0 d (Some (record { 0 = t })) (viewport_rect here.matrix props) (linked_space here (Some (content.Viewport serial pair props)))
          (shared-second here.clip (viewport_rect here.matrix props))

  -- the nodes of a session, and what hangs below them
  nodes-covered : (t : ℕ) (parent : Option SessionNo) (bounds : Rect) (outer : Space) (nodes : Children) → Distinct (t ∷ sessions_in (joined_nodes led t nodes))
      → AllCover (views_in parent bounds outer (joined_nodes led t nodes)) (placed_in outer (joined_nodes led t nodes))
  nodes-covered t parent bounds outer Empty distinct = All-nil (λ v. All (Covers v) [])
  nodes-covered t parent bounds outer (first serial scale turn place clip opacity hits what children rest) distinct =
      let n : Node = record {
        serial = serial;
        scale = scale;
        turn = turn;
        place = place;
        clip = clip;
        opacity = opacity;
        hits = hits;
        content = what;
        children = children;
      } in
      let here : Space = node_space outer n in
      let there : Rect = viewport_bounds (placed_node t here n) in
      let A : JoinedTree = linked_to led what in
      let B : JoinedTree = joined_nodes led t children in
      let C : JoinedTree = joined_nodes led t rest in
      let a : List ℕ = sessions_in A in
      let b : List ℕ = sessions_in B in
      let c : List ℕ = sessions_in C in
      let va : List ViewNode = views_in (Some (record { 0 = t })) there (linked_space here what) A in
      let vb : List ViewNode = views_in parent bounds here B in
      let vc : List ViewNode = views_in parent bounds outer C in
      let pa : List PlacedNode = placed_in (linked_space here what) A in
      let pb : List PlacedNode = placed_in here B in
      let pc : List PlacedNode = placed_in outer C in
      let top : List PlacedNode = placed_node t here n ∷ [] in
      let free : ¬ In t (a ++ (b ++ c)) = distinct.0 in
      let da : Distinct a = distinct-left a (b ++ c) distinct.1 in
      let dbc : Distinct (b ++ c) = distinct-right a (b ++ c) distinct.1 in
      let db : Distinct (t ∷ b) = (λ in_b. free (in-right t a (b ++ c) (in-left t b c in_b)), distinct-left b c dbc) in
      let dc : Distinct (t ∷ c) = (λ in_c. free (in-right t a (b ++ c) (in-right t b c in_c)), distinct-right b c dbc) in
      let a_bc : (x : ℕ) → In x a → In x (b ++ c) → ⊥ = distinct-apart a (b ++ c) distinct.1 in
      let b_c : (x : ℕ) → In x b → In x c → ⊥ = distinct-apart b c dbc in
      let ona : All (ViewIn a) va = views-on (Some (record { 0 = t })) there (linked_space here what) A in
      let onb : All (ViewIn b) vb = views-on parent bounds here B in
      let onc : All (ViewIn c) vc = views-on parent bounds outer C in
      let ina : All (IsIn a) pa = linked-on here what in
      let inb : All (IsIn (t ∷ b)) pb = in-nodes led on t here children in
      let inc : All (IsIn (t ∷ c)) pc = in-nodes led on t outer rest in
      let intop : All (IsIn (t ∷ [])) top = All-cons (IsIn (t ∷ [])) (placed_node t here n) [] (inl refl) (All-nil (IsIn (t ∷ []))) in
      let not_a : (x : ℕ) (ys : List ℕ) → (In x a → In x ys → ⊥) → In x a → In x (t ∷ ys) → ⊥ =
      λ x ys apart on_a. other x ys (λ same. free (in-left t a (b ++ c) (subst (λ y. In y a) same on_a))) (apart on_a) in
      let not_b : (x : ℕ) (ys : List ℕ) → (In x b → In x ys → ⊥) → In x b → In x (t ∷ ys) → ⊥ =
      λ x ys apart on_b. other x ys (λ same. free (in-right t a (b ++ c) (in-left t b c (subst (λ y. In y b) same on_b)))) (apart on_b) in
      let not_c : (x : ℕ) (ys : List ℕ) → (In x c → In x ys → ⊥) → In x c → In x (t ∷ ys) → ⊥ =
      λ x ys apart on_c. other x ys (λ same. free (in-right t a (b ++ c) (in-right t b c (subst (λ y. In y c) same on_c)))) (apart on_c) in
      let row_a : AllCover va (top ++ (pa ++ (pb ++ pc))) =
      cover-append va top (pa ++ (pb ++ pc)) (cover-others a (t ∷ []) (λ x on_a. not_a x [] (λ h none. none) on_a) va top ona intop)
      (cover-append va pa (pb ++ pc) (linked-covered t here n da)
      (cover-append va pb pc (cover-others a (t ∷ b) (λ x on_a. not_a x b (λ h in_b. a_bc x h (in-left x b c in_b)) on_a) va pb ona inb)
      (cover-others a (t ∷ c) (λ x on_a. not_a x c (λ h in_c. a_bc x h (in-right x b c in_c)) on_a) va pc ona inc))) in
      let row_b : AllCover vb (top ++ (pa ++ (pb ++ pc))) =
      cover-append vb top (pa ++ (pb ++ pc)) (cover-others b (t ∷ []) (λ x on_b. not_b x [] (λ h none. none) on_b) vb top onb intop)
      (cover-append vb pa (pb ++ pc) (cover-others b a (λ x on_b on_a. a_bc x on_a (in-left x b c on_b)) vb pa onb ina)
      (cover-append vb pb pc (nodes-covered t parent bounds here children db)
      (cover-others b (t ∷ c) (λ x on_b. not_b x c (λ h in_c. b_c x h in_c) on_b) vb pc onb inc))) in
      let row_c : AllCover vc (top ++ (pa ++ (pb ++ pc))) =
      cover-append vc top (pa ++ (pb ++ pc)) (cover-others c (t ∷ []) (λ x on_c. not_c x [] (λ h none. none) on_c) vc top onc intop)
      (cover-append vc pa (pb ++ pc) (cover-others c a (λ x on_c on_a. a_bc x on_a (in-right x b c on_c)) vc pa onc ina)
      (cover-append vc pb pc (cover-others c (t ∷ b) (λ x on_c. not_c x b (λ h in_b. b_c x in_b h) on_c) vc pb onc inb)
      (nodes-covered t parent bounds outer rest dc))) in
      let all : List PlacedNode = top ++ (pa ++ (pb ++ pc)) in
      All-append (λ v. All (Covers v) all) va (vb ++ vc) row_a (All-append (λ v. All (Covers v) all) vb vc row_b row_c)
    where
      other : (x : ℕ) (ys : List ℕ) → (x ≡ t → ⊥) → (In x ys → ⊥) → In x (t ∷ ys) → ⊥
      other x ys differs apart (inl same) = differs same
      other x ys differs apart (inr on_ys) = apart on_ys

      linked-on : (here : Space) (what : Option Content) → All (IsIn (sessions_in (linked_to led what)))
          (placed_in (linked_space here what) (linked_to led what))
      linked-on here None = All-nil (IsIn [])
      linked-on here (Some (content.Fill serial rgba w h)) = All-nil (IsIn [])
      linked-on here (Some (content.Image serial buffers index sample w h blend flip opacity)) = All-nil (IsIn [])
      linked-on here (Some (content.Viewport serial pair props)) = on pair.0 (linked_space here (Some (content.Viewport serial pair props)))

module _ (shown : Shown) where
  view-covered : (views : ℕ) (found : Option Viewer) → ((q : ℕ) → Distinct (sessions_in (led_to shown views q)) → IsCovered (led_to shown views q))
      → Distinct (sessions_in (viewed (led_to shown views) found)) → IsCovered (viewed (led_to shown views) found)
  view-covered views None each distinct = λ parent bounds outer within. All-nil (λ v. All (Covers v) [])
  view-covered views (Some viewer) each distinct = λ parent bounds outer within.
      let root : JoinedTree = joined_nodes (led_to shown views) viewer.session viewer.nodes in
      let nodes : List PlacedNode = placed_in outer root in
      let v : ViewNode = record { session = record { 0 = viewer.session }; parent = parent; bounds = bounds } in
      All-cons (λ u. All (Covers u) nodes) v (views_in parent bounds outer root)
      (All-weaker (λ at. IsWithin bounds at.clip) (Covers v) (λ at inside same. inside) nodes (all-within bounds outer root within))
      (nodes-covered (led_to shown views) each (in-led shown views) viewer.session parent bounds outer viewer.nodes distinct)

  led-covered : (views p : ℕ) → Distinct (sessions_in (led_to shown views p)) → IsCovered (led_to shown views p)
  led-covered zero p distinct = λ parent bounds outer within. All-nil (λ v. All (Covers v) [])
  led-covered (suc views) p distinct = view-covered views (viewer_from 1 shown p) (led-covered views) distinct

  join-covered : (setup : Setup) → Distinct (joined_sessions setup shown) → AllCover (view_nodes setup shown) (placed_nodes setup shown)
  join-covered setup distinct = by_pair (display_pair setup) distinct
    where
      by_pair : (o : Option ℕ) → Distinct (sessions_in (led_from shown o))
          → AllCover (views_in None (display_rect setup) (display_space setup) (led_from shown o)) (placed_in (display_space setup) (led_from shown o))
      by_pair None d = All-nil (λ v. All (Covers v) [])
      by_pair (Some p) d = led-covered (length shown) p d None (display_rect setup) (display_space setup) (within-itself (display_rect setup))

-- ---- items and hits

covered-bounds : (setup : Setup) (shown : Shown) (v : ViewNode) → All (Covers v) (placed_nodes setup shown) → IsInBounds setup shown v
covered-bounds setup shown v all = record {
  items = all-given (Covers v) (λ (item : DrawItem). item.session ≡ v.session → IsWithin v.bounds item.visible) node_item
      (λ at item covers is same.
      within-through v.bounds at.clip item.visible (covers (ap (λ (s : SessionNo). s.0) (item-session at (painting_of at.opacity at.content) item is ∙ same)))
      (item-within at (painting_of at.opacity at.content) item is))
      (placed_nodes setup shown) all;
  hits = λ x y. all-first (λ (hit : Hit). hit.session ≡ v.session → has_point v.bounds (x *ℤ unit) (y *ℤ unit) ≡ true)
      (filter_map (hit_on (x *ℤ unit) (y *ℤ unit)) (reverse (placed_nodes setup shown)))
      (all-given (Covers v) (λ (hit : Hit). hit.session ≡ v.session → has_point v.bounds (x *ℤ unit) (y *ℤ unit) ≡ true) (hit_on (x *ℤ unit) (y *ℤ unit))
      (λ at hit covers is same.
      within-point v.bounds at.clip (x *ℤ unit) (y *ℤ unit) (covers (ap (λ (s : SessionNo). s.0) (hit-session (x *ℤ unit) (y *ℤ unit) at hit is ∙ same)))
      (hit-within (x *ℤ unit) (y *ℤ unit) at hit is))
      (reverse (placed_nodes setup shown)) (all-reverse (Covers v) (placed_nodes setup shown) all));
}

pub sessions-stay-in-bounds : JoinsEachOnce → SessionsStayInBounds
sessions-stay-in-bounds once setup shown fit =
    All-weaker (λ v. All (Covers v) (placed_nodes setup shown)) (IsInBounds setup shown) (λ v all. covered-bounds setup shown v all) (view_nodes setup shown)
    (join-covered shown setup (distinct-pairs (joined_sessions setup shown) (once setup shown fit)))
