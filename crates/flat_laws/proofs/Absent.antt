-- A session that shows nothing is in no frame.
use Rattle.std.proofs.Common.{◌≡◌, ◌≢◌, ◌∙◌, sym, subst, ap, refl, ℕ, zero, suc, Bool, true, false, List, [], ◌∷◌, ◌++◌, length, Option, Some, None}
use Rattle.std.specs.Prelude.{ℤ, cond, not, filter, filter_map, reverse, ◌||◌, ◌==◌, if◌then◌else◌, ◌*ℤ◌, option_and_then, option_map}
use Rattle.std.specs.List.{All, cons_option, find}
use Rattle.std.proofs.lemmas.List.{reverse-append}
use Rattle.std.proofs.lemmas.List.Elements.{All-nil, All-cons, All-append, All-filter, All-head, All-tail}
use Rattle.flat_base.specs.declared.ids.SessionNo.{SessionNo}
use Rattle.flat_base.specs.declared.shapes.Rect.{Rect}
use Rattle.flat_geom.specs.Matrices.{unit}
use Rattle.flat_geom.specs.Rectangles.{has_no_point, has_point}
use Rattle.flat_scene.specs.declared.calls.HitRegion.{HitRegion}
use Rattle.flat_scene.specs.declared.frames.DrawItem.{DrawItem}
use Rattle.flat_scene.specs.declared.frames.Hit.{Hit}
use Rattle.flat_scene.specs.declared.frames.ViewNode.{ViewNode}
use Rattle.flat_scene.specs.declared.journal.Entry.{Entry}
use Rattle.flat_scene.specs.declared.setup.Setup.{Setup}
use Rattle.flat_scene.specs.declared.trees.Children.{Children}
use Rattle.flat_scene.specs.declared.trees.Children.TheVariants.{Empty}
use Rattle.flat_scene.specs.declared.trees.Content.{Content}
use Rattle.flat_scene.specs.declared.trees.Content.TheVariants as content
use Rattle.flat_scene.specs.declared.trees.Tree.{Tree}
use Rattle.flat_scene.specs.Frames.{setup_at}
use Rattle.flat_scene.specs.History.{is_closed}
use Rattle.flat_scene.specs.Trees.{first}
use Rattle.flat_topology.specs.declared.PlacedNode.{PlacedNode}
use Rattle.flat_topology.specs.Draw.{Painting, item_of, node_item, painting_of, scene_matrix, visible_rect}
use Rattle.flat_topology.specs.Hits.{first_of_each, hit_on, region_rect}
use Rattle.flat_topology.specs.Join.{JoinedTree, Viewer, child_view, join, joined_nodes, led_from, led_to, linked_to, node, nothing, viewed, viewer_from}
use Rattle.flat_topology.specs.Pairs.{display_pair}
use Rattle.flat_topology.specs.Place.{Space, display_rect, display_space, linked_space, node_space, placed_in, placed_node, placed_nodes}
use Rattle.flat_topology.specs.Shown.{Shown, state_of, view_of}
use Rattle.flat_topology.specs.Views.{viewport_bounds, views_in}
use Rattle.flat_topology.proofs.lemmas.Distances.{viewer-state}
use Rattle.flat_rules.specs.Shown.{last_taken, shown, shown_states, tree_of}
use Rattle.flat_rules.proofs.lemmas.ShownList.{within-or-past}
use Rattle.flat_laws.specs.Shows.{ClosedAreAbsent, IsAbsent}
use Rattle.flat_laws.proofs.Later.{closed-later}

-- ---- the joined tree

-- a joined tree has no node and no view of a session
abbrev Avoids : ℕ → JoinedTree → Type 0
Avoids s nothing = Unit {0}
Avoids s (node t n linked below after) = (t ≢ s) × Avoids s linked × Avoids s below × Avoids s after
Avoids s (child_view t root) = (t ≢ s) × Avoids s root

module _ (s : ℕ) (led : ℕ → JoinedTree) (each : (q : ℕ) → Avoids s (led q)) where
  linked-avoids : (what : Option Content) → Avoids s (linked_to led what)
  linked-avoids None = tt
  linked-avoids (Some (content.Fill serial rgba w h)) = tt
  linked-avoids (Some (content.Image serial buffers index sample w h blend flip opacity)) = tt
  linked-avoids (Some (content.Viewport serial pair props)) = each pair.0

  nodes-avoid : (t : ℕ) → t ≢ s → (nodes : Children) → Avoids s (joined_nodes led t nodes)
  nodes-avoid t other Empty = tt
  nodes-avoid t other (first serial scale turn place clip opacity hits what children rest) =
      (other, linked-avoids what, nodes-avoid t other children, nodes-avoid t other rest)

module _ (shown : Shown) (s : ℕ) (none : state_of shown s ≡ None) where
  -- who shows a view isn't a session that shows nothing
  viewer-other : (p : ℕ) (viewer : Viewer) → viewer_from 1 shown p ≡ Some viewer → viewer.session ≢ s
  viewer-other p viewer is same =
      let view : view_of (state_of shown viewer.session) ≡ Some p = (viewer-state shown p viewer is).0 in
      let absent : view_of (state_of shown viewer.session) ≡ None = ap (λ (t : ℕ). view_of (state_of shown t)) same ∙ ap view_of none in
      let wrong : None ≡ Some p = sym absent ∙ view in cc

  view-avoids : (views p : ℕ) (found : Option Viewer) → viewer_from 1 shown p ≡ found → ((q : ℕ) → Avoids s (led_to shown views q))
      → Avoids s (viewed (led_to shown views) found)
  view-avoids views p None is each = tt
  view-avoids views p (Some viewer) is each =
      let other = viewer-other p viewer is in
      (other, nodes-avoid s (led_to shown views) each viewer.session other viewer.nodes)

  led-avoids : (views p : ℕ) → Avoids s (led_to shown views p)
  led-avoids zero p = tt
  led-avoids (suc views) p = view-avoids views p (viewer_from 1 shown p) refl (led-avoids views)

  join-avoids : (setup : Setup) → Avoids s (join setup shown)
  join-avoids setup = by_pair (display_pair setup)
    where
      by_pair : (o : Option ℕ) → Avoids s (led_from shown o)
      by_pair None = tt
      by_pair (Some p) = led-avoids (length shown) p

-- ---- placed nodes and views

abbrev IsOther : ℕ → PlacedNode → Type 0
IsOther s at = at.session.0 ≢ s

placed-avoid : (s : ℕ) (outer : Space) (tree : JoinedTree) → Avoids s tree → All (IsOther s) (placed_in outer tree)
placed-avoid s outer nothing avoids = All-nil (IsOther s)
placed-avoid s outer (node t n linked below after) avoids =
    let here : Space = node_space outer n in
    let child : List PlacedNode = placed_in (linked_space here n.content) linked in
    let lower : List PlacedNode = placed_in here below in
    let later : List PlacedNode = placed_in outer after in
    All-cons (IsOther s) (placed_node t here n) (child ++ (lower ++ later)) avoids.0
    (All-append (IsOther s) child (lower ++ later) (placed-avoid s (linked_space here n.content) linked avoids.1)
    (All-append (IsOther s) lower later (placed-avoid s here below avoids.2) (placed-avoid s outer after avoids.3)))
placed-avoid s outer (child_view t root) avoids = placed-avoid s outer root avoids.1

abbrev IsOtherView : ℕ → ViewNode → Type 0
IsOtherView s view = view.session.0 ≢ s

views-avoid : (s : ℕ) (parent : Option SessionNo) (bounds : Rect) (outer : Space) (tree : JoinedTree) → Avoids s tree
    → All (IsOtherView s) (views_in parent bounds outer tree)
views-avoid s parent bounds outer nothing avoids = All-nil (IsOtherView s)
views-avoid s parent bounds outer (node t n linked below after) avoids =
    let here : Space = node_space outer n in
    let bounds_there : Rect = viewport_bounds (placed_node t here n) in
    let child : List ViewNode = views_in (Some (record { 0 = t })) bounds_there (linked_space here n.content) linked in
    let lower : List ViewNode = views_in parent bounds here below in
    let later : List ViewNode = views_in parent bounds outer after in
    All-append (IsOtherView s) child (lower ++ later) (views-avoid s (Some (record { 0 = t })) bounds_there (linked_space here n.content) linked avoids.1)
    (All-append (IsOtherView s) lower later (views-avoid s parent bounds here below avoids.2) (views-avoid s parent bounds outer after avoids.3))
views-avoid s parent bounds outer (child_view t root) avoids =
    All-cons (IsOtherView s) (record { session = record { 0 = t }; parent = parent; bounds = bounds }) (views_in parent bounds outer root) avoids.0
    (views-avoid s parent bounds outer root avoids.1)

-- ---- items and hits

-- what some items of a list give has what each of them gives
pub all-given : {A B : Type 0} (P : A → Type 0) (Q : B → Type 0) (f : A → Option B) → ((x : A) (y : B) → P x → f x ≡ Some y → Q y)
    → (xs : List A) → All P xs → All Q (filter_map f xs)
all-given P Q f gives [] all = All-nil Q
all-given {B = B} P Q f gives (x ∷ xs) all = by_item (all-given P Q f gives xs (All-tail P x xs all)) (f x) refl
  where
    by_item : All Q (filter_map f xs) → (o : Option B) → f x ≡ o → All Q (cons_option o (filter_map f xs))
    by_item rest None is = rest
    by_item rest (Some y) is = All-cons Q y (filter_map f xs) (gives x y (All-head P x xs all) is) rest

pub all-reverse : {A : Type 0} (P : A → Type 0) (xs : List A) → All P xs → All P (reverse xs)
all-reverse P [] all = All-nil P
all-reverse P (x ∷ xs) all =
    subst (All P) (sym (reverse-append (x ∷ []) xs))
    (All-append P (reverse xs) (x ∷ []) (all-reverse P xs (All-tail P x xs all)) (All-cons P x [] (All-head P x xs all) (All-nil P)))

pub item-session : (at : PlacedNode) (o : Option Painting) (item : DrawItem) → item_of at o ≡ Some item → at.session ≡ item.session
item-session at None item is = absurd (cc)
item-session at (Some p) item is = by_test (has_no_point (visible_rect at p.w p.h) || (at.opacity == 0)) is
  where
    by_test : (b : Bool) → (if b then None else Some (record {
      session = at.session;
      serial = p.serial;
      paint = p.paint;
      w = p.w;
      h = p.h;
      matrix = scene_matrix at.matrix;
      visible = visible_rect at p.w p.h;
      opacity = p.opacity;
      blend = p.blend;
    })) ≡ Some item → at.session ≡ item.session
    by_test true none = absurd (cc)
    by_test false same = cc

pub hit-session : (x y : ℤ) (at : PlacedNode) (hit : Hit) → hit_on x y at ≡ Some hit → at.session ≡ hit.session
hit-session x y at hit is = by_region (find (λ (region : HitRegion). has_point (region_rect at region.area) x y) at.hits) is
  where
    by_region : (o : Option HitRegion) → option_map (λ (region : HitRegion). let h : Hit = record { session = at.session; interaction = region.interaction } in
        h) o ≡ Some hit → at.session ≡ hit.session
    by_region None none = absurd (cc)
    by_region (Some region) same = cc

abbrev IsOtherHit : ℕ → Hit → Type 0
IsOtherHit s hit = hit.session.0 ≢ s

pub all-first : (P : Hit → Type 0) (hits : List Hit) → All P hits → All P (first_of_each hits)
all-first P [] all = All-nil P
all-first P (hit ∷ later) all =
    let rest : All P (first_of_each later) = all-first P later (All-tail P hit later all) in
    All-cons P hit (filter (λ other. not (other.session.0 == hit.session.0)) (first_of_each later)) (All-head P hit later all)
    (All-filter (λ other. not (other.session.0 == hit.session.0)) P (first_of_each later) rest)

abbrev IsOtherItem : ℕ → DrawItem → Type 0
IsOtherItem s item = item.session.0 ≢ s

-- ---- closed sessions

-- a session that closed shows nothing
pub closed-shows-none : (setup : Setup) (h : List Entry) (s : SessionNo) → is_closed s h ≡ true → state_of (shown_states setup h) s.0 ≡ None
closed-shows-none setup h s closed = by_number s.0 refl
  where
    by_number : (n : ℕ) → s.0 ≡ n → state_of (shown_states setup h) n ≡ None
    by_number zero is = refl
    by_number (suc k) is =
        let same : s ≡ record { 0 = suc k } = ap (λ (m : ℕ). let t : SessionNo = record { 0 = m } in t) is in
        let none : shown setup h s ≡ None = ap (λ b. cond b None (option_and_then (tree_of setup) (last_taken setup h s))) closed in
        within-or-past (λ (state : Option Tree). state ≡ None) (shown setup h) None setup.sessions k refl (subst (λ t. shown setup h t ≡ None) same none)

pub absent : (setup : Setup) (h : List Entry) (s : SessionNo) → state_of (shown_states setup h) s.0 ≡ None → IsAbsent setup h s
absent setup h s none =
    let states : Shown = shown_states setup h in
    let at : Setup = setup_at setup h in
    let avoids : Avoids s.0 (join at states) = join-avoids states s.0 none at in
    let nodes : All (IsOther s.0) (placed_nodes at states) = placed-avoid s.0 (display_space at) (join at states) avoids in
    record {
      views = views-avoid s.0 None (display_rect at) (display_space at) (join at states) avoids;
      items = all-given (IsOther s.0) (IsOtherItem s.0) node_item
          (λ n item other is. λ same. other (ap (λ (t : SessionNo). t.0) (item-session n (painting_of n.opacity n.content) item is) ∙ same))
          (placed_nodes at states) nodes;
      hits = λ x y. all-first (IsOtherHit s.0) (filter_map (hit_on (x *ℤ unit) (y *ℤ unit)) (reverse (placed_nodes at states)))
          (all-given (IsOther s.0) (IsOtherHit s.0) (hit_on (x *ℤ unit) (y *ℤ unit))
          (λ n hit other is. λ same. other (ap (λ (t : SessionNo). t.0) (hit-session (x *ℤ unit) (y *ℤ unit) n hit is) ∙ same))
          (reverse (placed_nodes at states)) (all-reverse (IsOther s.0) (placed_nodes at states) nodes));
    }

pub closed-are-absent : ClosedAreAbsent
closed-are-absent setup before later s closed =
    absent setup (later ++ before) s (closed-shows-none setup (later ++ before) s (closed-later s before later closed))
