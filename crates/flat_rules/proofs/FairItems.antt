-- What is drawn of fair trees can be drawn.
use Rattle.std.proofs.Common.{◌≡◌, ℕ, zero, suc, ◌+◌, ◌*◌, ◌≤◌, Bool, true, false, ◌&&◌, ◌||◌, ◌==◌, not, List, [], ◌∷◌, ◌++◌, length, refl, subst, arith}
use Rattle.std.proofs.Common.{Option, Some, None}
use Rattle.std.specs.Prelude.{ℤ, pos, negsuc, ◌≤ℤ◌, int_lt, if◌then◌else◌}
use Rattle.std.specs.Int.{is_negative}
use Rattle.std.specs.List.{list_all, All}
use Rattle.std.proofs.Math.Nat.{mul-le-mul_right}
use Rattle.std.proofs.lemmas.Bool.{and_from}
use Rattle.std.proofs.lemmas.Bool.Decides.{nat_tests}
use Rattle.std.proofs.lemmas.Int.{ints, clamps}
use Rattle.std.proofs.lemmas.List.Elements.{All-nil, All-cons}
use Rattle.flat_base.specs.declared.limits.TheConstants.{OPACITY_MAX}
use Rattle.flat_base.specs.declared.shapes.IntRect.{IntRect}
use Rattle.flat_base.specs.declared.shapes.Rect.{Rect}
use Rattle.flat_geom.specs.Rectangles.{mapped_rect, shared_part, has_no_point, sized_rect}
use Rattle.flat_scene.specs.declared.frames.DrawItem.{DrawItem}
use Rattle.flat_scene.specs.declared.setup.Setup.{Setup}
use Rattle.flat_scene.specs.declared.trees.Children.{Children}
use Rattle.flat_scene.specs.declared.trees.Children.TheVariants.{Empty}
use Rattle.flat_scene.specs.declared.trees.Content.{Content}
use Rattle.flat_scene.specs.declared.trees.Content.TheVariants as content
use Rattle.flat_scene.specs.declared.trees.Node.{Node}
use Rattle.flat_scene.specs.Trees.{first}
use Rattle.flat_base.proofs.lemmas.Tests.{and-left, and-right}
use Rattle.flat_scene.specs.Frames.{setup_at}
use Rattle.flat_topology.specs.declared.PlacedNode.{PlacedNode}
use Rattle.flat_topology.specs.Draw.{Painting, painting_of, item_of, node_item, items_of, visible_rect, scene_matrix}
use Rattle.flat_topology.specs.Join.{JoinedTree, Viewer, viewer_from, is_view_of, linked_to, joined_nodes, viewed, led_to, led_from}
use Rattle.flat_topology.specs.Pairs.{display_pair}
use Rattle.flat_topology.specs.Place.{Space, seen_through, node_space, linked_space, placed_in, placed_nodes, display_space}
use Rattle.flat_topology.specs.Shown.{Shown, nodes_of, view_of}
use Rattle.flat_drawable.specs.Drawable.{IsWithin, IsSample, HasSample, IsDrawable}
use Rattle.flat_rules.specs.Drawable.{ItemsAreDrawable}
use Rattle.flat_rules.specs.Shown.{shown_states}
use Rattle.flat_rules.proofs.lemmas.AllOrSome.{all-append}
use Rattle.flat_rules.proofs.FairDrafts.{is_dim, is_sample}
use Rattle.flat_rules.proofs.FairTrees.{is_fair_content, are_fair, states-fair}

-- ---- opacities

low : (v : ℕ) → is_dim v ≡ true → v ≤ OPACITY_MAX
low v dim = grind (arith, nat_tests)

dim-of : (v : ℕ) → v ≤ OPACITY_MAX → is_dim v ≡ true
dim-of v few = grind (arith, nat_tests)

seen-low : (outer own : ℕ) → outer ≤ OPACITY_MAX → own ≤ OPACITY_MAX → seen_through outer own ≤ OPACITY_MAX
seen-low outer own few own_few =
    let product : outer * own ≤ OPACITY_MAX * own = mul-le-mul_right own few in
    omega (arith, product)

seen-dim : (outer own : ℕ) → is_dim outer ≡ true → is_dim own ≡ true → is_dim (seen_through outer own) ≡ true
seen-dim outer own dim own_dim = dim-of (seen_through outer own) (seen-low outer own (low outer dim) (low own own_dim))

-- ---- placed nodes

abbrev is_fair_at : PlacedNode → Bool
is_fair_at at = is_dim at.opacity && is_fair_content at.content

abbrev are_placed : List PlacedNode → Type 0
are_placed placed = list_all is_fair_at placed ≡ true

module _ (led : ℕ → JoinedTree) (each : (q : ℕ) (outer : Space) → is_dim outer.opacity ≡ true → are_placed (placed_in outer (led q))) where
  fair-linked : (here : Space) (what : Option Content) → is_dim here.opacity ≡ true → are_placed (placed_in (linked_space here what) (linked_to led what))
  fair-linked here None dim = refl
  fair-linked here (Some (content.Fill serial rgba w h)) dim = refl
  fair-linked here (Some (content.Image serial buffers index sample w h blend flip opacity)) dim = refl
  fair-linked here (Some (content.Viewport serial pair props)) dim = each pair.0 (linked_space here (Some (content.Viewport serial pair props))) dim

  fair-nodes : (s : ℕ) (outer : Space) (nodes : Children) → is_dim outer.opacity ≡ true → are_fair nodes ≡ true
      → are_placed (placed_in outer (joined_nodes led s nodes))
  fair-nodes s outer Empty dim fair = refl
  fair-nodes s outer (first serial scale turn place clip opacity hits what children rest) dim fair =
      let n : Node = record {
        serial = serial;
        scale = scale;
        turn = turn;
        place = place;
        clip = clip;
        opacity = opacity;
        hits = hits;
        content = what;
        children = children;
      } in
      let here : (is_dim opacity && is_fair_content what) ≡ true =
      and-left (is_dim opacity && is_fair_content what) (are_fair children && are_fair rest) fair in
      let others : (are_fair children && are_fair rest) ≡ true = and-right (is_dim opacity && is_fair_content what) (are_fair children && are_fair rest) fair in
      let inner : Space = node_space outer n in
      let inner_dim : is_dim inner.opacity ≡ true = seen-dim outer.opacity opacity dim (and-left (is_dim opacity) (is_fair_content what) here) in
      let linked : List PlacedNode = placed_in (linked_space inner what) (linked_to led what) in
      let below : List PlacedNode = placed_in inner (joined_nodes led s children) in
      let after : List PlacedNode = placed_in outer (joined_nodes led s rest) in
      and_from _ _ (and_from _ _ inner_dim (and-right (is_dim opacity) (is_fair_content what) here))
      (all-append is_fair_at linked (below ++ after) (fair-linked inner what inner_dim)
      (all-append is_fair_at below after (fair-nodes s inner children inner_dim (and-left (are_fair children) (are_fair rest) others))
      (fair-nodes s outer rest dim (and-right (are_fair children) (are_fair rest) others))))

abbrev are_states : Shown → Bool
are_states shown = list_all (λ state. are_fair (nodes_of state)) shown

viewer-fair : (s : ℕ) (shown : Shown) (p : ℕ) (viewer : Viewer) → are_states shown ≡ true → viewer_from s shown p ≡ Some viewer → are_fair viewer.nodes ≡ true
viewer-fair s [] p viewer fair is = cc
viewer-fair s (state ∷ states) p viewer fair is =
    by_view (λ h. viewer-fair (s + 1) states p viewer (and-right (are_fair (nodes_of state)) (are_states states) fair) h) (is_view_of p (view_of state)) is
  where
    by_view : (viewer_from (s + 1) states p ≡ Some viewer → are_fair viewer.nodes ≡ true) → (b : Bool)
        → (if b then Some (record { session = s; nodes = nodes_of state }) else viewer_from (s + 1) states p) ≡ Some viewer → are_fair viewer.nodes ≡ true
    by_view later false h = later h
    by_view later true h =
        let same : nodes_of state ≡ viewer.nodes = cc in
        subst (λ (c : Children). are_fair c ≡ true) same (and-left (are_fair (nodes_of state)) (are_states states) fair)

module _ (shown : Shown) (fair : are_states shown ≡ true) where
  fair-viewed : (views p : ℕ) (found : Option Viewer) → viewer_from 1 shown p ≡ found
      → ((q : ℕ) (outer : Space) → is_dim outer.opacity ≡ true → are_placed (placed_in outer (led_to shown views q)))
      → (outer : Space) → is_dim outer.opacity ≡ true → are_placed (placed_in outer (viewed (led_to shown views) found))
  fair-viewed views p None e each outer dim = refl
  fair-viewed views p (Some viewer) e each outer dim =
      fair-nodes (led_to shown views) each viewer.session outer viewer.nodes dim (viewer-fair 1 shown p viewer fair e)

  fair-led : (views p : ℕ) (outer : Space) → is_dim outer.opacity ≡ true → are_placed (placed_in outer (led_to shown views p))
  fair-led zero p outer dim = refl
  fair-led (suc views) p outer dim = fair-viewed views p (viewer_from 1 shown p) refl (fair-led views) outer dim

  fair-placed : (setup : Setup) → are_placed (placed_nodes setup shown)
  fair-placed setup = by_pair (display_pair setup)
    where
      by_pair : (o : Option ℕ) → are_placed (placed_in (display_space setup) (led_from shown o))
      by_pair None = refl
      by_pair (Some p) = fair-led (length shown) p (display_space setup) refl

-- ---- items

shared-within : (p q : Rect) → IsWithin p (shared_part p q)
shared-within p q = record {
  x0 = omega (arith, ints, clamps);
  y0 = omega (arith, ints, clamps);
  x1 = omega (arith, ints, clamps);
  y1 = omega (arith, ints, clamps);
}

no-negative : (z : ℤ) → not (is_negative z) ≡ true → pos 0 ≤ℤ z
no-negative (pos n) is = omega (arith, ints)
no-negative (negsuc n) is = absurd (let h : false ≡ true = is in cc)

one-at-least : (z : ℤ) → not (int_lt z (pos 1)) ≡ true → pos 1 ≤ℤ z
one-at-least z is = grind (arith, ints)

sample-is : (r : IntRect) → is_sample r ≡ true → IsSample r
sample-is r is =
    let x : not (is_negative r.x) ≡ true = grind arith in
    let y : not (is_negative r.y) ≡ true = grind arith in
    let w : not (int_lt r.w (pos 1)) ≡ true = grind arith in
    let h : not (int_lt r.h (pos 1)) ≡ true = grind arith in
    record { x = no-negative r.x x; y = no-negative r.y y; w = one-at-least r.w w; h = one-at-least r.h h }

-- What is known of a painting.
pub record IsPaintable (p : Painting) : Type 0 where
  pub opacity : p.opacity ≤ OPACITY_MAX
  pub sample : HasSample p.paint

abbrev MayPaint : Option Painting → Type 0
MayPaint None = Unit {0}
MayPaint (Some p) = IsPaintable p

paints : (seen : ℕ) (what : Option Content) → is_dim seen ≡ true → is_fair_content what ≡ true → MayPaint (painting_of seen what)
paints seen None dim fair = tt
paints seen (Some (content.Fill serial rgba w h)) dim fair = record { opacity = low seen dim; sample = tt }
paints seen (Some (content.Viewport serial pair props)) dim fair = tt
paints seen (Some (content.Image serial buffers index sample w h blend flip opacity)) dim fair = record {
  opacity = seen-low seen opacity (low seen dim) (low opacity (and-right (is_sample sample) (is_dim opacity) fair));
  sample = sample-is sample (and-left (is_sample sample) (is_dim opacity) fair);
}

abbrev MayDraw : Option DrawItem → Type 0
MayDraw None = Unit {0}
MayDraw (Some item) = IsDrawable item

draws : (at : PlacedNode) (o : Option Painting) → MayPaint o → MayDraw (item_of at o)
draws at None paintable = tt
draws at (Some p) paintable = by_test (has_no_point (visible_rect at p.w p.h) || (at.opacity == 0))
  where
    by_test : (b : Bool) → MayDraw (if b then None else Some (record {
      session = at.session;
      serial = p.serial;
      paint = p.paint;
      w = p.w;
      h = p.h;
      matrix = scene_matrix at.matrix;
      visible = visible_rect at p.w p.h;
      opacity = p.opacity;
      blend = p.blend;
    }))
    by_test true = tt
    by_test false = record {
      visible = shared-within (mapped_rect at.matrix (sized_rect p.w p.h)) at.clip;
      opacity = paintable.opacity;
      sample = paintable.sample;
    }

items-drawable : (placed : List PlacedNode) → are_placed placed → All IsDrawable (items_of placed)
items-drawable [] fair = All-nil IsDrawable
items-drawable (at ∷ placed) fair =
    by_item (items-drawable placed (and-right (is_fair_at at) (list_all is_fair_at placed) fair)) (node_item at) refl
    (draws at (painting_of at.opacity at.content) (paints at.opacity at.content (and-left (is_dim at.opacity) (is_fair_content at.content) here)
    (and-right (is_dim at.opacity) (is_fair_content at.content) here)))
  where
    here : is_fair_at at ≡ true
    here = and-left (is_fair_at at) (list_all is_fair_at placed) fair

    by_item : All IsDrawable (items_of placed) → (o : Option DrawItem) → node_item at ≡ o → MayDraw o → All IsDrawable (items_of (at ∷ placed))
    by_item rest None is may = rw is rest
    by_item rest (Some item) is may = rw is (All-cons IsDrawable item (items_of placed) may rest)

pub items-are-drawable : ItemsAreDrawable
items-are-drawable setup history = items-drawable (placed_nodes (setup_at setup history) (shown_states setup history))
    (fair-placed (shown_states setup history) (states-fair setup history) (setup_at setup history))
