-- Clips are nested: a node's lies in the rectangles of all viewports above it.
use Rattle.std.proofs.Common.{ℤ, ◌≡◌, ◌∙◌, refl, ap, subst, Bool, true, false, cond, List, [], ◌∷◌, ◌++◌, map, arith, Option, Some, None}
use Rattle.std.specs.Prelude.{◌≤ℤ◌, ◌||◌, ◌==◌, if◌then◌else◌, option_map}
use Rattle.std.specs.List.{All, find}
use Rattle.std.proofs.lemmas.Int.{ints, clamps}
use Rattle.std.proofs.lemmas.List.{map-append}
use Rattle.std.proofs.lemmas.List.Elements.{All-nil, All-cons, All-append, All-weaker}
use Rattle.flat_base.specs.declared.shapes.IntRect.{IntRect}
use Rattle.flat_base.specs.declared.shapes.Rect.{Rect}
use Rattle.flat_drawable.specs.Drawable.{IsWithin}
use Rattle.flat_geom.specs.declared.matrix.Matrix.{Matrix}
use Rattle.flat_geom.specs.Rectangles.{is_between, has_point, has_no_point, shared_part, mapped_rect, in_places}
use Rattle.flat_scene.specs.declared.calls.HitRegion.{HitRegion}
use Rattle.flat_scene.specs.declared.frames.DrawItem.{DrawItem}
use Rattle.flat_scene.specs.declared.frames.Hit.{Hit}
use Rattle.flat_scene.specs.declared.setup.Setup.{Setup}
use Rattle.flat_scene.specs.declared.trees.Content.{Content}
use Rattle.flat_scene.specs.declared.trees.Content.TheVariants as content
use Rattle.flat_topology.specs.declared.PlacedNode.{PlacedNode}
use Rattle.flat_topology.specs.Draw.{Painting, painting_of, item_of, node_item, visible_rect, scene_matrix}
use Rattle.flat_topology.specs.Hits.{hit_on, region_rect}
use Rattle.flat_topology.specs.Join.{JoinedTree, nothing, node, child_view, join}
use Rattle.flat_topology.specs.Place.{Space, cut_clip, display_rect, display_space, node_matrix, node_space, linked_space, viewport_rect, placed_in}
use Rattle.flat_topology.specs.Place.{placed_node}
use Rattle.flat_topology.specs.Shown.{Shown}
use Rattle.flat_laws.specs.Places.{NodeInViewports, viewports_of_child, in_viewports, nodes_in_viewports, NodesInViewportsArePlaced, ItemsStayInViewports}
use Rattle.flat_laws.specs.Places.{HitsStayInViewports}

-- ---- rectangles

pub shared-first : (p q : Rect) → IsWithin p (shared_part p q)
shared-first p q = record {
  x0 = omega (arith, ints, clamps);
  y0 = omega (arith, ints, clamps);
  x1 = omega (arith, ints, clamps);
  y1 = omega (arith, ints, clamps);
}

pub shared-second : (p q : Rect) → IsWithin q (shared_part p q)
shared-second p q = record {
  x0 = omega (arith, ints, clamps);
  y0 = omega (arith, ints, clamps);
  x1 = omega (arith, ints, clamps);
  y1 = omega (arith, ints, clamps);
}

pub within-itself : (p : Rect) → IsWithin p p
within-itself p = record {
  x0 = omega (arith, ints);
  y0 = omega (arith, ints);
  x1 = omega (arith, ints);
  y1 = omega (arith, ints);
}

pub within-through : (p q r : Rect) → IsWithin p q → IsWithin q r → IsWithin p r
within-through p q r a b = record {
  x0 = omega (arith, ints, a.x0, b.x0);
  y0 = omega (arith, ints, a.y0, b.y0);
  x1 = omega (arith, ints, a.x1, b.x1);
  y1 = omega (arith, ints, a.y1, b.y1);
}

wider : (l h low high c : ℤ) → low ≤ℤ l → h ≤ℤ high → is_between l h c ≡ true → is_between low high c ≡ true
wider l h low high c below above is = grind (arith, ints)

pub within-point : (p q : Rect) (x y : ℤ) → IsWithin p q → has_point q x y ≡ true → has_point p x y ≡ true
within-point p q x y w is =
    let first : is_between q.x0 q.x1 x ≡ true = grind arith in
    let second : is_between q.y0 q.y1 y ≡ true = grind arith in
    rw (wider q.x0 q.x1 p.x0 p.x1 x w.x0 w.x1 first) (wider q.y0 q.y1 p.y0 p.y1 y w.y0 w.y1 second)

-- ---- clips

abbrev AllAbove : List Rect → Rect → Type 0
AllAbove above clip = All (λ rect. IsWithin rect clip) above

above-through : (above : List Rect) (p q : Rect) → AllAbove above p → IsWithin p q → AllAbove above q
above-through above p q all w = All-weaker (λ rect. IsWithin rect p) (λ rect. IsWithin rect q) (λ rect a. within-through rect p q a w) above all

pub cut-within : (clip : Rect) (m : Matrix) (boundary : Option IntRect) → IsWithin clip (cut_clip clip m boundary)
cut-within clip m None = within-itself clip
cut-within clip m (Some boundary) = shared-first clip (mapped_rect m (in_places boundary))

above-linked : (above : List Rect) (here : Space) (what : Option Content) → AllAbove above here.clip
    → AllAbove (viewports_of_child above here what) (linked_space here what).clip
above-linked above here None all = all
above-linked above here (Some (content.Fill serial rgba w h)) all = all
above-linked above here (Some (content.Image serial buffers index sample w h blend flip opacity)) all = all
above-linked above here (Some (content.Viewport serial pair props)) all =
    let outer : Rect = viewport_rect here.matrix props in
    let inner : Rect = shared_part here.clip outer in
    All-cons (λ rect. IsWithin rect inner) outer above (shared-second here.clip outer) (above-through above here.clip inner all (shared-first here.clip outer))

-- each node's clip lies in all rectangles above it
abbrev IsInside : NodeInViewports → Type 0
IsInside framed = AllAbove framed.viewports framed.at.clip

inside : (above : List Rect) (outer : Space) (tree : JoinedTree) → AllAbove above outer.clip → All IsInside (in_viewports above outer tree)
inside above outer nothing all = All-nil IsInside
inside above outer (node s n linked below after) all =
    let here : Space = node_space outer n in
    let at_node : AllAbove above here.clip = above-through above outer.clip here.clip all (cut-within outer.clip (node_matrix outer.matrix n) n.clip) in
    let framed : NodeInViewports = record { at = placed_node s here n; viewports = above } in
    let child : List NodeInViewports = in_viewports (viewports_of_child above here n.content) (linked_space here n.content) linked in
    let lower : List NodeInViewports = in_viewports above here below in
    let later : List NodeInViewports = in_viewports above outer after in
    All-cons IsInside framed (child ++ (lower ++ later)) at_node
    (All-append IsInside child (lower ++ later)
    (inside (viewports_of_child above here n.content) (linked_space here n.content) linked (above-linked above here n.content at_node))
    (All-append IsInside lower later (inside above here below at_node) (inside above outer after all)))
inside above outer (child_view s root) all = inside above outer root all

-- on the display itself
display-inside : (setup : Setup) (shown : Shown) → All IsInside (nodes_in_viewports setup shown)
display-inside setup shown =
    let display : Rect = display_rect setup in
    inside (display ∷ []) (display_space setup) (join setup shown)
    (All-cons (λ rect. IsWithin rect display) display [] (within-itself display) (All-nil (λ rect. IsWithin rect display)))

-- ---- the framed nodes are the placed nodes

framed-placed : (above : List Rect) (outer : Space) (tree : JoinedTree)
    → map (λ (framed : NodeInViewports). framed.at) (in_viewports above outer tree) ≡ placed_in outer tree
framed-placed above outer nothing = refl
framed-placed above outer (node s n linked below after) =
    let here : Space = node_space outer n in
    let child : List NodeInViewports = in_viewports (viewports_of_child above here n.content) (linked_space here n.content) linked in
    let lower : List NodeInViewports = in_viewports above here below in
    let later : List NodeInViewports = in_viewports above outer after in
    let at : NodeInViewports → PlacedNode = λ framed. framed.at in
    ap (λ ps. placed_node s here n ∷ ps)
    (map-append at child (lower ++ later)
    ∙ ap (λ ps. map at child ++ ps) (map-append at lower later)
    ∙ (λ i. framed-placed (viewports_of_child above here n.content) (linked_space here n.content) linked i
    ++ (framed-placed above here below i ++ framed-placed above outer after i)))
framed-placed above outer (child_view s root) = framed-placed above outer root

pub nodes-in-viewports-are-placed : NodesInViewportsArePlaced
nodes-in-viewports-are-placed setup shown = framed-placed (display_rect setup ∷ []) (display_space setup) (join setup shown)

-- ---- items

pub item-within : (at : PlacedNode) (o : Option Painting) (item : DrawItem) → item_of at o ≡ Some item → IsWithin at.clip item.visible
item-within at None item is = absurd (cc)
item-within at (Some p) item is = by_test (has_no_point (visible_rect at p.w p.h) || (at.opacity == 0)) is
  where
    by_test : (b : Bool) → (if b then None else Some (record {
      session = at.session;
      serial = p.serial;
      paint = p.paint;
      w = p.w;
      h = p.h;
      matrix = scene_matrix at.matrix;
      visible = visible_rect at p.w p.h;
      opacity = p.opacity;
      blend = p.blend;
    })) ≡ Some item → IsWithin at.clip item.visible
    by_test true none = absurd (cc)
    by_test false same =
        let visible : visible_rect at p.w p.h ≡ item.visible = cc in
        subst (λ (rect : Rect). IsWithin at.clip rect) visible (shared-second _ at.clip)

pub items-stay-in-viewports : ItemsStayInViewports
items-stay-in-viewports setup shown = All-weaker IsInside
    (λ (framed : NodeInViewports). (item : DrawItem) → node_item framed.at ≡ Some item
    → IsWithin framed.at.clip item.visible × All (λ rect. IsWithin rect item.visible) framed.viewports)
    (λ framed all item is.
    let within = item-within framed.at (painting_of framed.at.opacity framed.at.content) item is in
    (within, above-through framed.viewports framed.at.clip item.visible all within))
    (nodes_in_viewports setup shown) (display-inside setup shown)

-- ---- hits

region-within : (at : PlacedNode) (area : Option IntRect) → IsWithin at.clip (region_rect at area)
region-within at None = within-itself at.clip
region-within at (Some area) = shared-second _ at.clip

found-passes : {X Y : Type 0} (test : X → Bool) (f : X → Y) (P : Type 0) → ((x : X) → test x ≡ true → P) → (xs : List X) (y : Y)
    → option_map f (find test xs) ≡ Some y → P
found-passes test f P each [] y is = absurd (cc)
found-passes test f P each (x ∷ xs) y is = by_test (λ rest. found-passes test f P each xs y rest) (test x) refl is
  where
    by_test : (option_map f (find test xs) ≡ Some y → P) → (b : Bool) → test x ≡ b → option_map f (cond b (Some x) (find test xs)) ≡ Some y → P
    by_test later true passes h = each x passes
    by_test later false fails h = later h

pub hit-within : (x y : ℤ) (at : PlacedNode) (hit : Hit) → hit_on x y at ≡ Some hit → has_point at.clip x y ≡ true
hit-within x y at hit is =
    found-passes (λ (region : HitRegion). has_point (region_rect at region.area) x y) _ (has_point at.clip x y ≡ true)
    (λ region passes. within-point at.clip (region_rect at region.area) x y (region-within at region.area) passes) at.hits hit is

pub hits-stay-in-viewports : HitsStayInViewports
hits-stay-in-viewports setup shown x y = All-weaker IsInside
    (λ (framed : NodeInViewports). (hit : Hit) → hit_on x y framed.at ≡ Some hit
    → (has_point framed.at.clip x y ≡ true) × All (λ rect. has_point rect x y ≡ true) framed.viewports)
    (λ framed all hit is.
    let within = hit-within x y framed.at hit is in (
      within,
      All-weaker (λ rect. IsWithin rect framed.at.clip) (λ rect. has_point rect x y ≡ true) (λ rect w. within-point rect framed.at.clip x y w within)
          framed.viewports all,
    ))
    (nodes_in_viewports setup shown) (display-inside setup shown)
