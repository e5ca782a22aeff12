-- A graph that stands for a draft unfolds to the draft's tree, and has a cycle where the draft has one.
use Rattle.std.proofs.Common.{ℕ, zero, suc, ◌+◌, ◌<◌, ◌≤◌, ◌≡◌, refl, sym, ◌∙◌, ap, subst, Bool, true, false, List, [], ◌∷◌, ◌++◌, map, Option, Some, None}
use Rattle.std.proofs.Common.{IsSome, slice_get, arith}
use Rattle.std.specs.Prelude.{option_to_list}
use Rattle.std.specs.List.{Contains}
use Rattle.std.specs.Option.{option_map, option_and_then}
use Rattle.std.proofs.lemmas.Option.{slice_get-map}
use Rattle.flat_scene.specs.declared.trees.HeldContent.{HeldContent}
use Rattle.flat_scene.specs.declared.trees.Node.{Node}
use Rattle.flat_scene.specs.declared.trees.Children.{Children}
use Rattle.flat_scene.specs.Cycles.{Walk, HasCycle}
use Rattle.flat_scene.specs.Draft.{Draft, Made, an_image, a_fill, a_viewport, of_serial}
use Rattle.flat_scene.specs.Misuse.{is_viewport}
use Rattle.flat_scene.specs.Tree.{children_at, node, each, node_within, shown_content, content_held}
use Rattle.flat_scene.specs.Trees.{more, node_count, viewports_in}
use Rattle.flat_scene.specs.Trees as scene
use Rattle.flat_graph.specs.declared.nodes.GraphNode.{GraphNode}
use Rattle.flat_graph.specs.Reasons.{links_in}
use Rattle.flat_graph.specs.State.{GraphState, IsKept, node_at}
use Rattle.flat_graph.specs.Stands.{StandsFor, IsHeld, serial_at, serial_of, node_serial, as_transform}
use Rattle.flat_collect.specs.Forest.{Forest, tree, unfolded, size, height, held}
use Rattle.flat_collect.specs.Judge.{viewport_in, viewport_of, viewport_held}
use Rattle.flat_collect.proofs.Walks.{contains_at, at_contained}

contains-map : (f : ℕ → ℕ) (xs : List ℕ) (x : ℕ) → Contains xs x → Contains (map f xs) (f x)
contains-map f xs x has =
    let at = at_contained xs x has in
    contains_at (map f xs) at.0 (f x) (slice_get-map f xs at.0 ∙ rw at.1 refl)

contains-from_map : (f : ℕ → ℕ) (xs : List ℕ) (y : ℕ) → Contains (map f xs) y → (x : ℕ) × Contains xs x × (y ≡ f x)
contains-from_map f xs y has = by_item (slice_get xs at.0) refl
  where
    at : (i : ℕ) × (slice_get (map f xs) i ≡ Some y)
    at = at_contained (map f xs) y has

    by_item : (item : Option ℕ) → item ≡ slice_get xs at.0 → (x : ℕ) × Contains xs x × (y ≡ f x)
    by_item None e = let no : ◌≡◌ {A = Option ℕ} None (Some y) = rw (slice_get-map f xs at.0, ← e) at at.1 in absurd (cc)
    by_item (Some x) e = let is : Some (f x) ≡ Some y = rw (slice_get-map f xs at.0, ← e) at at.1 in (x, contains_at xs at.0 x (sym e), (cc))

-- the place of each key
abbrev pub Each : (ℕ → Type 0) → List ℕ → Type 0
Each P [] = Unit {0}
Each P (x ∷ xs) = P x × Each P xs

pub each-contained : (P : ℕ → Type 0) (xs : List ℕ) → ((x : ℕ) → Contains xs x → P x) → Each P xs
each-contained P [] all = tt
each-contained P (x ∷ xs) all = (all x (0, omega arith, refl), each-contained P xs (λ y has. all y (suc has.0, omega (arith, has.1), has.2)))

-- A draft's nodes are those of a forest, where its paths have at most so many nodes. Where there are none, a path is longer.
abbrev pub Agrees : (ℕ → Option ℕ) → Forest → ℕ → Option Children → Type 0
Agrees viewport forest levels (Some all) = (node_count all ≡ size forest) × (viewports_in all ≡ held viewport forest) × (height forest ≤ levels)
Agrees viewport forest levels None = levels < height forest

-- the nodes of one more key, and what is below it
agree-more : (viewport : ℕ → Option ℕ) (levels key : ℕ) (below after : Forest) (make : Children → Node)
    → ((children : Children) → (make children).children ≡ children)
    → ((children : Children) → scene.viewport_in (make children).content ≡ option_to_list (viewport key))
    → (first rest : Option Children) → Agrees viewport below levels first → Agrees viewport after (suc levels) rest
    → Agrees viewport (tree key below after) (suc levels) (option_and_then (λ n. option_map (more n) rest) (option_map make first))
agree-more viewport levels key below after make is shows None rest first_agrees rest_agrees = omega (arith, first_agrees)
agree-more viewport levels key below after make is shows (Some first) None first_agrees rest_agrees = omega (arith, rest_agrees)
agree-more viewport levels key below after make is shows (Some first) (Some rest) first_agrees rest_agrees = (
  ap (λ (n : ℕ). 1 + n + node_count rest) (ap node_count (is first) ∙ first_agrees.0) ∙ ap (λ (n : ℕ). 1 + size below + n) rest_agrees.0,
  ap (λ (vs : List ℕ). vs ++ viewports_in (make first).children ++ viewports_in rest) (shows first)
      ∙ ap (λ (vs : List ℕ). option_to_list (viewport key) ++ vs ++ viewports_in rest) (ap viewports_in (is first) ∙ first_agrees.1)
      ∙ ap (λ (vs : List ℕ). option_to_list (viewport key) ++ held viewport below ++ vs) rest_agrees.1,
  omega (arith, first_agrees.2, rest_agrees.2),
)

module _ (graph : GraphState) (draft : Draft) (s : StandsFor graph draft) where
  -- the children of a kept node, as serials
  pub links-stand : (key : ℕ) → IsKept graph.nodes key → children_at draft (serial_at graph key) ≡ map (serial_at graph) (links_in graph key)
  links-stand key kept = by_node (node_at graph key) refl
    where
      by_node : (x : Option GraphNode) → x ≡ node_at graph key → children_at draft (serial_at graph key) ≡ map (serial_at graph) (links_in graph key)
      by_node None e = let no : ◌≡◌ {A = Bool} false true = rw (← e) at kept in absurd (cc)
      by_node (Some n) e = rw (← e, s.nodes key n (sym e)) refl

  pub kept-links : (key : ℕ) → IsKept graph.nodes key → (child : ℕ) → Contains (links_in graph key) child → IsKept graph.nodes child
  kept-links key kept child has = by_node (node_at graph key) refl
    where
      by_node : (x : Option GraphNode) → x ≡ node_at graph key → IsKept graph.nodes child
      by_node None e = let no : ◌≡◌ {A = Bool} false true = rw (← e) at kept in absurd (cc)
      by_node (Some n) e = s.sound.children_kept key n (sym e) child (rw (← e) at has)

  -- ---- the tree

  -- the viewport of a kept node is that of its transform
  viewport-stands : (n : GraphNode) (content : Option HeldContent) → ((it : HeldContent) → content ≡ Some it → IsHeld draft.contents it)
      → scene.viewport_in (content_held draft (option_map serial_of content)) ≡ option_to_list (viewport_held content)
  viewport-stands n None made = refl
  viewport-stands n (Some it) made = by_made (of_serial draft.contents it.serial) (made it refl).made (made it refl).sort refl
    where
      by_made : (x : Option Made) → IsSome x → it.viewport ≡ is_viewport (of_serial draft.contents it.serial) → of_serial draft.contents it.serial ≡ x
          → scene.viewport_in (option_and_then (shown_content it.serial) x) ≡ option_to_list (viewport_held (Some it))
      by_made None some sort e = absurd (cc)
      by_made (Some (an_image image)) some sort e = rw (sort, e) refl
      by_made (Some (a_fill None)) some sort e = rw (sort, e) refl
      by_made (Some (a_fill (Some solid))) some sort e = rw (sort, e) refl
      by_made (Some (a_viewport pair props)) some sort e = rw (sort, e) refl

  -- the nodes of the draft are those of the graph's forest
  pub nodes-agree : (levels : ℕ) (is_root : Bool) (keys : List ℕ) → Each (IsKept graph.nodes) keys
      → Agrees (viewport_in graph) (unfolded (links_in graph) (suc levels) keys) levels (each (node_within levels draft is_root) (map (serial_at graph) keys))
  unfolding unfolded
  nodes-agree levels is_root [] kept = (refl, refl, omega arith)
  nodes-agree zero is_root (key ∷ keys) kept = omega arith
  nodes-agree (suc levels) is_root (key ∷ keys) kept =
      by_node (node_at graph key) refl kept.0 (nodes-agree (suc levels) is_root keys kept.1) (nodes-agree levels false)
    where
      by_node : (x : Option GraphNode) → node_at graph key ≡ x → IsSome x
          → Agrees (viewport_in graph) (unfolded (links_in graph) (suc (suc levels)) keys) (suc levels)
          (each (node_within (suc levels) draft is_root) (map (serial_at graph) keys))
          → ((ks : List ℕ) → Each (IsKept graph.nodes) ks → Agrees (viewport_in graph) (unfolded (links_in graph) (suc levels) ks) levels
          (each (node_within levels draft false) (map (serial_at graph) ks)))
          → Agrees (viewport_in graph) (unfolded (links_in graph) (suc (suc levels)) (key ∷ keys)) (suc levels)
          (each (node_within (suc levels) draft is_root) (map (serial_at graph) (key ∷ keys)))
      by_node None e some rest lower = absurd (cc)
      by_node (Some n) e some rest lower =
          let links : links_in graph key ≡ n.children = rw e refl in
          let serial : serial_at graph key ≡ n.serial = ap node_serial e in
          let there : of_serial draft.transforms (serial_at graph key) ≡ Some (as_transform graph n) =
          ap (of_serial draft.transforms) serial ∙ s.nodes key n e in
          let first = lower n.children (each-contained (IsKept graph.nodes) n.children (s.sound.children_kept key n e)) in
          rw (there)
          (agree-more (viewport_in graph) levels key (unfolded (links_in graph) (suc levels) (links_in graph key))
          (unfolded (links_in graph) (suc (suc levels)) keys)
          (node draft is_root (serial_at graph key) (as_transform graph n)) (λ children. refl)
          (λ children. viewport-stands n n.content (λ it e'. s.contents key n it e e') ∙ ap (λ (x : Option GraphNode). option_to_list (viewport_of x)) (sym e))
          (each (node_within levels draft false) (map (serial_at graph) n.children))
          (each (node_within (suc levels) draft is_root) (map (serial_at graph) keys))
          (subst (λ (ks : List ℕ). Agrees (viewport_in graph) (unfolded (links_in graph) (suc levels) ks) levels
          (each (node_within levels draft false) (map (serial_at graph) n.children))) (sym links) first)
          rest)

  -- ---- cycles

  walk-kept : (steps a b : ℕ) → IsKept graph.nodes a → Walk (links_in graph) steps a b → IsKept graph.nodes b
  walk-kept zero a b kept e = subst (IsKept graph.nodes) e kept
  walk-kept (suc steps) a b kept walk = walk-kept steps walk.0 b (kept-links a kept walk.0 walk.1) walk.2

  -- a walk in the graph is one in the draft
  walk-up : (steps a b : ℕ) → IsKept graph.nodes a → Walk (links_in graph) steps a b → Walk (children_at draft) steps (serial_at graph a) (serial_at graph b)
  walk-up zero a b kept e = ap (serial_at graph) e
  walk-up (suc steps) a b kept walk = (
    serial_at graph walk.0,
    rw (links-stand a kept) (contains-map (serial_at graph) (links_in graph a) walk.0 walk.1),
    walk-up steps walk.0 b (kept-links a kept walk.0 walk.1) walk.2,
  )

  -- a walk in the draft from a kept node is one in the graph
  walk-down : (steps a y : ℕ) → IsKept graph.nodes a → Walk (children_at draft) steps (serial_at graph a) y
      → (b : ℕ) × Walk (links_in graph) steps a b × (y ≡ serial_at graph b) × IsKept graph.nodes b
  walk-down zero a y kept e = (a, refl, sym e, kept)
  walk-down (suc steps) a y kept walk =
      let has : Contains (map (serial_at graph) (links_in graph a)) walk.0 = rw (links-stand a kept) at walk.1 in
      let from : (c : ℕ) × Contains (links_in graph a) c × (walk.0 ≡ serial_at graph c) = contains-from_map (serial_at graph) (links_in graph a) walk.0 has in
      let P : ℕ → Type 0 = λ n. Walk (children_at draft) steps n y in
      let rest : (b : ℕ) × Walk (links_in graph) steps from.0 b × (y ≡ serial_at graph b) × IsKept graph.nodes b =
      walk-down steps from.0 y (kept-links a kept from.0 from.1) (subst P from.2 walk.2) in
      (rest.0, (from.0, from.1, rest.1), rest.2, rest.3)

  pub cycle-up : (root : ℕ) → IsKept graph.nodes root → HasCycle (links_in graph) root → HasCycle (children_at draft) (serial_at graph root)
  cycle-up root kept cycle = record {
    place = serial_at graph cycle.place;
    before = cycle.before;
    there = walk-up cycle.before root cycle.place kept cycle.there;
    around = cycle.around;
    back = walk-up (suc cycle.around) cycle.place cycle.place (walk-kept cycle.before root cycle.place kept cycle.there) cycle.back;
  }

  same-key : (a b : ℕ) → IsKept graph.nodes a → IsKept graph.nodes b → serial_at graph a ≡ serial_at graph b → a ≡ b
  same-key a b kept kept' same = by_nodes (node_at graph a) (node_at graph b) refl refl
    where
      by_nodes : (n m : Option GraphNode) → n ≡ node_at graph a → m ≡ node_at graph b → a ≡ b
      by_nodes None m e f = let no : ◌≡◌ {A = Bool} false true = rw (← e) at kept in absurd (cc)
      by_nodes (Some n) None e f = let no : ◌≡◌ {A = Bool} false true = rw (← f) at kept' in absurd (cc)
      by_nodes (Some n) (Some m) e f = s.apart a b n m (sym e) (sym f) (rw (← e, ← f) at same)

  pub cycle-down : (root : ℕ) → IsKept graph.nodes root → HasCycle (children_at draft) (serial_at graph root) → HasCycle (links_in graph) root
  cycle-down root kept cycle =
      let there = walk-down cycle.before root cycle.place kept cycle.there in
      let P : ℕ → Type 0 = λ n. Walk (children_at draft) (suc cycle.around) n n in
      let back = walk-down (suc cycle.around) there.0 (serial_at graph there.0) there.3 (subst P there.2 cycle.back) in
      let same : there.0 ≡ back.0 = same-key there.0 back.0 there.3 back.3 back.2 in
      let Q : ℕ → Type 0 = λ n. Walk (links_in graph) (suc cycle.around) there.0 n in
      record { place = there.0; before = cycle.before; there = there.1; around = cycle.around; back = subst Q (sym same) back.1 }
