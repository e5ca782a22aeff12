-- The tree of a draft shows nothing of too great an opacity, and isn't too large where it may be presented.
use Rattle.std.proofs.Common.{◌≡◌, ℕ, zero, suc, ◌-◌, ◌≤◌, Bool, true, false, cond, ◌==◌, nat_lt, nat_le, List, [], ◌∷◌, filter_map, refl, sym, ap, ◌∙◌, subst}
use Rattle.std.proofs.Common.{arith, Option, Some, None}
use Rattle.std.specs.List.{list_all}
use Rattle.std.specs.Option.{option_map, option_and_then}
use Rattle.std.specs.Prelude.{option_to_list}
use Rattle.std.proofs.lemmas.Bool.Decides.{nat_tests}
use Rattle.flat_base.specs.declared.errors.Reason.{Reason}
use Rattle.flat_base.specs.declared.limits.TheConstants.{OPACITY_MAX, TREE_NODES_MAX, PATH_NODES_MAX}
use Rattle.flat_base.specs.declared.ids.PairNo.{PairNo}
use Rattle.flat_scene.specs.declared.trees.Children.{Children}
use Rattle.flat_scene.specs.declared.trees.Children.TheVariants.{Empty}
use Rattle.flat_scene.specs.declared.trees.Content.{Content}
use Rattle.flat_scene.specs.declared.trees.Node.{Node}
use Rattle.flat_scene.specs.declared.trees.Tree.{Tree}
use Rattle.flat_scene.specs.declared.trees.ViewportUse.{ViewportUse}
use Rattle.flat_scene.specs.Draft.{Draft, Transform, Made, an_image, a_fill, a_viewport, of_serial}
use Rattle.flat_scene.specs.Misuse.{first_reason}
use Rattle.flat_scene.specs.Tree.{shown_content, content_held, node, each, node_within, all_nodes, is_too_large, tree_tests, tree, head_of, use_of}
use Rattle.flat_scene.proofs.lemmas.Presented.{tree-unfolded}
use Rattle.flat_scene.specs.Trees.{more, node_count}
use Rattle.flat_topology.specs.Fit.{image_opacity, greatest_opacity}
use Rattle.flat_topology.specs.Shown.{nodes_of}
use Rattle.flat_base.proofs.lemmas.Tests.{and-left, and-right}
use Rattle.flat_facts.proofs.LowDrafts.{IsLowDraft, is_low, is_dim}

-- ---- contents

pub record IsLowContent (content : Option Content) : Type 0 where
  pub opacity : image_opacity content ≤ OPACITY_MAX

fits : (v : ℕ) → nat_le v OPACITY_MAX ≡ true → v ≤ OPACITY_MAX
fits v low = grind (arith, nat_tests)

shown_low : (serial : ℕ) (made : Made) → is_low made ≡ true → IsLowContent (shown_content serial made)
shown_low serial (an_image image) low = record { opacity = fits image.opacity low }
shown_low serial (a_fill (Some solid)) low = record { opacity = omega arith }
shown_low serial (a_fill None) low = record { opacity = omega arith }
shown_low serial (a_viewport pair props) low = record { opacity = omega arith }

pick_low : (b : Bool) (serial : ℕ) (made : Made) (rest : Option Made) → is_low made ≡ true → IsLowContent (option_and_then (shown_content serial) rest)
    → IsLowContent (option_and_then (shown_content serial) (cond b (Some made) rest))
pick_low true serial made rest low others = shown_low serial made low
pick_low false serial made rest low others = others

found_low : (serial n : ℕ) (contents : List Made) → list_all is_low contents ≡ true
    → IsLowContent (option_and_then (shown_content serial) (of_serial contents n))
found_low serial n [] all = record { opacity = omega arith }
found_low serial n (made ∷ contents) all =
    pick_low (n == 1) serial made (of_serial contents (n - 1)) (and-left (is_low made) (list_all is_low contents) all)
    (found_low serial (n - 1) contents (and-right (is_low made) (list_all is_low contents) all))

held_low : (d : Draft) (held : Option ℕ) → list_all is_low d.contents ≡ true → IsLowContent (content_held d held)
held_low d None all = record { opacity = omega arith }
held_low d (Some serial) all = found_low serial serial d.contents all

-- ---- nodes

pub record IsLow (children : Children) : Type 0 where
  pub opacity : greatest_opacity children ≤ OPACITY_MAX

abbrev AreLow : Option Children → Type 0
AreLow None = Unit {0}
AreLow (Some children) = IsLow children

pub record IsLowNode (n : Node) : Type 0 where
  pub content : IsLowContent n.content
  pub opacity : n.opacity ≤ OPACITY_MAX
  pub below : IsLow n.children

abbrev MayBeLow : Option Node → Type 0
MayBeLow None = Unit {0}
MayBeLow (Some n) = IsLowNode n

low_empty : IsLow Empty
low_empty = record { opacity = omega arith }

low_more : (n : Node) (rest : Children) → IsLowNode n → IsLow rest → IsLow (more n rest)
low_more n rest low after = record {
  opacity = let a = low.opacity in let b = low.content.opacity in let c = low.below.opacity in let e = after.opacity in omega arith;
}

low_joined : (o : Option Node) (rest : Option Children) → MayBeLow o → AreLow rest → AreLow (option_and_then (λ n. option_map (more n) rest) o)
low_joined None rest low after = tt
low_joined (Some n) None low after = tt
low_joined (Some n) (Some rest) low after = low_more n rest low after

low_each : (node_of : ℕ → Option Node) → ((serial : ℕ) → MayBeLow (node_of serial)) → (serials : List ℕ) → AreLow (each node_of serials)
low_each node_of low [] = low_empty
low_each node_of low (serial ∷ serials) = low_joined (node_of serial) (each node_of serials) (low serial) (low_each node_of low serials)

abbrev MayBeDim : Option Transform → Type 0
MayBeDim None = Unit {0}
MayBeDim (Some t) = t.opacity ≤ OPACITY_MAX

pick_dim : (b : Bool) (t : Transform) (rest : Option Transform) → is_dim t ≡ true → MayBeDim rest → MayBeDim (cond b (Some t) rest)
pick_dim true t rest dim others = fits t.opacity dim
pick_dim false t rest dim others = others

found_dim : (n : ℕ) (transforms : List Transform) → list_all is_dim transforms ≡ true → MayBeDim (of_serial transforms n)
found_dim n [] all = tt
found_dim n (t ∷ transforms) all = pick_dim (n == 1) t (of_serial transforms (n - 1)) (and-left (is_dim t) (list_all is_dim transforms) all)
    (found_dim (n - 1) transforms (and-right (is_dim t) (list_all is_dim transforms) all))

low_made : (d : Draft) (is_root : Bool) (serial : ℕ) (below : List ℕ → Option Children) → list_all is_low d.contents ≡ true
    → ((serials : List ℕ) → AreLow (below serials)) → (o : Option Transform) → MayBeDim o
    → MayBeLow (option_and_then (λ t. option_map (node d is_root serial t) (below t.children)) o)
low_made d is_root serial below contents low None dim = tt
low_made d is_root serial below contents low (Some t) dim = with_children (below t.children) (low t.children)
  where
    with_children : (children : Option Children) → AreLow children → MayBeLow (option_map (node d is_root serial t) children)
    with_children None all = tt
    with_children (Some children) all = record { content = held_low d t.content contents; opacity = dim; below = all }

low_within : (levels : ℕ) (d : Draft) (is_root : Bool) (serial : ℕ) → list_all is_low d.contents ≡ true → list_all is_dim d.transforms ≡ true
    → MayBeLow (node_within levels d is_root serial)
low_within zero d is_root serial contents transforms = tt
low_within (suc levels) d is_root serial contents transforms =
    low_made d is_root serial (each (node_within levels d false)) contents
    (low_each (node_within levels d false) (λ one. low_within levels d false one contents transforms)) (of_serial d.transforms serial)
    (found_dim serial d.transforms transforms)

-- ---- trees

-- What a tree shows is the root and all below it, which is low, and its view is the draft's.
pub record ShowsLow (d : Draft) (t : Tree) : Type 0 where
  pub low : IsLow (nodes_of (Some t))
  pub all : all_nodes d ≡ Some (nodes_of (Some t))
  pub view : t.view ≡ d.view

module _ (view : Option PairNo) (uses : List ViewportUse) where
  abbrev shown_as : Option Children → Option Tree
  shown_as found = option_map (λ all. record { view = view; root = head_of all; viewports = uses }) found

  of_root : (o : Option Node) (t : Tree) → MayBeLow o → shown_as (option_and_then (λ n. option_map (more n) (Some Empty)) o) ≡ Some t
      → IsLow (nodes_of (Some t)) × (option_and_then (λ n. option_map (more n) (Some Empty)) o ≡ Some (nodes_of (Some t))) × (t.view ≡ view)
  of_root None t low is = absurd (cc)
  of_root (Some n) t low is =
      let tree_is : record { view = view; root = Some n; viewports = uses } ≡ t =
      let same : Some (record { view = view; root = Some n; viewports = uses }) ≡ Some t = is in cc in
      let P : Tree → Type 0 = λ u. IsLow (nodes_of (Some u)) × (Some (more n Empty) ≡ Some (nodes_of (Some u))) × (u.view ≡ view) in
      subst P tree_is (low_more n Empty low low_empty, refl, refl)

  of_roots : (node_of : ℕ → Option Node) (root : Option ℕ) (t : Tree) → ((serial : ℕ) → MayBeLow (node_of serial))
      → shown_as (each node_of (option_to_list root)) ≡ Some t
      → IsLow (nodes_of (Some t)) × (each node_of (option_to_list root) ≡ Some (nodes_of (Some t))) × (t.view ≡ view)
  of_roots node_of None t low is =
      let tree_is : record { view = view; root = None; viewports = uses } ≡ t =
      let same : Some (record { view = view; root = None; viewports = uses }) ≡ Some t = is in cc in
      let P : Tree → Type 0 = λ u. IsLow (nodes_of (Some u)) × (Some Empty ≡ Some (nodes_of (Some u))) × (u.view ≡ view) in
      subst P tree_is (low_empty, refl, refl)
  of_roots node_of (Some serial) t low is = of_root (node_of serial) t (low serial) is

pub tree_low : (d : Draft) (t : Tree) → IsLowDraft d → tree d ≡ Some t → ShowsLow d t
tree_low d t good is =
    let parts = of_roots d.view (filter_map (use_of d) d.viewports) (node_within PATH_NODES_MAX d true) d.root t
    (λ serial. low_within PATH_NODES_MAX d true serial good.contents good.transforms) (tree-unfolded d t is) in
    record { low = parts.0; all = parts.1; view = parts.2 }

not_large : (all : Option Children) (children : Children) → all ≡ Some children → is_too_large all ≡ false → node_count children ≤ TREE_NODES_MAX
not_large all children is small = let fits : nat_lt TREE_NODES_MAX (node_count children) ≡ false = ap is_too_large (sym is) ∙ small in grind (arith, nat_tests)

pub second_none : (a b : Bool) (r q : Reason) (more : Option Reason) → cond a (Some r) (cond b (Some q) more) ≡ None → b ≡ false
second_none true b r q more none = absurd (cc)
second_none false true r q more none = absurd (cc)
second_none false false r q more none = refl

-- and it isn't too large
pub tree_small : (d : Draft) (t : Tree) → ShowsLow d t → first_reason (tree_tests d) ≡ None → node_count (nodes_of (Some t)) ≤ TREE_NODES_MAX
tree_small d t shows none = not_large (all_nodes d) (nodes_of (Some t)) shows.all (second_none _ _ _ _ _ none)
