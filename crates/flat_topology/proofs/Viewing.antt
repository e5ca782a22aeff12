-- The views of the joined tree, its connected sessions, and its placed nodes go together.
use Rattle.std.proofs.Common.{ℕ, suc, ◌+◌, ◌≡◌, refl, ap, subst, List, [], ◌∷◌, ◌++◌, length, Option, Some, map, slice_get, arith}
use Rattle.std.proofs.lemmas.List.{map-append, length-append}
use Rattle.flat_base.specs.declared.ids.SessionNo.{SessionNo}
use Rattle.flat_base.specs.declared.shapes.Rect.{Rect}
use Rattle.flat_topology.specs.declared.PlacedNode.{PlacedNode}
use Rattle.flat_topology.specs.Join.{JoinedTree, nothing, node, child_view, sessions_in}
use Rattle.flat_topology.specs.Place.{Space, node_space, linked_space, placed_node, placed_in}
use Rattle.flat_topology.specs.Views.{views_in, viewport_bounds}
use Rattle.flat_topology.specs.Connected.{joined_count, connected_in, connected_view}

pub sessions-views : (parent : Option SessionNo) (bounds : Rect) (outer : Space) (tree : JoinedTree)
    → map (λ v. v.session.0) (views_in parent bounds outer tree) ≡ sessions_in tree
sessions-views parent bounds outer nothing = refl
sessions-views parent bounds outer (child_view s root) = ap (λ (others : List ℕ). s ∷ others) (sessions-views parent bounds outer root)
sessions-views parent bounds outer (node s n linked below after) =
    rw (
      map-append,
      map-append,
      sessions-views (Some (record { 0 = s })) (viewport_bounds (placed_node s (node_space outer n) n)) (linked_space (node_space outer n) n.content) linked,
      sessions-views parent bounds (node_space outer n) below,
      sessions-views parent bounds outer after,
    ) refl

pub length-placed : (outer : Space) (tree : JoinedTree) → length (placed_in outer tree) ≡ joined_count tree
length-placed outer nothing = refl
length-placed outer (child_view s root) = length-placed outer root
length-placed outer (node s n linked below after) =
    let under : Space = linked_space (node_space outer n) n.content in
    let first : length (placed_in under linked) ≡ joined_count linked = length-placed under linked in
    let second : length (placed_in (node_space outer n) below) ≡ joined_count below = length-placed (node_space outer n) below in
    let third : length (placed_in outer after) ≡ joined_count after = length-placed outer after in
    simp length-append (omega (arith, first, second, third))

-- these nodes stand one after another among all nodes, from a number on
abbrev pub StandsFrom : List PlacedNode → ℕ → List PlacedNode → Type 0
StandsFrom all next [] = Unit {0}
StandsFrom all next (p ∷ ps) = (slice_get all next ≡ Some p) × StandsFrom all (suc next) ps

one-more : (first : PlacedNode) (all : List PlacedNode) (next : ℕ) (ps : List PlacedNode) → StandsFrom all next ps → StandsFrom (first ∷ all) (suc next) ps
one-more first all next [] stands = tt
one-more first all next (p ∷ ps) stands = (stands.0, one-more first all (suc next) ps stands.1)

pub stands-all : (all : List PlacedNode) → StandsFrom all 0 all
stands-all [] = tt
stands-all (p ∷ ps) = (refl, one-more p ps 0 ps (stands-all ps))

stands-left : (all : List PlacedNode) (next : ℕ) (ps qs : List PlacedNode) → StandsFrom all next (ps ++ qs) → StandsFrom all next ps
stands-left all next [] qs stands = tt
stands-left all next (p ∷ ps) qs stands = (stands.0, stands-left all (suc next) ps qs stands.1)

stands-right : (all : List PlacedNode) (next count : ℕ) (ps qs : List PlacedNode) → length ps ≡ count → StandsFrom all next (ps ++ qs)
    → StandsFrom all (next + count) qs
stands-right all next count [] qs counted stands =
    let here : next ≡ next + count = omega (arith, counted) in
    let P : ℕ → Type 0 = λ n. StandsFrom all n qs in
    subst P here stands
stands-right all next count (p ∷ ps) qs counted stands =
    let there : suc next + length ps ≡ next + count = omega (arith, counted) in
    let P : ℕ → Type 0 = λ n. StandsFrom all n qs in
    subst P there (stands-right all (suc next) (length ps) ps qs refl stands.1)

-- the views are those of the connected sessions, where these nodes stand among all from the next number on, and a session that hangs there
-- has this parent and these bounds
pub views-connected : (display : Rect) (all : List PlacedNode) (next : ℕ) (at : Option ℕ) (parent : Option SessionNo) (bounds : Rect) (outer : Space)
    (tree : JoinedTree)
    → StandsFrom all next (placed_in outer tree)
    → ((s : ℕ) → connected_view display all (record { session = record { 0 = s }; at = at })
    ≡ record { session = record { 0 = s }; parent = parent; bounds = bounds })
    → views_in parent bounds outer tree ≡ map (connected_view display all) (connected_in next at tree)
views-connected display all next at parent bounds outer nothing stands hangs = refl
views-connected display all next at parent bounds outer (child_view s root) stands hangs =
    rw (views-connected display all next at parent bounds outer root stands hangs, hangs s) refl
views-connected display all next at parent bounds outer (node s n linked below after) stands hangs =
    let own : PlacedNode = placed_node s (node_space outer n) n in
    let under : Space = linked_space (node_space outer n) n.content in
    let first : List PlacedNode = placed_in under linked in
    let second : List PlacedNode = placed_in (node_space outer n) below in
    let third : List PlacedNode = placed_in outer after in
    let later : StandsFrom all (suc next + joined_count linked) (second ++ third) =
    stands-right all (suc next) (joined_count linked) first (second ++ third) (length-placed under linked) stands.1 in
    let last : StandsFrom all (suc next + joined_count linked + joined_count below) third =
    stands-right all (suc next + joined_count linked) (joined_count below) second third (length-placed (node_space outer n) below) later in
    rw (
      map-append,
      map-append,
      views-connected display all (suc next) (Some next) (Some (record { 0 = s })) (viewport_bounds own) under linked
          (stands-left all (suc next) first (second ++ third) stands.1) (λ t. rw stands.0 refl),
      views-connected display all (suc next + joined_count linked) at parent bounds (node_space outer n) below
          (stands-left all (suc next + joined_count linked) second third later) hangs,
      views-connected display all (suc next + joined_count linked + joined_count below) at parent bounds outer after last hangs,
    ) refl
