-- Only nodes with hit regions give a hit, so that their places are enough.
use Rattle.std.proofs.Common.{ℕ, ℤ, zero, suc, ◌+◌, ◌<◌, ◌≤◌, ◌≡◌, refl, sym, ap, ◌∙◌, arith, Bool, true, false, cond, List, [], ◌∷◌, ◌++◌, length, take}
use Rattle.std.proofs.Common.{reverse, slice_get, append-nil, Option, Some, None}
use Rattle.std.specs.List.{cons_option, filter_map}
use Rattle.std.proofs.lemmas.List.{take_more, length-take-le, reverse-append}
use Rattle.std.proofs.lemmas.List.Elements.{filter_map-append}
use Rattle.std.proofs.lemmas.Option.{get_or_from_slice_get}
use Rattle.flat_scene.specs.declared.calls.HitRegion.{HitRegion}
use Rattle.flat_topology.specs.declared.PlacedNode.{PlacedNode}
use Rattle.flat_topology.specs.Hits.{hit_on}
use Rattle.flat_hit.specs.Touchable.{has_any, has_region, places_from, region_places}

pub no-hit : (x y : ℤ) (at : PlacedNode) → has_region at ≡ false → hit_on x y at ≡ None
no-hit x y at without = by_list at.hits refl without
  where
    by_list : (hits : List HitRegion) → at.hits ≡ hits → has_any hits ≡ false → hit_on x y at ≡ None
    by_list [] is none = rw is refl
    by_list (region ∷ regions) is none = absurd (cc)

-- ---- noted one after another

by-first : (b : Bool) (first : ℕ) (xs ys : List ℕ) → cond b (first ∷ (xs ++ ys)) (xs ++ ys) ≡ cond b (first ∷ xs) xs ++ ys
by-first true first xs ys = refl
by-first false first xs ys = refl

places-behind : (first : ℕ) (nodes : List PlacedNode) (at : PlacedNode)
    → places_from first (nodes ++ at ∷ []) ≡ places_from first nodes ++ cond (has_region at) ((first + length nodes) ∷ []) []
places-behind first [] at = ap (λ n. cond (has_region at) (n ∷ []) []) (let same : first ≡ first + 0 = omega arith in same)
places-behind first (next ∷ later) at =
    let there : suc first + length later ≡ first + suc (length later) = omega arith in
    ap (λ ns. cond (has_region next) (first ∷ ns) ns) (places-behind (suc first) later at
    ∙ ap (λ n. places_from (suc first) later ++ cond (has_region at) (n ∷ []) []) there)
    ∙ by-first (has_region next) first (places_from (suc first) later) (cond (has_region at) ((first + suc (length later)) ∷ []) [])

pub place-more : (nodes : List PlacedNode) (place : ℕ) (at : PlacedNode) (old new : List ℕ) → place < length nodes → slice_get nodes place ≡ Some at
    → old ≡ region_places (take place nodes)
    → new ≡ old ++ cond (has_region at) (place ∷ []) [] → new ≡ region_places (take (place + 1) nodes)
place-more nodes place at old new within is so_far more =
    let whole : take (place + 1) nodes ≡ take place nodes ++ at ∷ [] =
    take_more nodes place at within ∙ ap (λ (node : PlacedNode). take place nodes ++ node ∷ []) (get_or_from_slice_get nodes place at at is) in
    let short = length-take-le place nodes (let low : place ≤ length nodes = omega (arith, within) in low) in
    let long : 0 + length (take place nodes) ≡ place = omega (arith, short) in
    more ∙ ap (λ (ps : List ℕ). ps ++ cond (has_region at) (place ∷ []) []) so_far
    ∙ sym (ap region_places whole ∙ places-behind 0 (take place nodes) at ∙ ap (λ n. region_places (take place nodes) ++ cond (has_region at) (n ∷ []) []) long)

-- ---- read again

-- what f gives of an item, if there is one
abbrev pub given : {X Y : Type 0} → (X → Option Y) → Option X → Option Y
given f None = None
given f (Some x) = f x

-- what f gives of the node at a place
abbrev pub given_at : {Y : Type 0} → (PlacedNode → Option Y) → List PlacedNode → ℕ → Option Y
given_at f nodes place = given f (slice_get nodes place)

-- where f gives nothing of nodes without regions, the others are enough
all-given : {Y : Type 0} (f : PlacedNode → Option Y) → ((at : PlacedNode) → has_region at ≡ false → f at ≡ None)
    → (look : ℕ → Option PlacedNode) (first : ℕ) (nodes : List PlacedNode) → ((k : ℕ) → look (first + k) ≡ slice_get nodes k)
    → filter_map (λ n. given f (look n)) (places_from first nodes) ≡ filter_map f nodes
all-given f none look first [] there = refl
all-given {Y} f none look first (at ∷ later) there =
    by_region (has_region at) refl (all-given f none look (suc first) later
    (λ k. let next : suc first + k ≡ first + suc k = omega arith in ap look next ∙ there (suc k)))
  where
    here : look first ≡ Some at
    here = let same : first ≡ first + 0 = omega arith in ap look same ∙ there 0

    by_region : (b : Bool) → has_region at ≡ b → filter_map (λ n. given f (look n)) (places_from (suc first) later) ≡ filter_map f later
        → filter_map (λ n. given f (look n)) (cond b (first ∷ places_from (suc first) later) (places_from (suc first) later)) ≡ filter_map f (at ∷ later)
    by_region true is rest = rw (here, rest) refl
    by_region false is rest = rw (none at is) rest

-- what is given of a list that is turned round
turned : {X Y : Type 0} (f : X → Option Y) (xs : List X) → filter_map f (reverse xs) ≡ reverse (filter_map f xs)
turned f [] = refl
turned {X} {Y} f (x ∷ xs) =
    ap (filter_map f) (reverse-append (x ∷ []) xs) ∙ filter_map-append f (reverse xs) (x ∷ [])
    ∙ ap (λ (ys : List Y). ys ++ filter_map f (x ∷ [])) (turned f xs) ∙ by_option (f x) refl (filter_map f xs)
  where
    by_option : (y : Option Y) → f x ≡ y → (ys : List Y) → reverse ys ++ filter_map f (x ∷ []) ≡ reverse (cons_option y ys)
    by_option None is ys = rw is (append-nil (reverse ys))
    by_option (Some y) is ys = rw is (sym (reverse-append (y ∷ []) ys))

pub places-enough : {Y : Type 0} (f : PlacedNode → Option Y) → ((at : PlacedNode) → has_region at ≡ false → f at ≡ None) → (nodes : List PlacedNode)
    → filter_map (given_at f nodes) (reverse (region_places nodes)) ≡ filter_map f (reverse nodes)
places-enough f none nodes = turned (given_at f nodes) (region_places nodes)
    ∙ ap reverse (all-given f none (slice_get nodes) 0 nodes (λ k. let same : 0 + k ≡ k = omega arith in ap (slice_get nodes) same)) ∙ sym (turned f nodes)

-- each place has a node
pub place-within : (first : ℕ) (nodes : List PlacedNode) (i place : ℕ) → slice_get (places_from first nodes) i ≡ Some place → place < first + length nodes
place-within first [] i place got = absurd (cc)
place-within first (at ∷ later) i place got = by_region (has_region at) i got (place-within (suc first) later)
  where
    by_region : (b : Bool) (i : ℕ) → slice_get (cond b (first ∷ places_from (suc first) later) (places_from (suc first) later)) i ≡ Some place
        → ((i p : ℕ) → slice_get (places_from (suc first) later) i ≡ Some p → p < suc first + length later) → place < first + suc (length later)
    by_region true zero is rest = let same : first ≡ place = cc in omega (arith, same)
    by_region true (suc i) is rest = let low = rest i place is in omega (arith, low)
    by_region false i is rest = let low = rest i place is in omega (arith, low)
