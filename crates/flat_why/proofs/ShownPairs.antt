-- Whether a session shows a viewport of a pair, as a flat list of its nodes and as the numbers of the nodes with a viewport say it.
use Rattle.std.proofs.Common.{ℕ, zero, suc, ◌+◌, ◌<◌, ◌≡◌, ◌≢◌, ◌⊎◌, inl, inr, refl, sym, ap, ◌∙◌, Bool, true, false, ◌||◌, List, [], ◌∷◌, ◌++◌, length, map}
use Rattle.std.proofs.Common.{get_or, cond, Option, Some, None, slice_get, arith}
use Rattle.std.specs.Prelude.{◌==◌}
use Rattle.std.specs.List.{All, list_any}
use Rattle.std.proofs.lemmas.Bool.{or_right}
use Rattle.std.proofs.lemmas.Bool.Decides.{eqb_tells}
use Rattle.std.proofs.lemmas.List.{append_assoc, get_or_at, get_or-map, length-append, length-map}
use Rattle.std.proofs.lemmas.List.Elements.{All-append}
use Rattle.std.proofs.lemmas.List.Folds.{list_any-append}
use Rattle.std.proofs.Math.Bool.{or-false, or_assoc}
use Rattle.flat_scene.specs.declared.trees.Children.{Children}
use Rattle.flat_scene.specs.declared.trees.Children.TheVariants.{Empty}
use Rattle.flat_scene.specs.declared.trees.Content.{Content}
use Rattle.flat_scene.specs.declared.trees.Content.TheVariants as content
use Rattle.flat_scene.specs.declared.trees.Tree.{Tree}
use Rattle.flat_scene.specs.Trees.{first, node_count}
use Rattle.flat_snap.specs.Flat.{FlatNode, flat_from, flat_nodes, is_viewport, rooted, viewport_places}
use Rattle.flat_join.specs.Distances.{leads_to}
use Rattle.flat_topology.specs.Shown.{is_shown_by, Shown, nodes_of, pair_in, pairs_in, state_of}
use Rattle.flat_topology.proofs.lemmas.Distinct.{In}
use Rattle.flat_join.proofs.lemmas.Rooted.{rooted-alone}

-- ---- a search

got : {X : Type 0} (xs : List X) (i : ℕ) (x d : X) → slice_get xs i ≡ Some x → (i < length xs) × (get_or xs i d ≡ x)
got [] i x d e = absurd (cc)
got (y ∷ xs) zero x d e = (omega arith, cc)
got (y ∷ xs) (suc i) x d e = let rest = got xs i x d e in (omega (arith, rest.0), rest.1)

-- ---- the viewports of a flat list

any-pair : (p : ℕ) (what : Option Content) → list_any (λ q. q == p) (pair_in what) ≡ leads_to p what
any-pair p None = refl
any-pair p (Some (content.Fill serial rgba w h)) = refl
any-pair p (Some (content.Image serial buffers index sample w h blend flip opacity)) = refl
any-pair p (Some (content.Viewport serial pair props)) = or-false (pair.0 == p)

any-flat : (p next : ℕ) (all : Children) → list_any (λ n. leads_to p n.content) (flat_from next all) ≡ list_any (λ q. q == p) (pairs_in all)
any-flat p next Empty = refl
any-flat p next (first serial scale turn place clip opacity hits what children rest) =
    let end : ℕ = next + 1 + node_count children in
    let test : FlatNode → Bool = λ n. leads_to p n.content in
    let here : Bool = leads_to p what in
    let below : Bool = list_any (λ q. q == p) (pairs_in children) in
    let after : Bool = list_any (λ q. q == p) (pairs_in rest) in
    let left : list_any test (flat_from (next + 1) children ++ flat_from end rest) ≡ (below || after)
    = list_any-append test (flat_from (next + 1) children) (flat_from end rest)
    ∙ ap (λ (b : Bool). b || list_any test (flat_from end rest)) (any-flat p (next + 1) children)
    ∙ ap (λ (b : Bool). below || b) (any-flat p end rest) in
    let right : list_any (λ q. q == p) ((pair_in what ++ pairs_in children) ++ pairs_in rest) ≡ ((here || below) || after)
    = list_any-append (λ q. q == p) (pair_in what ++ pairs_in children) (pairs_in rest)
    ∙ ap (λ (b : Bool). b || after) (list_any-append (λ q. q == p) (pair_in what) (pairs_in children) ∙ ap (λ (b : Bool). b || below) (any-pair p what)) in
    ap (λ (b : Bool). here || b) left ∙ sym (or_assoc here below after) ∙ sym right

pub shown-flat : (shown : Shown) (p s : ℕ) (tree shared : Tree) → tree ≡ shared → Some shared ≡ state_of shown s
    → list_any (λ n. leads_to p n.content) (flat_nodes tree) ≡ is_shown_by shown p s
shown-flat shown p s tree shared same state =
    any-flat p 0 (rooted tree.root) ∙ ap (λ (all : Children). list_any (λ q. q == p) (pairs_in all)) (rooted-alone tree.root)
    ∙ ap (λ (t : Tree). list_any (λ q. q == p) (pairs_in (nodes_of (Some t)))) same
    ∙ ap (λ (o : Option Tree). list_any (λ q. q == p) (pairs_in (nodes_of o))) state

-- ---- the numbers of the viewports among some contents

-- whether the content at a place is a viewport of a pair
abbrev pub leads_at : ℕ → List (Option Content) → ℕ → Bool
leads_at p all place = leads_to p (get_or all place None)

only-viewports : (p : ℕ) (what : Option Content) → is_viewport what ≡ false → leads_to p what ≡ false
only-viewports p None none = refl
only-viewports p (Some (content.Fill serial rgba w h)) none = refl
only-viewports p (Some (content.Image serial buffers index sample w h blend flip opacity)) none = refl
only-viewports p (Some (content.Viewport serial pair props)) none = absurd (cc)

-- no content but those at the places is a viewport of a pair
any-places : (p : ℕ) (before contents : List (Option Content))
    → list_any (leads_at p (before ++ contents)) (viewport_places (length before) contents) ≡ list_any (leads_to p) contents
any-places p before [] = refl
any-places p before (what ∷ contents) =
    let place : ℕ = length before in
    let once : (before ++ what ∷ []) ++ contents ≡ before ++ what ∷ contents = append_assoc before (what ∷ []) contents in
    let size : length (before ++ what ∷ []) ≡ place + 1 = length-append before (what ∷ []) in
    let here : leads_at p (before ++ what ∷ contents) place ≡ leads_to p what = ap (leads_to p) (get_or_at before what contents None place refl) in
    let later : list_any (leads_at p (before ++ what ∷ contents)) (viewport_places (place + 1) contents) ≡ list_any (leads_to p) contents
    = rw (once, size) at (any-places p (before ++ what ∷ []) contents) in
    by_test (is_viewport what) refl here later
  where
    by_test : (b : Bool) → is_viewport what ≡ b → leads_at p (before ++ what ∷ contents) (length before) ≡ leads_to p what
        → list_any (leads_at p (before ++ what ∷ contents)) (viewport_places (length before + 1) contents) ≡ list_any (leads_to p) contents
        → list_any (leads_at p (before ++ what ∷ contents))
        (cond b (length before ∷ viewport_places (length before + 1) contents) (viewport_places (length before + 1) contents))
        ≡ (leads_to p what || list_any (leads_to p) contents)
    by_test true is here later = rw (here, later) refl
    by_test false is here later = rw (only-viewports p what is) later

abbrev pub contents_of : List FlatNode → List (Option Content)
contents_of = map (λ n. n.content)

any-contents : (p : ℕ) (ns : List FlatNode) → list_any (leads_to p) (contents_of ns) ≡ list_any (λ n. leads_to p n.content) ns
any-contents p [] = refl
any-contents p (n ∷ ns) = ap (λ (b : Bool). leads_to p n.content || b) (any-contents p ns)

-- whether a node is a viewport of a pair, is seen at the places of the viewports
pub any-viewport : (p : ℕ) (ns : List FlatNode) → list_any (leads_at p (contents_of ns)) (viewport_places 0 (contents_of ns))
    ≡ list_any (λ n. leads_to p n.content) ns
any-viewport p ns = any-places p [] (contents_of ns) ∙ any-contents p ns

pub leads-there : (p : ℕ) (ns : List FlatNode) (place : ℕ) (n : FlatNode) → slice_get ns place ≡ Some n
    → leads_at p (contents_of ns) place ≡ leads_to p n.content
leads-there p ns place n at = let g = got ns place n n at in
    ap (leads_to p) (get_or-map (λ m. m.content) ns place n None g.0 ∙ ap (λ (m : FlatNode). m.content) g.1)

-- the places are those of nodes
places-within : (next : ℕ) (contents : List (Option Content)) → All (λ place. place < next + length contents) (viewport_places next contents)
places-within next [] = λ k d low. absurd (omega (arith, low))
places-within next (what ∷ contents) = by_test (is_viewport what) (rw (sym (next-size next (length contents))) at (places-within (next + 1) contents))
  where
    next-size : (n m : ℕ) → n + suc m ≡ n + 1 + m
    next-size n m = omega arith

    by_test : (b : Bool) → All (λ place. place < next + suc (length contents)) (viewport_places (next + 1) contents)
        → All (λ place. place < next + suc (length contents)) (cond b (next ∷ viewport_places (next + 1) contents) (viewport_places (next + 1) contents))
    by_test true later =
        All-append (λ place. place < next + suc (length contents)) (next ∷ []) (viewport_places (next + 1) contents)
        (λ k d low. let first : k ≡ 0 = omega (arith, low) in rw first (omega arith)) later
    by_test false later = later

pub viewport-within : (ns : List FlatNode) (i d : ℕ) → i < length (viewport_places 0 (contents_of ns))
    → get_or (viewport_places 0 (contents_of ns)) i d < length ns
viewport-within ns i d h = omega (arith, places-within 0 (contents_of ns) i d h, length-map ns (λ (n : FlatNode). n.content))

-- ---- a number that stands in a list is found there
pub found-in : (x : ℕ) (xs : List ℕ) → list_any (λ y. y == x) xs ≡ true → In x xs
found-in x [] e = absurd (cc)
found-in x (y ∷ ys) e = by_test (eqb_tells y x) e (found-in x ys)
  where
    by_test : ((◌≡◌ (y == x) true) × (y ≡ x)) ⊎ ((◌≡◌ (y == x) false) × (y ≢ x)) → ((y == x) || list_any (λ z. z == x) ys) ≡ true
        → (list_any (λ z. z == x) ys ≡ true → In x ys) → In x (y ∷ ys)
    by_test (inl same) found later = inl (sym same.1)
    by_test (inr apart) found later = inr (later (rw apart.0 at found))

pub in-found : (x : ℕ) (xs : List ℕ) → In x xs → list_any (λ y. y == x) xs ≡ true
in-found x [] on = absurd on
in-found x (y ∷ ys) (inl same) = by_test (eqb_tells y x)
  where
    by_test : ((◌≡◌ (y == x) true) × (y ≡ x)) ⊎ ((◌≡◌ (y == x) false) × (y ≢ x)) → ((y == x) || list_any (λ z. z == x) ys) ≡ true
    by_test (inl here) = rw here.0 refl
    by_test (inr apart) = absurd (apart.1 (sym same))
in-found x (y ∷ ys) (inr on) = or_right (y == x) (list_any (λ z. z == x) ys) (in-found x ys on)
