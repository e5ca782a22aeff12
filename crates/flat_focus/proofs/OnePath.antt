-- There is one path to a node.
use Rattle.std.proofs.Common.{◌≡◌, ◌==◌, refl, sym, ap, ◌∙◌, ◌⊎◌, inl, inr, Bool, true, false, not, ◌&&◌, List, [], ◌∷◌, ◌++◌, reverse, Option, Some, None}
use Rattle.std.proofs.Common.{append_assoc, append-nil}
use Rattle.std.specs.Option.{option_map_or}
use Rattle.std.proofs.lemmas.Bool.{and_parts, not-true, or_cases}
use Rattle.std.proofs.Math.Bool.{or-true}
use Rattle.std.proofs.lemmas.List.{reverse-append}
use Rattle.flat_base.specs.declared.ids.SessionNo.{SessionNo}
use Rattle.flat_scene.specs.declared.frames.ViewNode.{ViewNode}
use Rattle.flat_scene.specs.ViewTrees.{is_node}
use Rattle.flat_scene.specs.ViewShapes.{is_below, is_tree_in}
use Rattle.flat_focus.specs.Chains.{path_in}
use Rattle.flat_focus.specs.Laws.{same_session, is_child, is_path_below, first_of, last_of, PathsAreOne}
use Rattle.flat_focus.proofs.Paths.{numbered, path-turned}

-- ---- a path from its end

-- whether the sessions are a path that ends at the root
abbrev up_path : List ViewNode → List SessionNo → Bool
up_path ns [] = true
up_path ns (s ∷ above) = is_child ns (first_of above) s && up_path ns above

-- a list turned round, before another
abbrev onto : List SessionNo → List SessionNo → List SessionNo
onto [] done = done
onto (x ∷ xs) done = onto xs (x ∷ done)

turned-path : (ns : List ViewNode) (xs done : List SessionNo) → is_path_below ns (first_of done) xs ≡ true → up_path ns done ≡ true
    → up_path ns (onto xs done) ≡ true
turned-path ns [] done down up = up
turned-path ns (x ∷ xs) done down up =
    let both = and_parts (is_child ns (first_of done) x) (is_path_below ns (Some x) xs) down in
    turned-path ns xs (x ∷ done) both.1 (rw both.0 up)

turned-last : (xs done : List SessionNo) → first_of (onto xs done) ≡ last_of (first_of done) xs
turned-last [] done = refl
turned-last (x ∷ xs) done = turned-last xs (x ∷ done)

turned-back : (xs done : List SessionNo) → reverse (onto xs done) ≡ reverse done ++ xs
turned-back [] done = sym (append-nil (reverse done))
turned-back (x ∷ xs) done = turned-back xs (x ∷ done) ∙ ap (λ (t : List SessionNo). t ++ xs) (reverse-append (x ∷ []) done)
    ∙ append_assoc (reverse done) (x ∷ []) xs

-- ---- nodes

same-parent : (a b : Option SessionNo) → same_session a b ≡ true → a ≡ b
same-parent None None h = refl
same-parent None (Some b) h = absurd (cc)
same-parent (Some a) None h = absurd (cc)
same-parent (Some a) (Some b) h = ap Some (numbered a b h)

-- a child is a node
child-node : (ns : List ViewNode) (above : Option SessionNo) (s : SessionNo) → is_child ns above s ≡ true → is_node ns s ≡ true
child-node [] above s h = absurd (cc)
child-node (node ∷ ns) above s h = by_or (or_cases (node.session.0 == s.0 && same_session node.parent above) (is_child ns above s) h) (child-node ns above s)
  where
    by_or : ((node.session.0 == s.0 && same_session node.parent above) ≡ true) ⊎ (is_child ns above s ≡ true)
        → (is_child ns above s ≡ true → is_node ns s ≡ true) → is_node (node ∷ ns) s ≡ true
    by_or (inl e) later = rw ((and_parts (node.session.0 == s.0) (same_session node.parent above) e).0) refl
    by_or (inr e) later = rw (later e) (or-true (node.session.0 == s.0))

-- the parts of a tree
tree-new : (node : ViewNode) (earlier : List ViewNode) → is_tree_in (node ∷ earlier) ≡ true → is_node earlier node.session ≡ false
tree-new node earlier tree =
    not-true (is_node earlier node.session) (and_parts (not (is_node earlier node.session)) (is_below node.parent earlier && is_tree_in earlier) tree).0

tree-below : (node : ViewNode) (earlier : List ViewNode) → is_tree_in (node ∷ earlier) ≡ true → is_below node.parent earlier ≡ true
tree-below node earlier tree = (and_parts (is_below node.parent earlier) (is_tree_in earlier)
    (and_parts (not (is_node earlier node.session)) (is_below node.parent earlier && is_tree_in earlier) tree).1).0

tree-rest : (node : ViewNode) (earlier : List ViewNode) → is_tree_in (node ∷ earlier) ≡ true → is_tree_in earlier ≡ true
tree-rest node earlier tree = (and_parts (is_below node.parent earlier) (is_tree_in earlier)
    (and_parts (not (is_node earlier node.session)) (is_below node.parent earlier && is_tree_in earlier) tree).1).1

-- a child of the nodes before, where the last node is another
child-earlier : (node : ViewNode) (earlier : List ViewNode) (above : Option SessionNo) (s : SessionNo) → (node.session.0 == s.0) ≡ false
    → is_child (node ∷ earlier) above s ≡ true → is_child earlier above s ≡ true
child-earlier node earlier above s other h = rw other at h

-- who is a node before is another than the last one
apart : (node : ViewNode) (earlier : List ViewNode) (s : SessionNo) → is_tree_in (node ∷ earlier) ≡ true → is_node earlier s ≡ true
    → (node.session.0 == s.0) ≡ false
apart node earlier s tree there = by_test (node.session.0 == s.0) refl
  where
    by_test : (b : Bool) → (node.session.0 == s.0) ≡ b → (node.session.0 == s.0) ≡ false
    by_test true e = absurd (let same : node.session ≡ s = numbered node.session s e in let h : is_node earlier node.session ≡ true = ap (is_node earlier) same
        ∙ there in let none = tree-new node earlier tree in cc)
    by_test false e = e

-- a parent is a node
parent-node : (ns : List ViewNode) (p s : SessionNo) → is_tree_in ns ≡ true → is_child ns (Some p) s ≡ true → is_node ns p ≡ true
parent-node [] p s tree h = absurd (cc)
parent-node (node ∷ earlier) p s tree h =
    by_or (or_cases (node.session.0 == s.0 && same_session node.parent (Some p)) (is_child earlier (Some p) s) h)
    (parent-node earlier p s (tree-rest node earlier tree))
  where
    by_or : ((node.session.0 == s.0 && same_session node.parent (Some p)) ≡ true) ⊎ (is_child earlier (Some p) s ≡ true)
        → (is_child earlier (Some p) s ≡ true → is_node earlier p ≡ true) → is_node (node ∷ earlier) p ≡ true
    by_or (inl e) later =
        let parent : node.parent ≡ Some p = same-parent node.parent (Some p) (and_parts (node.session.0 == s.0) (same_session node.parent (Some p)) e).1 in
        let there : is_node earlier p ≡ true = ap (λ (o : Option SessionNo). is_below o earlier) (sym parent) ∙ tree-below node earlier tree in
        rw there (or-true (node.session.0 == p.0))
    by_or (inr e) later = rw (later e) (or-true (node.session.0 == p.0))

-- a path to a node before stays among the nodes before
stays : (node : ViewNode) (earlier : List ViewNode) → is_tree_in (node ∷ earlier) ≡ true → (above : List SessionNo) (s : SessionNo) → is_node earlier s ≡ true
    → up_path (node ∷ earlier) (s ∷ above) ≡ true
    → up_path earlier (s ∷ above) ≡ true
stays node earlier tree [] s there up =
    let here = child-earlier node earlier None s (apart node earlier s tree there) (and_parts (is_child (node ∷ earlier) None s) true up).0 in rw here refl
stays node earlier tree (p ∷ above) s there up =
    let both = and_parts (is_child (node ∷ earlier) (Some p) s) (up_path (node ∷ earlier) (p ∷ above)) up in
    let here : is_child earlier (Some p) s ≡ true = child-earlier node earlier (Some p) s (apart node earlier s tree there) both.0 in
    rw here (stays node earlier tree above p (parent-node earlier p s (tree-rest node earlier tree) here) both.1)

-- ---- one path

reverse-cons : (s : SessionNo) (above : List SessionNo) → reverse (s ∷ above) ≡ reverse above ++ s ∷ []
reverse-cons s above = reverse-append (s ∷ []) above

-- to the last node, through its parent
own-way : (node : ViewNode) (earlier : List ViewNode) → is_tree_in (node ∷ earlier) ≡ true → (above : List SessionNo) (parent : Option SessionNo)
    → parent ≡ first_of above → is_below parent earlier ≡ true
    → up_path (node ∷ earlier) above ≡ true → ((p : SessionNo) (rest : List SessionNo) → up_path earlier (p ∷ rest) ≡ true
    → reverse (p ∷ rest) ≡ path_in earlier p)
    → reverse above ≡ option_map_or (λ p. path_in earlier p) parent []
own-way node earlier tree [] None is below up one = refl
own-way node earlier tree [] (Some p) is below up one = absurd (cc)
own-way node earlier tree (q ∷ above) None is below up one = absurd (cc)
own-way node earlier tree (q ∷ above) (Some p) is below up one =
    let same : p ≡ q = cc in
    let there : is_node earlier q ≡ true = ap (is_node earlier) (sym same) ∙ below in
    one q above (stays node earlier tree above q there up) ∙ ap (path_in earlier) (sym same)

one-way : (ns : List ViewNode) → is_tree_in ns ≡ true → (s : SessionNo) (above : List SessionNo) → up_path ns (s ∷ above) ≡ true
    → reverse (s ∷ above) ≡ path_in ns s
one-way [] tree s above up = absurd (cc)
one-way (node ∷ earlier) tree s above up = by_test (node.session.0 == s.0) refl (one-way earlier (tree-rest node earlier tree))
  where
    both : (is_child (node ∷ earlier) (first_of above) s ≡ true) × (up_path (node ∷ earlier) above ≡ true)
    both = and_parts (is_child (node ∷ earlier) (first_of above) s) (up_path (node ∷ earlier) above) up

    by_or : node.session ≡ s → ((node.session.0 == s.0 && same_session node.parent (first_of above)) ≡ true) ⊎ (is_child earlier (first_of above) s ≡ true)
        → node.parent ≡ first_of above
    by_or same (inl e) = same-parent node.parent (first_of above) (and_parts (node.session.0 == s.0) (same_session node.parent (first_of above)) e).1
    by_or same (inr e) = absurd (let h : is_node earlier node.session ≡ true = ap (is_node earlier) same ∙ child-node earlier (first_of above) s e in
        let none = tree-new node earlier tree in cc)

    by_test : (b : Bool) → (node.session.0 == s.0) ≡ b → ((p : SessionNo) (rest : List SessionNo) → up_path earlier (p ∷ rest) ≡ true
        → reverse (p ∷ rest) ≡ path_in earlier p)
        → reverse (s ∷ above) ≡ path_in (node ∷ earlier) s
    by_test true e one =
        let same : node.session ≡ s = numbered node.session s e in
        let parent = by_or same (or_cases (node.session.0 == s.0 && same_session node.parent (first_of above)) (is_child earlier (first_of above) s) both.0) in
        let way = own-way node earlier tree above node.parent parent (tree-below node earlier tree) both.1 one in
        rw e (reverse-cons s above ∙ ap (λ (t : List SessionNo). t ++ s ∷ []) way
        ∙ ap (λ (t : SessionNo). option_map_or (λ p. path_in earlier p) node.parent [] ++ t ∷ []) (sym same))
    by_test false e one =
        let there : is_node earlier s ≡ true = child-node earlier (first_of above) s (child-earlier node earlier (first_of above) s e both.0) in
        rw e (one s above (stays node earlier tree above s there up))

-- what is on a list that isn't empty
by-first : (ns : List ViewNode) → is_tree_in ns ≡ true → (s : SessionNo) (ys : List SessionNo) → first_of ys ≡ Some s → up_path ns ys ≡ true
    → reverse ys ≡ path_in ns s
by-first ns tree s [] is up = absurd (cc)
by-first ns tree s (t ∷ above) is up = let same : t ≡ s = cc in one-way ns tree t above up ∙ ap (path_in ns) same

pub paths-are-one : PathsAreOne
paths-are-one nodes s path tree is end =
    let up = turned-path (reverse nodes) path [] (path-turned nodes None path ∙ is) refl in
    sym (turned-back path []) ∙ by-first (reverse nodes) tree s (onto path []) (turned-last path [] ∙ end) up
