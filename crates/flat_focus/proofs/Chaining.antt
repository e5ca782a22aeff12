-- The chain after every list of events.
use Rattle.std.proofs.Common.{◌≡◌, ◌==◌, refl, sym, ap, ◌∙◌, ◌⊎◌, inl, inr, Bool, true, false, ◌||◌, cond, List, [], ◌∷◌, reverse, Option, Some, None}
use Rattle.std.specs.Prelude.{find}
use Rattle.std.specs.Option.{option_map_or, option_or}
use Rattle.std.proofs.lemmas.Bool.{eq-eqb, and_parts, or_cases}
use Rattle.std.proofs.lemmas.List.Folds.{list_any-append}
use Rattle.std.proofs.Math.Bool.{or-true}
use Rattle.flat_base.specs.declared.ids.SessionNo.{SessionNo}
use Rattle.flat_scene.specs.declared.frames.ViewNode.{ViewNode}
use Rattle.flat_scene.specs.ViewTrees.{is_node}
use Rattle.flat_scene.specs.ViewShapes.{is_tree}
use Rattle.flat_focus.specs.Chains.{root_of, path_in, path_to, chain_in, stands_on, is_granted}
use Rattle.flat_focus.specs.Steps.{framed, asked}
use Rattle.flat_focus.specs.Events.{FocusEvent, frame, ask, nodes_after, chain_after}
use Rattle.flat_focus.specs.Laws.{CallsFollow, IsChain, ChainsArePaths, are_trees, NodesGive}
use Rattle.flat_focus.proofs.Climbing.{any-reverse}
use Rattle.flat_focus.proofs.Paths.{paths-lead}

-- ---- the calls

pub calls-follow : CallsFollow
calls-follow sessions [] = refl
calls-follow sessions (frame nodes ∷ before) = ap (framed nodes) (calls-follow sessions before)
calls-follow sessions (ask by of ∷ before) = ap (asked by of) (calls-follow sessions before)

-- ---- chains

found-passes : {A : Type 0} (test : A → Bool) (xs : List A) (x : A) → find test xs ≡ Some x → test x ≡ true
found-passes test [] x is = absurd (cc)
found-passes test (y ∷ xs) x is = by_test (test y) refl (found-passes test xs x)
  where
    by_test : (b : Bool) → test y ≡ b → (find test xs ≡ Some x → test x ≡ true) → test x ≡ true
    by_test true e later = let same : y ≡ x = (let first : Some y ≡ Some x = rw e at is in cc) in ap test (sym same) ∙ e
    by_test false e later = later (rw e at is)

root-is-node : (nodes : List ViewNode) (r : SessionNo) → root_of nodes ≡ Some r → is_node nodes r ≡ true
root-is-node [] r is = absurd (cc)
root-is-node (node ∷ nodes) r is = let same : node.session ≡ r = cc in let test : (node.session.0 == r.0) ≡ true =
    eq-eqb node.session.0 r.0 (ap (λ (s : SessionNo). s.0) same) in rw test refl

chain-to : (nodes : List ViewNode) (s : SessionNo) → is_tree nodes ≡ true → is_node nodes s ≡ true → IsChain nodes (path_to nodes s)
chain-to nodes s tree there = let lead = paths-lead nodes s tree there in record { path = lead.path; root = lead.root }

-- after a frame
chain-framed : (nodes : List ViewNode) (chain : List SessionNo) → is_tree nodes ≡ true → IsChain nodes (chain_in nodes chain)
chain-framed nodes chain tree = by_found (find (is_node nodes) (reverse chain)) refl (root_of nodes) refl
  where
    by_found : (found : Option SessionNo) → find (is_node nodes) (reverse chain) ≡ found → (root : Option SessionNo) → root_of nodes ≡ root
        → IsChain nodes (option_map_or (path_to nodes) (option_or found root) [])
    by_found (Some s) is root at = chain-to nodes s tree (found-passes (is_node nodes) (reverse chain) s is)
    by_found None is (Some r) at = chain-to nodes r tree (root-is-node nodes r at)
    by_found None is None at = record { path = refl; root = sym at }

-- the list from the root to what is no node is empty
no-path : (ns : List ViewNode) (s : SessionNo) → is_node ns s ≡ false → path_in ns s ≡ []
no-path [] s none = refl
no-path (node ∷ earlier) s none = by_test (node.session.0 == s.0) refl (no-path earlier s)
  where
    by_test : (b : Bool) → (node.session.0 == s.0) ≡ b → (is_node earlier s ≡ false → path_in earlier s ≡ []) → path_in (node ∷ earlier) s ≡ []
    by_test true e later = absurd (let h : true ≡ false = rw e at none in cc)
    by_test false e later = rw e (later (rw e at none))

-- the focus is given to nodes alone
given-to-node : (nodes : List ViewNode) (by of : SessionNo) → is_granted nodes by of ≡ true → is_node nodes of ≡ true
given-to-node nodes by of given = by_test (is_node nodes of) refl
  where
    by_test : (b : Bool) → is_node nodes of ≡ b → is_node nodes of ≡ true
    by_test true e = e
    by_test false e =
        let nowhere : path_to nodes of ≡ [] = no-path (reverse nodes) of (any-reverse (λ (node : ViewNode). node.session.0 == of.0) nodes ∙ e) in
        absurd (let h : false ≡ true = rw nowhere at given in cc)

-- who stands on such a list is a node
on-path : (ns : List ViewNode) (s t : SessionNo) → stands_on (path_in ns s) t ≡ true → is_node ns t ≡ true
on-path [] s t on = absurd (cc)
on-path (node ∷ earlier) s t on = by_test (node.session.0 == s.0) refl (on-path earlier)
  where
    later_on : (b : Bool) → is_node earlier t ≡ true → (b || is_node earlier t) ≡ true
    later_on b h = rw h (or-true b)

    by_parent : (parent : Option SessionNo) → ((p t : SessionNo) → stands_on (path_in earlier p) t ≡ true → is_node earlier t ≡ true)
        → (stands_on (option_map_or (λ p. path_in earlier p) parent []) t || ((node.session.0 == t.0) || false)) ≡ true → is_node (node ∷ earlier) t ≡ true
    by_parent None up h = by_or (or_cases (node.session.0 == t.0) false h)
      where
        by_or : ((node.session.0 == t.0) ≡ true) ⊎ (false ≡ true) → is_node (node ∷ earlier) t ≡ true
        by_or (inl e) = rw e refl
        by_or (inr e) = absurd (cc)
    by_parent (Some p) up h = by_or (or_cases (stands_on (path_in earlier p) t) ((node.session.0 == t.0) || false) h)
      where
        by_or : (stands_on (path_in earlier p) t ≡ true) ⊎ (((node.session.0 == t.0) || false) ≡ true) → is_node (node ∷ earlier) t ≡ true
        by_or (inl e) = later_on (node.session.0 == t.0) (up p t e)
        by_or (inr e) = by_own (or_cases (node.session.0 == t.0) false e)
          where
            by_own : ((node.session.0 == t.0) ≡ true) ⊎ (false ≡ true) → is_node (node ∷ earlier) t ≡ true
            by_own (inl e) = rw e refl
            by_own (inr e) = absurd (cc)

    by_test : (b : Bool) → (node.session.0 == s.0) ≡ b → ((p t : SessionNo) → stands_on (path_in earlier p) t ≡ true → is_node earlier t ≡ true)
        → is_node (node ∷ earlier) t ≡ true
    by_test true e up =
        let spread = list_any-append (λ (one : SessionNo). one.0 == t.0) (option_map_or (λ p. path_in earlier p) node.parent []) (node.session ∷ []) in
        by_parent node.parent up (sym spread ∙ (rw e at on))
    by_test false e up = later_on (node.session.0 == t.0) (up s t (rw e at on))

pub nodes-give : NodesGive
nodes-give nodes by of given =
    (sym (any-reverse (λ (node : ViewNode). node.session.0 == by.0) nodes) ∙ on-path (reverse nodes) of by given, given-to-node nodes by of given)

trees-after : (events : List FocusEvent) → are_trees events ≡ true → is_tree (nodes_after events) ≡ true
trees-after [] trees = refl
trees-after (frame nodes ∷ before) trees = (and_parts (is_tree nodes) (are_trees before) trees).0
trees-after (ask by of ∷ before) trees = trees-after before trees

chain-asked : (nodes : List ViewNode) (by of : SessionNo) (chain : List SessionNo) → is_tree nodes ≡ true → IsChain nodes chain
    → IsChain nodes (cond (is_granted nodes by of) (path_to nodes of) chain)
chain-asked nodes by of chain tree is = by_test (is_granted nodes by of) refl
  where
    by_test : (b : Bool) → is_granted nodes by of ≡ b → IsChain nodes (cond b (path_to nodes of) chain)
    by_test true e = chain-to nodes of tree (given-to-node nodes by of e)
    by_test false e = is

pub chains-are-paths : ChainsArePaths
chains-are-paths [] trees = record { path = refl; root = refl }
chains-are-paths (frame nodes ∷ before) trees = chain-framed nodes (chain_after before) (and_parts (is_tree nodes) (are_trees before) trees).0
chains-are-paths (ask by of ∷ before) trees = chain-asked (nodes_after before) by of (chain_after before) (trees-after before trees)
    (chains-are-paths before trees)
