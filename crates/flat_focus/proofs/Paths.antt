-- The list from the root to a node is a path.
use Rattle.std.proofs.Common.{ℕ, ◌≡◌, ◌==◌, refl, sym, ap, ◌∙◌, subst, Bool, true, false, not, ◌&&◌, List, [], ◌∷◌, ◌++◌, reverse, Option, Some, None}
use Rattle.std.proofs.lemmas.Bool.{eq-eqb, eqb-true, and_parts}
use Rattle.std.proofs.Math.Bool.{or-true}
use Rattle.std.proofs.lemmas.List.{reverse-append, reverse-reverse}
use Rattle.flat_base.specs.declared.ids.SessionNo.{SessionNo}
use Rattle.flat_scene.specs.declared.frames.ViewNode.{ViewNode}
use Rattle.flat_scene.specs.ViewTrees.{is_node}
use Rattle.flat_scene.specs.ViewShapes.{is_below, is_tree_in}
use Rattle.flat_focus.specs.Chains.{root_of, path_in, path_to}
use Rattle.flat_focus.specs.Laws.{same_session, is_child, is_path_below, first_of, last_of, PathsLead}
use Rattle.flat_focus.proofs.Climbing.{path_for, any-reverse}

-- a session is its number
pub numbered : (a b : SessionNo) → (a.0 == b.0) ≡ true → a ≡ b
numbered a b e = let f : ℕ → SessionNo = λ n. record { 0 = n } in ap f (eqb-true a.0 b.0 e)

pub same_number : (n : ℕ) → (n == n) ≡ true
same_number n = eq-eqb n n refl

-- ---- nodes

child-more : (node : ViewNode) (ns : List ViewNode) (above : Option SessionNo) (s : SessionNo) → is_child ns above s ≡ true
    → is_child (node ∷ ns) above s ≡ true
child-more node ns above s h = rw h (or-true (node.session.0 == s.0 && same_session node.parent above))

-- a node is a child of its parent
child-own : (node : ViewNode) (ns : List ViewNode) (above : Option SessionNo) → node.parent ≡ above → is_child (node ∷ ns) above node.session ≡ true
child-own node ns None e = rw (same_number node.session.0, e) refl
child-own node ns (Some p) e = rw (same_number node.session.0, e, same_number p.0) refl

-- where there is a node, there is a first one
rooted : (ns : List ViewNode) (s : SessionNo) → is_node ns s ≡ true → (r : SessionNo) × (root_of ns ≡ Some r)
rooted [] s h = absurd (cc)
rooted (node ∷ ns) s h = (node.session, refl)

root-end : (ns more : List ViewNode) (r : SessionNo) → root_of ns ≡ Some r → root_of (ns ++ more) ≡ Some r
root-end [] more r e = absurd (cc)
root-end (node ∷ ns) more r e = e

-- the root stays where a node comes behind others
pub root-more : (node : ViewNode) (earlier : List ViewNode) (s : SessionNo) → is_node earlier s ≡ true
    → root_of (reverse (node ∷ earlier)) ≡ root_of (reverse earlier)
root-more node earlier s h =
    let found = rooted (reverse earlier) s (any-reverse (λ (one : ViewNode). one.session.0 == s.0) earlier ∙ h) in
    ap root_of (reverse-append (node ∷ []) earlier) ∙ root-end (reverse earlier) (node ∷ []) found.0 found.1 ∙ sym found.1

-- ---- paths

path-more : (node : ViewNode) (ns : List ViewNode) (above : Option SessionNo) (xs : List SessionNo) → is_path_below ns above xs ≡ true
    → is_path_below (node ∷ ns) above xs ≡ true
path-more node ns above [] h = refl
path-more node ns above (s ∷ xs) h =
    let both = and_parts (is_child ns above s) (is_path_below ns (Some s) xs) h in
    rw (child-more node ns above s both.0) (path-more node ns (Some s) xs both.1)

path-end : (ns : List ViewNode) (above : Option SessionNo) (xs : List SessionNo) (s : SessionNo) → is_path_below ns above xs ≡ true
    → is_child ns (last_of above xs) s ≡ true
    → is_path_below ns above (xs ++ s ∷ []) ≡ true
path-end ns above [] s p c = rw c refl
path-end ns above (x ∷ xs) s p c = let both = and_parts (is_child ns above x) (is_path_below ns (Some x) xs) p in rw both.0 (path-end ns (Some x) xs s both.1 c)

last-end : (above : Option SessionNo) (xs : List SessionNo) (s : SessionNo) → last_of above (xs ++ s ∷ []) ≡ Some s
last-end above [] s = refl
last-end above (x ∷ xs) s = last-end (Some x) xs s

first-end : (xs more : List SessionNo) (r : SessionNo) → first_of xs ≡ Some r → first_of (xs ++ more) ≡ Some r
first-end [] more r e = absurd (cc)
first-end (x ∷ xs) more r e = e

-- The same of nodes that stand last first.
pub record Leads (ns : List ViewNode) (s : SessionNo) (way : List SessionNo) : Type 0 where
  pub path : is_path_below ns None way ≡ true
  pub root : first_of way ≡ root_of (reverse ns)
  pub end : last_of None way ≡ Some s

-- to a node through its parent
own_path : (node : ViewNode) (earlier : List ViewNode) (parent : Option SessionNo) → node.parent ≡ parent → is_below parent earlier ≡ true
    → ((p : SessionNo) → is_node earlier p ≡ true → Leads earlier p (path_in earlier p))
    → Leads (node ∷ earlier) node.session (path_for earlier parent ++ node.session ∷ [])
own_path node [] None is below up = record { path = rw (child-own node [] None is) refl; root = refl; end = refl }
own_path node (other ∷ earlier) None is below up = absurd (cc)
own_path node earlier (Some p) is below up =
    let lead = up p below in
    let root = rooted (reverse earlier) p (any-reverse (λ (one : ViewNode). one.session.0 == p.0) earlier ∙ below) in
    let child : is_child (node ∷ earlier) (last_of None (path_in earlier p)) node.session ≡ true
    = subst (λ (a : Option SessionNo). is_child (node ∷ earlier) a node.session ≡ true) (sym lead.end) (child-own node earlier (Some p) is) in
    record {
      path = path-end (node ∷ earlier) None (path_in earlier p) node.session (path-more node earlier None (path_in earlier p) lead.path) child;
      root = first-end (path_in earlier p) (node.session ∷ []) root.0 (lead.root ∙ root.1) ∙ sym root.1 ∙ sym (root-more node earlier p below);
      end = last-end None (path_in earlier p) node.session;
    }

pub leads : (ns : List ViewNode) (s : SessionNo) → is_tree_in ns ≡ true → is_node ns s ≡ true → Leads ns s (path_in ns s)
leads [] s tree there = absurd (cc)
leads (node ∷ earlier) s tree there = by_test (node.session.0 == s.0) refl (λ p. leads earlier p parts.1)
  where
    parts : (is_below node.parent earlier ≡ true) × (is_tree_in earlier ≡ true)
    parts = and_parts (is_below node.parent earlier) (is_tree_in earlier)
        (and_parts (not (is_node earlier node.session)) (is_below node.parent earlier && is_tree_in earlier) tree).1

    by_test : (b : Bool) → (node.session.0 == s.0) ≡ b → ((p : SessionNo) → is_node earlier p ≡ true → Leads earlier p (path_in earlier p))
        → Leads (node ∷ earlier) s (path_in (node ∷ earlier) s)
    by_test true e up =
        let own = own_path node earlier node.parent refl parts.0 up in
        rw e (subst (λ (t : SessionNo). Leads (node ∷ earlier) t (path_for earlier node.parent ++ node.session ∷ [])) (numbered node.session s e) own)
    by_test false e up =
        let there_too : is_node earlier s ≡ true = rw e at there in
        let lead = up s there_too in
        rw e (record {
          path = path-more node earlier None (path_in earlier s) lead.path;
          root = lead.root ∙ sym (root-more node earlier s there_too);
          end = lead.end;
        })

-- ---- nodes in their order

pub path-turned : (nodes : List ViewNode) (above : Option SessionNo) (xs : List SessionNo)
    → is_path_below (reverse nodes) above xs ≡ is_path_below nodes above xs
path-turned nodes above [] = refl
path-turned nodes above (s ∷ xs) =
    rw (any-reverse (λ (node : ViewNode). node.session.0 == s.0 && same_session node.parent above) nodes)
    (ap (λ (b : Bool). is_child nodes above s && b) (path-turned nodes (Some s) xs))

pub paths-lead : PathsLead
paths-lead nodes s tree there =
    let lead = leads (reverse nodes) s tree (any-reverse (λ (one : ViewNode). one.session.0 == s.0) nodes ∙ there) in
    record { path = sym (path-turned nodes None (path_to nodes s)) ∙ lead.path; root = lead.root ∙ ap root_of (reverse-reverse nodes); end = lead.end }
