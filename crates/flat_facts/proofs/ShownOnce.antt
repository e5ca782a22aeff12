-- Where no two viewports of a pair live, a tree shows no pair twice.
use Rattle.std.proofs.Common.{◌≡◌, ◌∙◌, sym, subst, ℕ, zero, suc, ◌-◌, ◌≤◌, Bool, true, false, cond, List, [], ◌∷◌, ◌++◌, map, drop, refl, arith, ap, Some}
use Rattle.std.proofs.Common.{None, inl, inr}
use Rattle.std.specs.Prelude.{not, ◌||◌, ◌==◌, nat_lt, Option, option_map, option_and_then, option_to_list, is_some, unwrap_or}
use Rattle.std.specs.List.{list_all, list_any}
use Rattle.std.proofs.lemmas.Bool.Decides.{nat_tests}
use Rattle.std.proofs.lemmas.List.{map-append}
use Rattle.std.proofs.lemmas.List.Folds.{list_all-append}
use Rattle.flat_base.specs.declared.ids.PairNo.{PairNo}
use Rattle.flat_base.specs.declared.limits.TheConstants.{PATH_NODES_MAX}
use Rattle.flat_scene.specs.declared.trees.Children.{Children}
use Rattle.flat_scene.specs.declared.trees.Children.TheVariants.{Empty}
use Rattle.flat_scene.specs.declared.trees.Content.{Content}
use Rattle.flat_scene.specs.declared.trees.Node.{Node}
use Rattle.flat_scene.specs.Draft.{Draft, Transform, Made, an_image, a_fill, a_viewport, Name, of_serial}
use Rattle.flat_scene.specs.Misuse.{has_twice}
use Rattle.flat_scene.specs.Tree.{shown_content, content_held, node, each, node_within, all_nodes}
use Rattle.flat_scene.specs.Trees.{more, viewport_in, viewports_in}
use Rattle.flat_base.proofs.lemmas.Tests.{and-left, and-right}
use Rattle.flat_facts.specs.Lives.{held_of}
use Rattle.flat_facts.proofs.lemmas.Lives.{pair_made, pair_at, live_at, serial_at, lives_by, serials_by, lives_of, IsTidy}
use Rattle.flat_facts.proofs.Reached.{has, is_alive, is_reached, is_root_after, IsReached}
use Rattle.flat_topology.proofs.lemmas.Distinct.{In, Distinct}
use Rattle.flat_topology.specs.Shown.{pair_in, pairs_in}
use Rattle.std.proofs.lemmas.Bool.{or_parts}

-- ---- the tree of a draft

module _ (d : Draft) (r : IsReached d) where
  -- the number of the pair of a viewport
  abbrev pub number_of : ℕ → ℕ
  number_of k = unwrap_or (option_map (λ (p : PairNo). p.0) (pair_at d.contents k)) 0

  -- What is known of the viewports of some nodes: they live, and their pairs are those of their serials.
  pub record IsKnown (serials pairs : List ℕ) : Type 0 where
    pub live : list_all (has d.viewports) serials ≡ true
    pub named : pairs ≡ map number_of serials

  known-none : IsKnown [] []
  known-none = record { live = refl; named = refl }

  known-more : (a b c e : List ℕ) → IsKnown a b → IsKnown c e → IsKnown (a ++ c) (b ++ e)
  known-more a b c e first rest = record {
    live = list_all-append (has d.viewports) a c ∙ rw (first.live, rest.live) refl;
    named = ap (λ (l : List ℕ). l ++ e) first.named ∙ ap (λ (l : List ℕ). map number_of a ++ l) rest.named ∙ sym (map-append number_of a c);
  }

  abbrev KnownContent : Option Content → Type 0
  KnownContent content = IsKnown (viewport_in content) (pair_in content)

  abbrev KnownChildren : Children → Type 0
  KnownChildren children = IsKnown (viewports_in children) (pairs_in children)

  pub record IsKnownNode (n : Node) : Type 0 where
    pub content : KnownContent n.content
    pub below : KnownChildren n.children

  made-known : (k : ℕ) (m : Option Made) → of_serial d.contents k ≡ m → (not (is_some (pair_at d.contents k)) || has d.viewports k) ≡ true
      → KnownContent (option_and_then (shown_content k) m)
  made-known k None at alive = known-none
  made-known k (Some (an_image i)) at alive = known-none
  made-known k (Some (a_fill None)) at alive = known-none
  made-known k (Some (a_fill (Some x))) at alive = known-none
  made-known k (Some (a_viewport p props)) at alive =
      let pair : pair_at d.contents k ≡ Some p = ap (option_and_then pair_made) at in
      let lives : has d.viewports k ≡ true = rw pair at alive in
      record { live = rw lives refl; named = rw pair refl }

  held-known : (held : Option ℕ) → is_alive (pair_at d.contents) d.viewports held ≡ true → KnownContent (content_held d held)
  held-known None alive = known-none
  held-known (Some k) alive = made-known k (of_serial d.contents k) refl alive

  known-node : (n : Node) (rest : Children) → IsKnownNode n → KnownChildren rest → KnownChildren (more n rest)
  known-node n rest here after =
      known-more (viewport_in n.content ++ viewports_in n.children) (pair_in n.content ++ pairs_in n.children) (viewports_in rest) (pairs_in rest)
      (known-more (viewport_in n.content) (pair_in n.content) (viewports_in n.children) (pairs_in n.children) here.content here.below) after

  each-known : (f : ℕ → Option Node) → ((k : ℕ) → nat_lt r.first k ≡ true → (n : Node) → f k ≡ Some n → IsKnownNode n) → (ks : List ℕ)
      → list_all (nat_lt r.first) ks ≡ true → (all : Children) → each f ks ≡ Some all
      → KnownChildren all
  each-known f known [] later all is = let empty : Empty ≡ all = cc in subst KnownChildren empty known-none
  each-known f known (k ∷ ks) later all is =
      one-more (known k (and-left (nat_lt r.first k) (list_all (nat_lt r.first) ks) later))
      (λ rest e. each-known f known ks (and-right (nat_lt r.first k) (list_all (nat_lt r.first) ks) later) rest e) (f k) refl (each f ks) refl is
    where
      one-more : ((n : Node) → f k ≡ Some n → IsKnownNode n) → ((rest : Children) → each f ks ≡ Some rest → KnownChildren rest)
          → (n : Option Node) → f k ≡ n → (rest : Option Children) → each f ks ≡ rest
          → option_and_then (λ m. option_map (more m) rest) n ≡ Some all → KnownChildren all
      one-more first after None e rest e2 h = cc
      one-more first after (Some n) e None e2 h = cc
      one-more first after (Some n) e (Some rest) e2 h =
          let same : more n rest ≡ all = cc in
          subst KnownChildren same (known-node n rest (first n e) (after rest e2))

  -- a transform behind the first so many
  later-one : (p : Transform → Bool) (n k : ℕ) (xs : List Transform) (t : Transform) → list_all p (drop n xs) ≡ true → nat_lt n k ≡ true
      → of_serial xs k ≡ Some t → p t ≡ true
  later-one p n k [] t all less is = cc
  later-one p zero k (x ∷ xs) t all less is =
      by_place (λ e. rest e) (k == 1) refl is
    where
      any-one : (ys : List Transform) (j : ℕ) → list_all p ys ≡ true → of_serial ys j ≡ Some t → p t ≡ true
      any-one [] j good at = cc
      any-one (y ∷ ys) j good at = by_first (λ e. any-one ys (j - 1) (and-right (p y) (list_all p ys) good) e) (j == 1) at
        where
          by_first : (of_serial ys (j - 1) ≡ Some t → p t ≡ true) → (b : Bool) → cond b (Some y) (of_serial ys (j - 1)) ≡ Some t → p t ≡ true
          by_first after true at' = let same : y ≡ t = cc in subst (λ (u : Transform). p u ≡ true) same (and-left (p y) (list_all p ys) good)
          by_first after false at' = after at'

      rest : of_serial xs (k - 1) ≡ Some t → p t ≡ true
      rest e = any-one xs (k - 1) (and-right (p x) (list_all p xs) all) e

      by_place : (of_serial xs (k - 1) ≡ Some t → p t ≡ true) → (b : Bool) → (k == 1) ≡ b → cond b (Some x) (of_serial xs (k - 1)) ≡ Some t → p t ≡ true
      by_place after true e h = let same : x ≡ t = cc in subst (λ (u : Transform). p u ≡ true) same (and-left (p x) (list_all p xs) all)
      by_place after false e h = after h
  later-one p (suc n) k (x ∷ xs) t all less is =
      let not_first : (k == 1) ≡ false = grind (arith, nat_tests) in
      let at : of_serial xs (k - 1) ≡ Some t = rw not_first at is in
      later-one p n (k - 1) xs t all (grind (arith, nat_tests)) at

  within-known : (levels : ℕ) (is_root : Bool) (k : ℕ) → nat_lt r.first k ≡ true → (n : Node) → node_within levels d is_root k ≡ Some n → IsKnownNode n
  within-known zero is_root k later n is = cc
  within-known (suc levels) is_root k later n is =
      of_transform (λ ks ok all e. each-known (node_within levels d false) (λ j l m e'. within-known levels false j l m e') ks ok all e)
      (of_serial d.transforms k) refl is
    where
      of_children : (t : Transform) → is_reached r.first (pair_at d.contents) d.viewports t ≡ true → (all : Option Children)
          → ((c : Children) → all ≡ Some c → KnownChildren c)
          → option_map (node d is_root k t) all ≡ Some n → IsKnownNode n
      of_children t fine None below h = cc
      of_children t fine (Some all) below h =
          let same : node d is_root k t all ≡ n = cc in
          subst IsKnownNode same (record {
            content = held-known t.content
                (and-left (is_alive (pair_at d.contents) d.viewports t.content) (list_all (nat_lt r.first) t.children) fine);
            below = below all refl;
          })

      of_transform : ((ks : List ℕ) → list_all (nat_lt r.first) ks ≡ true → (all : Children) → each (node_within levels d false) ks ≡ Some all
          → KnownChildren all)
          → (t : Option Transform) → of_serial d.transforms k ≡ t
          → option_and_then (λ t. option_map (node d is_root k t) (each (node_within levels d false) t.children)) t ≡ Some n → IsKnownNode n
      of_transform below None at h = cc
      of_transform below (Some t) at h =
          let fine : is_reached r.first (pair_at d.contents) d.viewports t ≡ true =
          later-one (is_reached r.first (pair_at d.contents) d.viewports) r.first k d.transforms t r.later later at in
          of_children t fine (each (node_within levels d false) t.children)
          (below t.children (and-right (is_alive (pair_at d.contents) d.viewports t.content) (list_all (nat_lt r.first) t.children) fine)) h

  root-after : (root : Option ℕ) → is_root_after r.first root ≡ true → list_all (nat_lt r.first) (option_to_list root) ≡ true
  root-after None is = refl
  root-after (Some k) is = rw is refl

  pub all-known : (all : Children) → all_nodes d ≡ Some all → KnownChildren all
  all-known all is = each-known (node_within PATH_NODES_MAX d true) (λ k later n e. within-known PATH_NODES_MAX true k later n e) (option_to_list d.root)
      (root-after d.root r.root) all is

-- ---- one viewport for each pair

-- a live serial is that of a viewport
serial-pair : (f : ℕ → Option PairNo) (names : List Name) (k : ℕ) → has (serials_by f names) k ≡ true → (p : PairNo) × (f k ≡ Some p)
serial-pair f [] k is = cc
serial-pair f (x ∷ xs) k is = by_pair (λ h. serial-pair f xs k h) (f x.serial) refl is
  where
    by_pair : (has (serials_by f xs) k ≡ true → (p : PairNo) × (f k ≡ Some p)) → (o : Option PairNo) → f x.serial ≡ o
        → has (serial_at x o ++ serials_by f xs) k ≡ true → (p : PairNo) × (f k ≡ Some p)
    by_pair rest None at h = rest h
    by_pair rest (Some q) at h = by_test (x.serial == k) refl h
      where
        by_test : (b : Bool) → (x.serial == k) ≡ b → (b || has (serials_by f xs) k) ≡ true → (p : PairNo) × (f k ≡ Some p)
        by_test true same h' = let number : x.serial ≡ k = grind (arith, nat_tests) in (q, ap f (sym number) ∙ at)
        by_test false other h' = rest h'

one-held : (f : ℕ → Option PairNo) (names : List Name) (k : ℕ) (p q : PairNo) → has (serials_by f names) k ≡ true → f k ≡ Some q → (q.0 == p.0) ≡ true
    → 1 ≤ held_of p (lives_by f names)
one-held f [] k p q is at same = cc
one-held f (x ∷ xs) k p q is at same = by_pair (λ h. one-held f xs k p q h at same) (f x.serial) refl is
  where
    by_pair : (has (serials_by f xs) k ≡ true → 1 ≤ held_of p (lives_by f xs)) → (o : Option PairNo) → f x.serial ≡ o
        → has (serial_at x o ++ serials_by f xs) k ≡ true
        → 1 ≤ held_of p (live_at x o ++ lives_by f xs)
    by_pair rest None here h = rest h
    by_pair rest (Some r) here h = by_test (x.serial == k) refl h
      where
        by_test : (b : Bool) → (x.serial == k) ≡ b → (b || has (serials_by f xs) k) ≡ true → 1 ≤ held_of p (live_at x (Some r) ++ lives_by f xs)
        by_test true e h' =
            let number : x.serial ≡ k = grind (arith, nat_tests) in
            let both : Some r ≡ Some q = sym here ∙ ap f number ∙ at in
            let pair : r ≡ q = cc in
            let mine : (r.0 == p.0) ≡ true = ap (λ (y : PairNo). y.0 == p.0) pair ∙ same in
            rw mine (omega arith)
        by_test false e h' = omega (arith, rest h')

two-held : (f : ℕ → Option PairNo) (names : List Name) (k j : ℕ) (p q r : PairNo) → has (serials_by f names) k ≡ true → has (serials_by f names) j ≡ true
    → (k == j) ≡ false → f k ≡ Some q → f j ≡ Some r
    → (q.0 == p.0) ≡ true → (r.0 == p.0) ≡ true → 2 ≤ held_of p (lives_by f names)
two-held f [] k j p q r here there other at at' same same' = cc
two-held f (x ∷ xs) k j p q r here there other at at' same same' =
    by_pair (λ h h'. two-held f xs k j p q r h h' other at at' same same') (λ h. one-held f xs k p q h at same) (λ h. one-held f xs j p r h at' same')
    (f x.serial) refl here there
  where
    by_pair : (has (serials_by f xs) k ≡ true → has (serials_by f xs) j ≡ true → 2 ≤ held_of p (lives_by f xs))
        → (has (serials_by f xs) k ≡ true → 1 ≤ held_of p (lives_by f xs))
        → (has (serials_by f xs) j ≡ true → 1 ≤ held_of p (lives_by f xs)) → (o : Option PairNo) → f x.serial ≡ o
        → has (serial_at x o ++ serials_by f xs) k ≡ true → has (serial_at x o ++ serials_by f xs) j ≡ true
        → 2 ≤ held_of p (live_at x o ++ lives_by f xs)
    by_pair both first second None is h h' = both h h'
    by_pair both first second (Some y) is h h' = by_tests (x.serial == k) refl (x.serial == j) refl h h'
      where
        mine : (n : ℕ) (z : PairNo) → (x.serial == n) ≡ true → f n ≡ Some z → (z.0 == p.0) ≡ true → (y.0 == p.0) ≡ true
        mine n z e at-n same-z =
            let number : x.serial ≡ n = grind (arith, nat_tests) in
            let both : Some y ≡ Some z = sym is ∙ ap f number ∙ at-n in
            let pair : y ≡ z = cc in
            ap (λ (v : PairNo). v.0 == p.0) pair ∙ same-z

        by_tests : (b : Bool) → (x.serial == k) ≡ b → (c : Bool) → (x.serial == j) ≡ c → (b || has (serials_by f xs) k) ≡ true
            → (c || has (serials_by f xs) j) ≡ true
            → 2 ≤ held_of p (live_at x (Some y) ++ lives_by f xs)
        by_tests true e true e' i i' = absurd (grind (arith, nat_tests))
        by_tests true e false e' i i' = rw (mine k q e at same) (omega (arith, second i'))
        by_tests false e true e' i i' = rw (mine j r e' at' same') (omega (arith, first i))
        by_tests false e false e' i i' = omega (arith, both i i')

-- ---- no pair twice

in-has : (xs : List ℕ) (k : ℕ) → In k xs → (lives : List ℕ) → list_all (has lives) xs ≡ true → has lives k ≡ true
in-has [] k on lives all = absurd on
in-has (x ∷ xs) k (inl same) lives all = ap (has lives) same ∙ and-left (has lives x) (list_all (has lives) xs) all
in-has (x ∷ xs) k (inr on) lives all = in-has xs k on lives (and-right (has lives x) (list_all (has lives) xs) all)

in-twice : (xs : List ℕ) (x : ℕ) → In x xs → list_any (λ y. x == y) xs ≡ false → ⊥
in-twice [] x on none = on
in-twice (y ∷ ys) x (inl same) none = grind (arith, nat_tests)
in-twice (y ∷ ys) x (inr on) none = in-twice ys x on (or_parts (x == y) (list_any (λ z. x == z) ys) none).1

once-distinct : (xs : List ℕ) → has_twice xs ≡ false → Distinct xs
once-distinct [] none = tt
once-distinct (x ∷ xs) none = (
  λ on. in-twice xs x on (or_parts (list_any (λ y. x == y) xs) (has_twice xs) none).0,
  once-distinct xs (or_parts (list_any (λ y. x == y) xs) (has_twice xs) none).1,
)

in-map : (g : ℕ → ℕ) (ks : List ℕ) (y : ℕ) → In y (map g ks) → (k : ℕ) × (In k ks × (y ≡ g k))
in-map g [] y on = absurd on
in-map g (k ∷ ks) y (inl same) = (k, (inl refl, same))
in-map g (k ∷ ks) y (inr on) = let rest = in-map g ks y on in (rest.0, (inr rest.1.0, rest.1.1))

distinct-map : (g : ℕ → ℕ) (ks : List ℕ) → Distinct ks → ((k j : ℕ) → In k ks → In j ks → g k ≡ g j → k ≡ j) → Distinct (map g ks)
distinct-map g [] d apart = tt
distinct-map g (k ∷ ks) d apart = (
  λ on.
      let one = in-map g ks (g k) on in
      let same : k ≡ one.0 = apart k one.0 (inl refl) (inr one.1.0) one.1.1 in
      d.0 (subst (λ (n : ℕ). In n ks) (sym same) one.1.0),
  distinct-map g ks d.1 (λ i j on on' e. apart i j (inr on) (inr on') e),
)

-- a tree whose pairs have one live viewport each shows no pair twice
pub pairs-once : (d : Draft) → IsTidy d → (r : IsReached d) → ((k : ℕ) (p : PairNo) → pair_at d.contents k ≡ Some p → held_of p (lives_of d) ≤ 1)
    → (all : Children) → all_nodes d ≡ Some all → has_twice (viewports_in all) ≡ false
    → Distinct (pairs_in all)
pairs-once d tidy r single all is once =
    let known = all-known d r all is in
    let f : ℕ → Option PairNo = pair_at d.contents in
    let vs : List ℕ = viewports_in all in
    let alive : (k : ℕ) → In k vs → has (serials_by f d.content_names) k ≡ true =
    λ k on. ap (λ (l : List ℕ). has l k) (sym tidy.viewports) ∙ in-has vs k on d.viewports known.live in
    subst Distinct (sym known.named)
    (distinct-map (number_of d r) vs (once-distinct vs once)
    (λ k j on on' e.
    let p = serial-pair f d.content_names k (alive k on) in
    let q = serial-pair f d.content_names j (alive j on') in
    apart f d.content_names k j p.0 q.0 (alive k on) (alive j on') p.1 q.1
    (ap (λ (o : Option PairNo). unwrap_or (option_map (λ (x : PairNo). x.0) o) 0) (sym p.1) ∙ e
    ∙ ap (λ (o : Option PairNo). unwrap_or (option_map (λ (x : PairNo). x.0) o) 0) q.1)
    (single k p.0 p.1) (k == j) refl))
  where
    apart : (f : ℕ → Option PairNo) (names : List Name) (k j : ℕ) (p q : PairNo) → has (serials_by f names) k ≡ true → has (serials_by f names) j ≡ true
        → f k ≡ Some p → f j ≡ Some q → p.0 ≡ q.0
        → held_of p (lives_by f names) ≤ 1 → (b : Bool) → (k == j) ≡ b → k ≡ j
    apart f names k j p q here there at at' same few true is = grind (arith, nat_tests)
    apart f names k j p q here there at at' same few false is =
        let mine : (p.0 == p.0) ≡ true = grind (arith, nat_tests) in
        let also : (q.0 == p.0) ≡ true = grind (arith, nat_tests) in
        absurd (omega (arith, few, two-held f names k j p p q here there is at at' mine also))
