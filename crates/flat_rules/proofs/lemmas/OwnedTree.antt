-- A tree shows only viewports whose ends its session owns.
use Rattle.std.proofs.Common.{◌≡◌, ℕ, zero, suc, ◌-◌, Bool, true, false, List, [], ◌∷◌, ◌++◌, refl, arith, subst, ◌∙◌}
use Rattle.std.specs.Prelude.{◌&&◌, Option, Some, None, option_map, option_and_then}
use Rattle.std.specs.List.{list_all}
use Rattle.std.proofs.lemmas.List.Folds.{list_all-append}
use Rattle.flat_base.specs.declared.limits.TheConstants.{PATH_NODES_MAX}
use Rattle.flat_base.specs.declared.ids.PairNo.{PairNo}
use Rattle.flat_base.specs.declared.ids.SessionNo.{SessionNo}
use Rattle.flat_scene.specs.declared.setup.Setup.{Setup}
use Rattle.flat_scene.specs.declared.trees.Children.{Children}
use Rattle.flat_scene.specs.declared.trees.Children.TheVariants.{Empty}
use Rattle.flat_scene.specs.declared.trees.Node.{Node}
use Rattle.flat_scene.specs.Draft.{Draft, Transform, Made, an_image, a_fill, a_viewport, of_serial}
use Rattle.flat_rules.specs.Legal.{owns_viewport}
use Rattle.flat_topology.specs.Shown.{pair_in, pairs_in}
use Rattle.flat_scene.specs.Tree.{node, node_within, each, all_nodes, content_held, shown_content}
use Rattle.flat_scene.specs.Trees.{more}
use Rattle.flat_rules.proofs.lemmas.Owned.{IsOwned, made_owned}

-- what holds of all holds of that of a serial
pub at-serial : {A : Type 0} (p : A → Bool) (xs : List A) (n : ℕ) (x : A) → list_all p xs ≡ true → of_serial xs n ≡ Some x → p x ≡ true
at-serial p [] n x all is = cc
at-serial p (y ∷ ys) n x all is = grind (arith, at-serial p ys (n - 1) x)

-- the pair of a number
abbrev pub pair_no : ℕ → PairNo
pair_no n = record { 0 = n }

module _ (setup : Setup) (s : SessionNo) where
  abbrev pub owns : ℕ → Bool
  owns n = owns_viewport setup s (pair_no n)

  -- a node and all below it show only what is owned
  abbrev node_owned : Node → Bool
  node_owned n = list_all owns (pair_in n.content) && list_all owns (pairs_in n.children)

  shown-owned : (serial : ℕ) (m : Made) → made_owned setup s m ≡ true → list_all owns (pair_in (shown_content serial m)) ≡ true
  shown-owned serial (an_image i) owned = refl
  shown-owned serial (a_fill None) owned = refl
  shown-owned serial (a_fill (Some x)) owned = refl
  shown-owned serial (a_viewport p props) owned = grind arith

  held-owned : (draft : Draft) → IsOwned setup s draft → (held : Option ℕ) → list_all owns (pair_in (content_held draft held)) ≡ true
  held-owned draft owned None = refl
  held-owned draft owned (Some serial) = by_made (of_serial draft.contents serial) refl
    where
      by_made : (m : Option Made) → of_serial draft.contents serial ≡ m → list_all owns (pair_in (option_and_then (shown_content serial) m)) ≡ true
      by_made None is = refl
      by_made (Some m) is = shown-owned serial m (at-serial (made_owned setup s) draft.contents serial m owned.contents is)

  pairs-more : (n : Node) (rest : Children) → node_owned n ≡ true → list_all owns (pairs_in rest) ≡ true → list_all owns (pairs_in (more n rest)) ≡ true
  pairs-more n rest here after =
      list_all-append owns (pair_in n.content ++ pairs_in n.children) (pairs_in rest)
      ∙ (rw (list_all-append owns (pair_in n.content) (pairs_in n.children), after) (grind arith))

  each-owned : (f : ℕ → Option Node) → ((k : ℕ) (n : Node) → f k ≡ Some n → node_owned n ≡ true) → (ks : List ℕ) (all : Children) → each f ks ≡ Some all
      → list_all owns (pairs_in all) ≡ true
  each-owned f owned [] all is = let empty : Empty ≡ all = cc in subst (λ (c : Children). list_all owns (pairs_in c) ≡ true) empty refl
  each-owned f owned (k ∷ ks) all is = one-more (owned k) (λ rest e. each-owned f owned ks rest e) (f k) refl (each f ks) refl is
    where
      one-more : ((n : Node) → f k ≡ Some n → node_owned n ≡ true) → ((rest : Children) → each f ks ≡ Some rest → list_all owns (pairs_in rest) ≡ true)
          → (n : Option Node) → f k ≡ n → (rest : Option Children) → each f ks ≡ rest
          → option_and_then (λ m. option_map (more m) rest) n ≡ Some all → list_all owns (pairs_in all) ≡ true
      one-more first later None e rest e2 h = cc
      one-more first later (Some n) e None e2 h = cc
      one-more first later (Some n) e (Some rest) e2 h =
          let same : more n rest ≡ all = cc in
          subst (λ (c : Children). list_all owns (pairs_in c) ≡ true) same (pairs-more n rest (first n e) (later rest e2))

  within-owned : (levels : ℕ) (draft : Draft) → IsOwned setup s draft → (is_root : Bool) (k : ℕ) (n : Node) → node_within levels draft is_root k ≡ Some n
      → node_owned n ≡ true
  within-owned zero draft owned is_root k n is = cc
  within-owned (suc levels) draft owned is_root k n is =
      of_transform (λ ks all e. each-owned (node_within levels draft false) (λ k' n' e'. within-owned levels draft owned false k' n' e') ks all e)
      (of_serial draft.transforms k) is
    where
      of_children : (t : Transform) → (all : Option Children) → ((c : Children) → all ≡ Some c → list_all owns (pairs_in c) ≡ true)
          → option_map (node draft is_root k t) all ≡ Some n → node_owned n ≡ true
      of_children t None below h = cc
      of_children t (Some all) below h =
          let same : node draft is_root k t all ≡ n = cc in
          subst (λ (m : Node). node_owned m ≡ true) same (rw (held-owned draft owned t.content) (below all refl))

      of_transform : ((ks : List ℕ) (all : Children) → each (node_within levels draft false) ks ≡ Some all → list_all owns (pairs_in all) ≡ true)
          → (t : Option Transform) → option_and_then (λ t. option_map (node draft is_root k t) (each (node_within levels draft false) t.children)) t ≡ Some n
          → node_owned n ≡ true
      of_transform below None h = cc
      of_transform below (Some t) h = of_children t (each (node_within levels draft false) t.children) (below t.children) h

  pub all-owned : (draft : Draft) → IsOwned setup s draft → (all : Children) → all_nodes draft ≡ Some all → list_all owns (pairs_in all) ≡ true
  all-owned draft owned = each-owned (node_within PATH_NODES_MAX draft true) (λ k n e. within-owned PATH_NODES_MAX draft owned true k n e) _
