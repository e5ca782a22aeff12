-- Trees that are shown have no node and no image of too great an opacity, and each image shows a part of its buffer.
use Rattle.std.proofs.Common.{◌≡◌, ℕ, zero, suc, Bool, true, false, cond, ◌&&◌, List, [], ◌∷◌, filter_map, map, refl, subst, arith, Option, Some, None}
use Rattle.std.specs.Prelude.{option_map, option_and_then}
use Rattle.std.specs.List.{list_all}
use Rattle.std.specs.Result.{result_ok}
use Rattle.flat_base.specs.declared.ids.SessionNo.{SessionNo}
use Rattle.flat_base.specs.declared.limits.TheConstants.{PATH_NODES_MAX}
use Rattle.flat_scene.specs.declared.journal.Entry.{Entry}
use Rattle.flat_scene.specs.declared.setup.Setup.{Setup}
use Rattle.flat_scene.specs.declared.trees.Children.{Children}
use Rattle.flat_scene.specs.declared.trees.Children.TheVariants.{Empty}
use Rattle.flat_scene.specs.declared.trees.Content.{Content}
use Rattle.flat_scene.specs.declared.trees.Content.TheVariants as content
use Rattle.flat_scene.specs.declared.trees.Node.{Node}
use Rattle.flat_scene.specs.declared.trees.Tree.{Tree}
use Rattle.flat_scene.specs.Draft.{Draft, Transform, Made, an_image, a_fill, a_viewport, of_serial}
use Rattle.flat_scene.specs.Effect.{draft_of}
use Rattle.flat_scene.specs.Frames.{sessions_to}
use Rattle.flat_scene.specs.History.{is_closed, Published}
use Rattle.flat_scene.specs.Tree.{tree, all_nodes, node, node_within, each, content_held, shown_content, head_of, use_of}
use Rattle.flat_scene.specs.Trees.{first, more, fold_nodes}
use Rattle.flat_scene.proofs.lemmas.Presented.{tree-unfolded}
use Rattle.flat_topology.specs.Shown.{nodes_of, root_alone}
use Rattle.flat_rules.specs.Shown.{shown, shown_states, tree_of, last_taken}
use Rattle.flat_rules.proofs.FairDrafts.{IsFair, is_dim, is_sample, is_fair_made, is_fair_transform, draft-fair}
use Rattle.flat_rules.proofs.lemmas.OwnedTree.{at-serial}
use Rattle.flat_rules.proofs.lemmas.ShownOwned.{ok-is}

-- an image shows a part of its buffer, and isn't too opaque
abbrev pub is_fair_content : Option Content → Bool
is_fair_content (Some (content.Image serial buffers index sample w h blend flip opacity)) = is_sample sample && is_dim opacity
is_fair_content _ = true

-- so it is with each of some nodes, and with a node and all below it
abbrev pub are_fair : Children → Bool
are_fair = fold_nodes (λ node below after. (is_dim node.opacity && is_fair_content node.content) && (below && after)) true

abbrev is_fair_node : Node → Bool
is_fair_node n = (is_dim n.opacity && is_fair_content n.content) && are_fair n.children

-- ---- from a draft to its tree

shown-fair : (serial : ℕ) (m : Made) → is_fair_made m ≡ true → is_fair_content (shown_content serial m) ≡ true
shown-fair serial (an_image image) fair = fair
shown-fair serial (a_fill None) fair = refl
shown-fair serial (a_fill (Some solid)) fair = refl
shown-fair serial (a_viewport pair props) fair = refl

more-fair : (n : Node) (rest : Children) → is_fair_node n ≡ true → are_fair rest ≡ true → are_fair (more n rest) ≡ true
more-fair n rest here after = grind arith

each-fair : (f : ℕ → Option Node) → ((k : ℕ) (n : Node) → f k ≡ Some n → is_fair_node n ≡ true) → (ks : List ℕ) (all : Children) → each f ks ≡ Some all
    → are_fair all ≡ true
each-fair f fair [] all is = let empty : Empty ≡ all = cc in subst (λ (c : Children). are_fair c ≡ true) empty refl
each-fair f fair (k ∷ ks) all is = one-more (fair k) (λ rest e. each-fair f fair ks rest e) (f k) refl (each f ks) refl is
  where
    one-more : ((n : Node) → f k ≡ Some n → is_fair_node n ≡ true) → ((rest : Children) → each f ks ≡ Some rest → are_fair rest ≡ true)
        → (n : Option Node) → f k ≡ n → (rest : Option Children) → each f ks ≡ rest → option_and_then (λ m. option_map (more m) rest) n ≡ Some all
        → are_fair all ≡ true
    one-more here later None e rest e2 h = cc
    one-more here later (Some n) e None e2 h = cc
    one-more here later (Some n) e (Some rest) e2 h =
        let same : more n rest ≡ all = cc in
        subst (λ (c : Children). are_fair c ≡ true) same (more-fair n rest (here n e) (later rest e2))

abbrev shows : Draft → Children → Tree
shows d all = record { view = d.view; root = head_of all; viewports = filter_map (use_of d) d.viewports }

module _ (draft : Draft) (fair : IsFair draft) where
  held-fair : (held : Option ℕ) → is_fair_content (content_held draft held) ≡ true
  held-fair None = refl
  held-fair (Some serial) = by_made (of_serial draft.contents serial) refl
    where
      by_made : (m : Option Made) → of_serial draft.contents serial ≡ m → is_fair_content (option_and_then (shown_content serial) m) ≡ true
      by_made None is = refl
      by_made (Some m) is = shown-fair serial m (at-serial is_fair_made draft.contents serial m fair.contents is)

  node-fair : (is_root : Bool) (k : ℕ) (t : Transform) (all : Children) → is_fair_transform t ≡ true → are_fair all ≡ true
      → is_fair_node (node draft is_root k t all) ≡ true
  node-fair is_root k t all dim below = let held : is_fair_content (content_held draft t.content) ≡ true = held-fair t.content in rw (dim, held, below) refl

  within-fair : (levels : ℕ) (is_root : Bool) (k : ℕ) (n : Node) → node_within levels draft is_root k ≡ Some n → is_fair_node n ≡ true
  within-fair zero is_root k n is = cc
  within-fair (suc levels) is_root k n is =
      of_transform (λ ks all e. each-fair (node_within levels draft false) (λ k' n' e'. within-fair levels false k' n' e') ks all e)
      (of_serial draft.transforms k) refl is
    where
      of_children : (t : Transform) → is_fair_transform t ≡ true → (all : Option Children) → ((c : Children) → all ≡ Some c → are_fair c ≡ true)
          → option_map (node draft is_root k t) all ≡ Some n → is_fair_node n ≡ true
      of_children t dim None below h = cc
      of_children t dim (Some all) below h =
          let same : node draft is_root k t all ≡ n = cc in
          subst (λ (m : Node). is_fair_node m ≡ true) same (node-fair is_root k t all dim (below all refl))

      of_transform : ((ks : List ℕ) (all : Children) → each (node_within levels draft false) ks ≡ Some all → are_fair all ≡ true)
          → (t : Option Transform) → of_serial draft.transforms k ≡ t
          → option_and_then (λ t. option_map (node draft is_root k t) (each (node_within levels draft false) t.children)) t ≡ Some n → is_fair_node n ≡ true
      of_transform below None e h = cc
      of_transform below (Some t) e h = of_children t (at-serial is_fair_transform draft.transforms k t fair.transforms e)
          (each (node_within levels draft false) t.children) (below t.children) h

  all-fair : (all : Children) → all_nodes draft ≡ Some all → are_fair all ≡ true
  all-fair = each-fair (node_within PATH_NODES_MAX draft true) (λ k n e. within-fair PATH_NODES_MAX true k n e) _

  root-fair : (all : Children) → are_fair all ≡ true → are_fair (root_alone (head_of all)) ≡ true
  root-fair Empty here = refl
  root-fair (first serial scale turn place clip opacity hits what children rest) here = grind arith

  tree-fair : (t : Tree) → tree draft ≡ Some t → are_fair (nodes_of (Some t)) ≡ true
  tree-fair t is = of_all (all_nodes draft) refl (tree-unfolded draft t is)
    where
      of_all : (all : Option Children) → all_nodes draft ≡ all → option_map (shows draft) all ≡ Some t → are_fair (nodes_of (Some t)) ≡ true
      of_all None e h = cc
      of_all (Some all) e h =
          let same : shows draft all ≡ t = cc in
          subst (λ (u : Tree). are_fair (nodes_of (Some u)) ≡ true) same (root-fair all (all-fair all e))

-- ---- what is shown

module _ (setup : Setup) where
  present-fair : (present : Published) → are_fair (nodes_of (tree_of setup present)) ≡ true
  present-fair present = by_draft (result_ok (draft_of setup present.made)) refl
    where
      by_tree : (d : Draft) → IsFair d → (o : Option Tree) → tree d ≡ o → are_fair (nodes_of o) ≡ true
      by_tree d fair None is = refl
      by_tree d fair (Some t) is = tree-fair d fair t is

      by_draft : (o : Option Draft) → result_ok (draft_of setup present.made) ≡ o → are_fair (nodes_of (option_and_then tree o)) ≡ true
      by_draft None is = refl
      by_draft (Some d) is = by_tree d (draft-fair setup present.made d (ok-is setup (draft_of setup present.made) d is)) (tree d) refl

  state-fair : (history : List Entry) (s : SessionNo) → are_fair (nodes_of (shown setup history s)) ≡ true
  state-fair history s = by_open (is_closed s history) (last_taken setup history s)
    where
      by_open : (b : Bool) (o : Option Published) → are_fair (nodes_of (cond b None (option_and_then (tree_of setup) o))) ≡ true
      by_open true o = refl
      by_open false None = refl
      by_open false (Some present) = present-fair present

  each-state : (history : List Entry) (ss : List SessionNo) → list_all (λ state. are_fair (nodes_of state)) (map (shown setup history) ss) ≡ true
  each-state history [] = refl
  each-state history (s ∷ ss) = rw (state-fair history s, each-state history ss) refl

  pub states-fair : (history : List Entry) → list_all (λ state. are_fair (nodes_of state)) (shown_states setup history) ≡ true
  states-fair history = each-state history (sessions_to setup.sessions)
