-- Which sessions of a family are in the joined tree, where the ends of pairs link no session of it to one outside.
use Rattle.std.proofs.Common.{◌≡◌, ℕ, zero, suc, ◌+◌, Bool, true, false, List, [], ◌∷◌, ◌++◌, refl, arith, ap, sym, ◌∙◌, length, map}
use Rattle.std.specs.Prelude.{◌==◌, ◌&&◌, Option, Some, None, option_map}
use Rattle.std.specs.List.{list_any, list_all}
use Rattle.std.proofs.lemmas.Grind.{common_steps}
use Rattle.std.proofs.lemmas.List.{length-map}
use Rattle.std.proofs.lemmas.List.Folds.{list_any-append, list_all-append}
use Rattle.flat_base.specs.declared.ids.PairNo.{PairNo}
use Rattle.flat_base.specs.declared.ids.SessionNo.{SessionNo}
use Rattle.flat_scene.specs.declared.setup.Setup.{Setup}
use Rattle.flat_scene.specs.declared.trees.Children.{Children}
use Rattle.flat_scene.specs.declared.trees.Children.TheVariants.{Empty}
use Rattle.flat_scene.specs.declared.trees.Content.{Content}
use Rattle.flat_scene.specs.declared.trees.Content.TheVariants as content
use Rattle.flat_scene.specs.declared.trees.Tree.{Tree}
use Rattle.flat_scene.specs.Family.{is_linked}
use Rattle.flat_scene.specs.Laws.{IsClosedFamily}
use Rattle.flat_scene.specs.Frames.{sessions_to}
use Rattle.flat_scene.specs.Trees.{first}
use Rattle.flat_topology.specs.Join.{JoinedTree, Viewer, viewer_from, is_view_of, linked_to, joined_nodes, viewed, led_to, led_from, sessions_in, is_joined}
use Rattle.flat_topology.specs.Pairs.{display_pair}
use Rattle.flat_topology.specs.Shown.{state_of, view_of, nodes_of, pair_in, pairs_in}
use Rattle.flat_topology.proofs.lemmas.Distances.{viewer-state}
use Rattle.flat_rules.specs.Ends.{view_owner}
use Rattle.flat_rules.specs.Legal.{owns_view}
use Rattle.flat_rules.proofs.lemmas.Locality.{same-session}
use Rattle.flat_rules.proofs.lemmas.Owned.{view_owned}
use Rattle.flat_rules.proofs.lemmas.OwnedTree.{owns, pair_no}
use Rattle.flat_rules.proofs.lemmas.ShownOwned.{IsShownOwned, joined-at, joined-back}
use Rattle.std.proofs.lemmas.Bool.{false_from_ne_true}
use Rattle.flat_rules.proofs.lemmas.ShownList.{within-or-past}

-- ---- the states of all sessions

state-at : (P : Option Tree → Type 0) (f : SessionNo → Option Tree) (n k : ℕ) → P None → P (f (record { 0 = k })) → P (state_of (map f (sessions_to n)) k)
state-at P f n zero none here = none
state-at P f n (suc k) none here = within-or-past P f None n k none here

-- ---- two ways of leading on

-- nodes are joined in the same way where their pairs lead to the same
linked-same : (o : ℕ → Bool) (led led' : ℕ → JoinedTree) → ((q : ℕ) → o q ≡ true → led q ≡ led' q) → (what : Option Content) → list_all o (pair_in what) ≡ true
    → linked_to led what ≡ linked_to led' what
linked-same o led led' same None all = refl
linked-same o led led' same (Some (content.Fill serial rgba w h)) all = refl
linked-same o led led' same (Some (content.Image serial buffers index sample w h blend flip opacity)) all = refl
linked-same o led led' same (Some (content.Viewport serial pair props)) all = same pair.0 (grind arith)

-- what holds of the pairs of nodes, part by part
record AllThree (o : ℕ → Bool) (what : Option Content) (children rest : Children) : Type 0 where
  here : list_all o (pair_in what) ≡ true
  below : list_all o (pairs_in children) ≡ true
  after : list_all o (pairs_in rest) ≡ true

three : (o : ℕ → Bool) (what : Option Content) (children rest : Children) → list_all o (pair_in what ++ pairs_in children ++ pairs_in rest) ≡ true
    → AllThree o what children rest
three o what children rest all =
    let outer : (list_all o (pair_in what ++ pairs_in children) && list_all o (pairs_in rest)) ≡ true =
    sym (list_all-append o (pair_in what ++ pairs_in children) (pairs_in rest)) ∙ all in
    let inner : list_all o (pair_in what ++ pairs_in children) ≡ (list_all o (pair_in what) && list_all o (pairs_in children)) =
    list_all-append o (pair_in what) (pairs_in children) in
    record { here = grind arith; below = grind arith; after = grind arith }

nodes-same : (o : ℕ → Bool) (led led' : ℕ → JoinedTree) → ((q : ℕ) → o q ≡ true → led q ≡ led' q) → (s : ℕ) (all : Children) → list_all o (pairs_in all) ≡ true
    → joined_nodes led s all ≡ joined_nodes led' s all
nodes-same o led led' same s Empty all = refl
nodes-same o led led' same s (first serial scale turn place clip opacity hits what children rest) all =
    let parts = three o what children rest all in
    rw (linked-same o led led' same what parts.here, nodes-same o led led' same s children parts.below, nodes-same o led led' same s rest parts.after) refl

-- whether a number is among those of a joined tree
abbrev pub stands : ℕ → JoinedTree → Bool
stands x t = list_any (λ other. other == x) (sessions_in t)

linked-out : (x : ℕ) (o : ℕ → Bool) (led : ℕ → JoinedTree) → ((q : ℕ) → o q ≡ true → stands x (led q) ≡ false) → (what : Option Content)
    → list_all o (pair_in what) ≡ true → stands x (linked_to led what) ≡ false
linked-out x o led out None all = refl
linked-out x o led out (Some (content.Fill serial rgba w h)) all = refl
linked-out x o led out (Some (content.Image serial buffers index sample w h blend flip opacity)) all = refl
linked-out x o led out (Some (content.Viewport serial pair props)) all = out pair.0 (grind arith)

none-of-three : (x : ℕ) (us vs ws : List ℕ) → list_any (λ other. other == x) us ≡ false → list_any (λ other. other == x) vs ≡ false
    → list_any (λ other. other == x) ws ≡ false → list_any (λ other. other == x) (us ++ (vs ++ ws)) ≡ false
none-of-three x us vs ws a b c = list_any-append (λ other. other == x) us (vs ++ ws) ∙ rw (a, list_any-append (λ other. other == x) vs ws, b, c) refl

nodes-out : (x : ℕ) (o : ℕ → Bool) (led : ℕ → JoinedTree) → ((q : ℕ) → o q ≡ true → stands x (led q) ≡ false) → (s : ℕ) (all : Children)
    → list_all o (pairs_in all) ≡ true → stands x (joined_nodes led s all) ≡ false
nodes-out x o led out s Empty all = refl
nodes-out x o led out s (first serial scale turn place clip opacity hits what children rest) all =
    let parts = three o what children rest all in
    none-of-three x (sessions_in (linked_to led what)) (sessions_in (joined_nodes led s children)) (sessions_in (joined_nodes led s rest))
    (linked-out x o led out what parts.here) (nodes-out x o led out s children parts.below) (nodes-out x o led out s rest parts.after)

-- who shows the view of a pair is the same where the states that show it are
viewer-same : (f g : SessionNo → Option Tree) (p : ℕ) → ((t : SessionNo) → is_view_of p (view_of (f t)) ≡ is_view_of p (view_of (g t)))
    → ((t : SessionNo) → is_view_of p (view_of (f t)) ≡ true → f t ≡ g t)
    → (ss : List SessionNo) (s : ℕ) → viewer_from s (map f ss) p ≡ viewer_from s (map g ss) p
viewer-same f g p tests states [] s = refl
viewer-same f g p tests states (t ∷ ss) s = by_test (viewer-same f g p tests states ss (s + 1)) (is_view_of p (view_of (f t))) refl
  where
    by_test : viewer_from (s + 1) (map f ss) p ≡ viewer_from (s + 1) (map g ss) p → (b : Bool) → is_view_of p (view_of (f t)) ≡ b
        → viewer_from s (map f (t ∷ ss)) p ≡ viewer_from s (map g (t ∷ ss)) p
    by_test rest true is = let there : is_view_of p (view_of (g t)) ≡ true = sym (tests t) ∙ is in rw (is, there, states t is) refl
    by_test rest false isnt = let there : is_view_of p (view_of (g t)) ≡ false = sym (tests t) ∙ isnt in rw (isnt, there) rest

-- a found viewer shows what some session shows whose view is of the pair
pub record IsViewed (f : SessionNo → Option Tree) (p : ℕ) (viewer : Viewer) : Type 0 where
  pub tree : Tree
  pub shows : f (record { 0 = viewer.session }) ≡ Some tree
  pub view : view_of (Some tree) ≡ Some p
  pub nodes : viewer.nodes ≡ nodes_of (Some tree)

found-viewed : (f : SessionNo → Option Tree) (n p : ℕ) (viewer : Viewer) → viewer_from 1 (map f (sessions_to n)) p ≡ Some viewer → IsViewed f p viewer
found-viewed f n p viewer found =
    let state = viewer-state (map f (sessions_to n)) p viewer found in
    state-at (λ o. view_of o ≡ Some p → viewer.nodes ≡ nodes_of o → IsViewed f p viewer) f n viewer.session (λ v e. absurd (cc))
    (of-state (f (record { 0 = viewer.session })) refl) state.0 state.1
  where
    of-state : (o : Option Tree) → f (record { 0 = viewer.session }) ≡ o → view_of (f (record { 0 = viewer.session })) ≡ Some p
        → viewer.nodes ≡ nodes_of (f (record { 0 = viewer.session })) → IsViewed f p viewer
    of-state None is view nodes = let no : view_of None ≡ Some p = rw is at view in absurd (cc)
    of-state (Some tree) is view nodes = record { tree = tree; shows = is; view = rw is at view; nodes = rw is at nodes }

module _ (setup : Setup) (of_family : SessionNo → Bool) (closed : IsClosedFamily setup of_family) where
  -- a pair whose view end, if somebody owns it, one of the family owns, or one outside
  pub record IsInside (b : Bool) (p : ℕ) : Type 0 where
    pub view : (t : SessionNo) → owns_view setup t (pair_no p) ≡ true → of_family t ≡ b

  -- the pairs of the viewports that a session owns lie where it does
  pub on-its-side : (b : Bool) (t : SessionNo) (q : ℕ) → of_family t ≡ b → owns setup t q ≡ true → IsInside b q
  on-its-side true t q mine over = record {
    view = λ u under.
        let link : is_linked setup t u ≡ true = grind (arith, joined-at setup.pairs q t u over under) in
        closed.grows t u mine link;
  }
  on-its-side false t q out over = record {
    view = λ u under. false_from_ne_true (of_family u) (λ mine.
        let link : is_linked setup u t ≡ true = grind (arith, joined-back setup.pairs q t u over under) in
        let too : of_family t ≡ true = closed.grows u t mine link in cc);
  }

  -- every pair lies on one side
  side-of : (p : ℕ) → (b : Bool) × IsInside b p
  side-of p = by_owner (view_owner setup (pair_no p)) refl
    where
      by_owner : (o : Option SessionNo) → view_owner setup (pair_no p) ≡ o → (b : Bool) × IsInside b p
      by_owner None is = (true, record { view = λ t under. let no : false ≡ true = rw is at under in absurd (cc) })
      by_owner (Some w) is = (
        of_family w,
        record {
          view = λ t under.
              let number : (w.0 == t.0) ≡ true = rw is at under in
              ap of_family (sym (same-session t w number));
        },
      )

  -- the view that a session shows is of a pair that it owns
  view-owned-at : (t : SessionNo) (v : Option PairNo) (p : ℕ) → option_map (λ (pair : PairNo). pair.0) v ≡ Some p → view_owned setup t v ≡ true
      → owns_view setup t (pair_no p) ≡ true
  view-owned-at t None p is owned = cc
  view-owned-at t (Some q) p is owned =
      let same : q.0 ≡ p = cc in
      sym (ap (λ (n : ℕ). owns_view setup t (pair_no n)) same) ∙ owned

  module _ (f : SessionNo → Option Tree) (owned : (t : SessionNo) (tree : Tree) → f t ≡ Some tree → IsShownOwned setup t tree) where
    viewer-owns : (p : ℕ) (viewer : Viewer) → IsViewed f p viewer → owns_view setup (record { 0 = viewer.session }) (pair_no p) ≡ true
    viewer-owns p viewer is =
        view-owned-at (record { 0 = viewer.session }) is.tree.view p is.view (owned (record { 0 = viewer.session }) is.tree is.shows).view

    nodes-owned : (p : ℕ) (viewer : Viewer) → IsViewed f p viewer → list_all (owns setup (record { 0 = viewer.session })) (pairs_in viewer.nodes) ≡ true
    nodes-owned p viewer is = rw is.nodes (owned (record { 0 = viewer.session }) is.tree is.shows).pairs

    -- from a pair outside one doesn't come to the family
    led-out : (n : ℕ) (s : SessionNo) → of_family s ≡ true → (views p : ℕ) → IsInside false p → stands s.0 (led_to (map f (sessions_to n)) views p) ≡ false
    led-out n s mine zero p out = refl
    led-out n s mine (suc views) p out = by_viewer (led-out n s mine views) (viewer_from 1 (map f (sessions_to n)) p) refl
      where
        by_viewer : ((q : ℕ) → IsInside false q → stands s.0 (led_to (map f (sessions_to n)) views q) ≡ false)
            → (v : Option Viewer) → viewer_from 1 (map f (sessions_to n)) p ≡ v → stands s.0 (viewed (led_to (map f (sessions_to n)) views) v) ≡ false
        by_viewer earlier None is = refl
        by_viewer earlier (Some viewer) is =
            let t : SessionNo = record { 0 = viewer.session } in
            let shows : IsViewed f p viewer = found-viewed f n p viewer is in
            let apart : of_family t ≡ false = out.view t (viewer-owns p viewer shows) in
            let other : (viewer.session == s.0) ≡ false = false_from_ne_true (viewer.session == s.0) (λ same.
            let one : t ≡ s = same-session s t same in
            let both : of_family t ≡ of_family s = ap of_family one in cc) in
            let below : stands s.0 (joined_nodes (led_to (map f (sessions_to n)) views) viewer.session viewer.nodes) ≡ false =
            nodes-out s.0 (owns setup t) (led_to (map f (sessions_to n)) views) (λ q over. earlier q (on-its-side false t q apart over)) viewer.session
            viewer.nodes (nodes-owned p viewer shows) in
            rw other below

    module _ (g : SessionNo → Option Tree) (kept : (t : SessionNo) → of_family t ≡ true → g t ≡ f t)
        (dropped : (t : SessionNo) → of_family t ≡ false → g t ≡ None) where
      sees : (p : ℕ) → IsInside true p → (t : SessionNo) → is_view_of p (view_of (f t)) ≡ true → of_family t ≡ true
      sees p inside t is = by_tree (f t) refl is
        where
          by_pair : (v : Option PairNo) → view_owned setup t v ≡ true → is_view_of p (option_map (λ (pair : PairNo). pair.0) v) ≡ true → of_family t ≡ true
          by_pair None own h = cc
          by_pair (Some q) own h =
              let same : q.0 ≡ p = grind (arith, common_steps) in
              inside.view t (sym (ap (λ (n : ℕ). owns_view setup t (pair_no n)) same) ∙ own)

          by_tree : (o : Option Tree) → f t ≡ o → is_view_of p (view_of o) ≡ true → of_family t ≡ true
          by_tree None e h = cc
          by_tree (Some tree) e h = by_pair tree.view (owned t tree e).view h

      same-tests : (p : ℕ) → IsInside true p → (t : SessionNo) → is_view_of p (view_of (f t)) ≡ is_view_of p (view_of (g t))
      same-tests p inside t = by_side (of_family t) refl
        where
          by_side : (b : Bool) → of_family t ≡ b → is_view_of p (view_of (f t)) ≡ is_view_of p (view_of (g t))
          by_side true mine = rw (kept t mine) refl
          by_side false out = rw (dropped t out) (false_from_ne_true (is_view_of p (view_of (f t)))
              (λ is. let mine : of_family t ≡ true = sees p inside t is in cc))

      -- a pair of the family leads to the same
      led-same : (n views p : ℕ) → IsInside true p → led_to (map g (sessions_to n)) views p ≡ led_to (map f (sessions_to n)) views p
      led-same n zero p inside = refl
      led-same n (suc views) p inside =
          ap (viewed (led_to (map g (sessions_to n)) views))
          (sym (viewer-same f g p (same-tests p inside) (λ t is. sym (kept t (sees p inside t is))) (sessions_to n) 1))
          ∙ by_viewer (led-same n views) (viewer_from 1 (map f (sessions_to n)) p) refl
        where
          by_viewer : ((q : ℕ) → IsInside true q → led_to (map g (sessions_to n)) views q ≡ led_to (map f (sessions_to n)) views q)
              → (v : Option Viewer) → viewer_from 1 (map f (sessions_to n)) p ≡ v
              → viewed (led_to (map g (sessions_to n)) views) v ≡ viewed (led_to (map f (sessions_to n)) views) v
          by_viewer earlier None is = refl
          by_viewer earlier (Some viewer) is =
              let t : SessionNo = record { 0 = viewer.session } in
              let shows : IsViewed f p viewer = found-viewed f n p viewer is in
              let mine : of_family t ≡ true = inside.view t (viewer-owns p viewer shows) in
              let below : joined_nodes (led_to (map g (sessions_to n)) views) viewer.session viewer.nodes
              ≡ joined_nodes (led_to (map f (sessions_to n)) views) viewer.session viewer.nodes =
              nodes-same (owns setup t) (led_to (map g (sessions_to n)) views) (led_to (map f (sessions_to n)) views)
              (λ q over. earlier q (on-its-side true t q mine over)) viewer.session viewer.nodes (nodes-owned p viewer shows) in
              rw below refl

      owned-there : (t : SessionNo) (tree : Tree) → g t ≡ Some tree → IsShownOwned setup t tree
      owned-there t tree is = by_side (of_family t) refl
        where
          by_side : (b : Bool) → of_family t ≡ b → IsShownOwned setup t tree
          by_side true mine = owned t tree (sym (kept t mine) ∙ is)
          by_side false out = let none : None ≡ Some tree = sym (dropped t out) ∙ is in absurd (cc)

  -- so a session of the family is connected in both or in neither
  pub joined-same : (f : SessionNo → Option Tree) → ((t : SessionNo) (tree : Tree) → f t ≡ Some tree → IsShownOwned setup t tree)
      → (g : SessionNo → Option Tree) → ((t : SessionNo) → of_family t ≡ true → g t ≡ f t) → ((t : SessionNo) → of_family t ≡ false → g t ≡ None)
      → (n : ℕ) (s : SessionNo) → of_family s ≡ true → is_joined setup (map g (sessions_to n)) s.0 ≡ is_joined setup (map f (sessions_to n)) s.0
  joined-same f owned g kept dropped n s mine = by_display (display_pair setup)
    where
      as_long : length (map g (sessions_to n)) ≡ length (map f (sessions_to n))
      as_long = simp length-map

      by_side : (p : ℕ) (b : Bool) → IsInside b p → stands s.0 (led_from (map g (sessions_to n)) (Some p))
          ≡ stands s.0 (led_from (map f (sessions_to n)) (Some p))
      by_side p true inside = rw (as_long, led-same f owned g kept dropped n (length (map f (sessions_to n))) p inside) refl
      by_side p false out =
          led-out g (owned-there f owned g kept dropped) n s mine (length (map g (sessions_to n))) p out
          ∙ sym (led-out f owned n s mine (length (map f (sessions_to n))) p out)

      by_display : (o : Option ℕ) → stands s.0 (led_from (map g (sessions_to n)) o) ≡ stands s.0 (led_from (map f (sessions_to n)) o)
      by_display None = refl
      by_display (Some p) = let side = side-of p in by_side p side.0 side.1
