-- From the display down to each connected session, step by step.
use Rattle.std.proofs.Common.{ℕ, zero, suc, ◌+◌, ◌-◌, ◌<◌, ◌≤◌, ◌≡◌, ◌≢◌, ◌⊎◌, inl, inr, refl, sym, ap, ◌∙◌, subst, Bool, true, false, ◌||◌, List, [], ◌∷◌}
use Rattle.std.proofs.Common.{◌++◌, length, map, take, get_or, cond, Option, Some, None, slice_get, slice_index_or, slice_set, add-one, arith}
use Rattle.std.specs.Prelude.{◌==◌, ◌↔◌, IsTrue, is_some}
use Rattle.std.specs.List.{All, Contains, list_any}
use Rattle.std.proofs.lemmas.Bool.{cases_lt}
use Rattle.std.proofs.lemmas.Bool.Decides.{eqb_tells}
use Rattle.std.proofs.lemmas.List.{append_assoc, get_or_at, get_or-map, get_or_past, get_or-set_other, get_or-set_same, length-append, length-map, length-set}
use Rattle.std.proofs.lemmas.List.{take_all}
use Rattle.std.proofs.lemmas.List.Elements.{All-append}
use Rattle.std.proofs.lemmas.Option.{slice_get-get_or, slice_get_past}
use Rattle.std.proofs.lemmas.List.Folds.{list_any-append, list_any_more}
use Rattle.flat_base.specs.declared.ids.SessionNo.{SessionNo}
use Rattle.flat_scene.specs.declared.setup.PairDecl.{PairDecl}
use Rattle.flat_scene.specs.declared.setup.Setup.{Setup}
use Rattle.flat_scene.specs.declared.trees.Children.{Children}
use Rattle.flat_scene.specs.declared.trees.Children.TheVariants.{Empty}
use Rattle.flat_scene.specs.declared.trees.Content.{Content}
use Rattle.flat_scene.specs.declared.trees.Content.TheVariants as content
use Rattle.flat_scene.specs.declared.trees.Tree.{Tree}
use Rattle.flat_scene.specs.Trees.{first, node_count}
use Rattle.flat_snap.specs.Flat.{FlatNode, flat_from, flat_nodes, is_viewport, rooted, viewport_places}
use Rattle.flat_topology.specs.Shown.{Shown, state_of, view_of, nodes_of, pair_in, pairs_in, pairs_shown, is_shown_by}
use Rattle.flat_topology.specs.Pairs.{display_pair}
use Rattle.flat_topology.specs.Links.{IsBelow, IsConnectedThrough, IsConnected}
use Rattle.flat_topology.specs.Fit.{FitsSetup}
use Rattle.flat_topology.specs.Join.{is_joined, is_view_of}
use Rattle.flat_join.specs.Distances.{leads_to, is_view_among, AreDistances, IsFinding, NotesViews}
use Rattle.flat_topology.proofs.lemmas.Distinct.{in-contains, contains-in}
use Rattle.flat_topology.proofs.lemmas.Distances.{distance-one}
use Rattle.flat_topology.proofs.lemmas.Whole.{found-in, in-found, distance-low, number-within, connected-within}
use Rattle.flat_join.proofs.lemmas.Rooted.{rooted-alone}
use Rattle.std.proofs.Math.Bool.{or-false, or_assoc}

-- ---- a search

got : {X : Type 0} (xs : List X) (i : ℕ) (x d : X) → slice_get xs i ≡ Some x → (i < length xs) × (get_or xs i d ≡ x)
got [] i x d e = absurd (cc)
got (y ∷ xs) zero x d e = (omega arith, cc)
got (y ∷ xs) (suc i) x d e = let rest = got xs i x d e in (omega (arith, rest.0), rest.1)

-- ---- the viewports of a flat list

any-pair : (p : ℕ) (what : Option Content) → list_any (λ q. q == p) (pair_in what) ≡ leads_to p what
any-pair p None = refl
any-pair p (Some (content.Fill serial rgba w h)) = refl
any-pair p (Some (content.Image serial buffers index sample w h blend flip opacity)) = refl
any-pair p (Some (content.Viewport serial pair props)) = or-false (pair.0 == p)

any-flat : (p next : ℕ) (all : Children) → list_any (λ n. leads_to p n.content) (flat_from next all) ≡ list_any (λ q. q == p) (pairs_in all)
any-flat p next Empty = refl
any-flat p next (first serial scale turn place clip opacity hits what children rest) =
    let end : ℕ = next + 1 + node_count children in
    let test : FlatNode → Bool = λ n. leads_to p n.content in
    let here : Bool = leads_to p what in
    let below : Bool = list_any (λ q. q == p) (pairs_in children) in
    let after : Bool = list_any (λ q. q == p) (pairs_in rest) in
    let left : list_any test (flat_from (next + 1) children ++ flat_from end rest) ≡ (below || after)
    = list_any-append test (flat_from (next + 1) children) (flat_from end rest)
    ∙ ap (λ (b : Bool). b || list_any test (flat_from end rest)) (any-flat p (next + 1) children)
    ∙ ap (λ (b : Bool). below || b) (any-flat p end rest) in
    let right : list_any (λ q. q == p) ((pair_in what ++ pairs_in children) ++ pairs_in rest) ≡ ((here || below) || after)
    = list_any-append (λ q. q == p) (pair_in what ++ pairs_in children) (pairs_in rest)
    ∙ ap (λ (b : Bool). b || after) (list_any-append (λ q. q == p) (pair_in what) (pairs_in children) ∙ ap (λ (b : Bool). b || below) (any-pair p what)) in
    ap (λ (b : Bool). here || b) left ∙ sym (or_assoc here below after) ∙ sym right

pub shown-flat : (shown : Shown) (p s : ℕ) (tree shared : Tree) → tree ≡ shared → Some shared ≡ state_of shown s
    → list_any (λ n. leads_to p n.content) (flat_nodes tree) ≡ is_shown_by shown p s
shown-flat shown p s tree shared same state =
    any-flat p 0 (rooted tree.root) ∙ ap (λ (all : Children). list_any (λ q. q == p) (pairs_in all)) (rooted-alone tree.root)
    ∙ ap (λ (t : Tree). list_any (λ q. q == p) (pairs_in (nodes_of (Some t)))) same
    ∙ ap (λ (o : Option Tree). list_any (λ q. q == p) (pairs_in (nodes_of o))) state

-- ---- the numbers of the viewports among some contents

-- whether the content at a place is a viewport of a pair
abbrev pub leads_at : ℕ → List (Option Content) → ℕ → Bool
leads_at p all place = leads_to p (get_or all place None)

only-viewports : (p : ℕ) (what : Option Content) → is_viewport what ≡ false → leads_to p what ≡ false
only-viewports p None none = refl
only-viewports p (Some (content.Fill serial rgba w h)) none = refl
only-viewports p (Some (content.Image serial buffers index sample w h blend flip opacity)) none = refl
only-viewports p (Some (content.Viewport serial pair props)) none = absurd (cc)

-- no content but those at the places is a viewport of a pair
any-places : (p : ℕ) (before contents : List (Option Content))
    → list_any (leads_at p (before ++ contents)) (viewport_places (length before) contents) ≡ list_any (leads_to p) contents
any-places p before [] = refl
any-places p before (what ∷ contents) =
    let place : ℕ = length before in
    let once : (before ++ what ∷ []) ++ contents ≡ before ++ what ∷ contents = append_assoc before (what ∷ []) contents in
    let size : length (before ++ what ∷ []) ≡ place + 1 = length-append before (what ∷ []) in
    let here : leads_at p (before ++ what ∷ contents) place ≡ leads_to p what = ap (leads_to p) (get_or_at before what contents None place refl) in
    let later : list_any (leads_at p (before ++ what ∷ contents)) (viewport_places (place + 1) contents) ≡ list_any (leads_to p) contents
    = rw (once, size) at (any-places p (before ++ what ∷ []) contents) in
    by_test (is_viewport what) refl here later
  where
    by_test : (b : Bool) → is_viewport what ≡ b → leads_at p (before ++ what ∷ contents) (length before) ≡ leads_to p what
        → list_any (leads_at p (before ++ what ∷ contents)) (viewport_places (length before + 1) contents) ≡ list_any (leads_to p) contents
        → list_any (leads_at p (before ++ what ∷ contents))
        (cond b (length before ∷ viewport_places (length before + 1) contents) (viewport_places (length before + 1) contents))
        ≡ (leads_to p what || list_any (leads_to p) contents)
    by_test true is here later = rw (here, later) refl
    by_test false is here later = rw (only-viewports p what is) later

abbrev pub contents_of : List FlatNode → List (Option Content)
contents_of = map (λ n. n.content)

any-contents : (p : ℕ) (ns : List FlatNode) → list_any (leads_to p) (contents_of ns) ≡ list_any (λ n. leads_to p n.content) ns
any-contents p [] = refl
any-contents p (n ∷ ns) = ap (λ (b : Bool). leads_to p n.content || b) (any-contents p ns)

-- whether a node is a viewport of a pair, is seen at the places of the viewports
pub any-viewport : (p : ℕ) (ns : List FlatNode) → list_any (leads_at p (contents_of ns)) (viewport_places 0 (contents_of ns))
    ≡ list_any (λ n. leads_to p n.content) ns
any-viewport p ns = any-places p [] (contents_of ns) ∙ any-contents p ns

pub leads-there : (p : ℕ) (ns : List FlatNode) (place : ℕ) (n : FlatNode) → slice_get ns place ≡ Some n
    → leads_at p (contents_of ns) place ≡ leads_to p n.content
leads-there p ns place n at = let g = got ns place n n at in
    ap (leads_to p) (get_or-map (λ m. m.content) ns place n None g.0 ∙ ap (λ (m : FlatNode). m.content) g.1)

-- the places are those of nodes
places-within : (next : ℕ) (contents : List (Option Content)) → All (λ place. place < next + length contents) (viewport_places next contents)
places-within next [] = λ k d low. absurd (omega (arith, low))
places-within next (what ∷ contents) = by_test (is_viewport what) (rw (sym (next-size next (length contents))) at (places-within (next + 1) contents))
  where
    next-size : (n m : ℕ) → n + suc m ≡ n + 1 + m
    next-size n m = omega arith

    by_test : (b : Bool) → All (λ place. place < next + suc (length contents)) (viewport_places (next + 1) contents)
        → All (λ place. place < next + suc (length contents)) (cond b (next ∷ viewport_places (next + 1) contents) (viewport_places (next + 1) contents))
    by_test true later =
        All-append (λ place. place < next + suc (length contents)) (next ∷ []) (viewport_places (next + 1) contents)
        (λ k d low. let first : k ≡ 0 = omega (arith, low) in rw first (omega arith)) later
    by_test false later = later

pub viewport-within : (ns : List FlatNode) (i d : ℕ) → i < length (viewport_places 0 (contents_of ns))
    → get_or (viewport_places 0 (contents_of ns)) i d < length ns
viewport-within ns i d h = omega (arith, places-within 0 (contents_of ns) i d h, length-map ns (λ (n : FlatNode). n.content))

-- ---- which pairs a session shows

shown-contains : (shown : Shown) (p s : ℕ) → is_shown_by shown p s ≡ true → Contains (pairs_shown shown s) p
shown-contains shown p s e = contains-in p (pairs_shown shown s) (found-in p (pairs_shown shown s) e)

contains-shown : (shown : Shown) (p s : ℕ) → Contains (pairs_shown shown s) p → is_shown_by shown p s ≡ true
contains-shown shown p s has = in-found p (pairs_shown shown s) (in-contains p (pairs_shown shown s) has)

-- ---- numbers

some-same : (x y : ℕ) → Some x ≡ Some y → x ≡ y
some-same x y e = cc

eqb-same : (x y : ℕ) → (x == y) ≡ true → x ≡ y
eqb-same x y e = by_test (eqb_tells x y)
  where
    by_test : ((◌≡◌ (x == y) true) × (x ≡ y)) ⊎ ((◌≡◌ (x == y) false) × (x ≢ y)) → x ≡ y
    by_test (inl same) = same.1
    by_test (inr apart) = let wrong : false ≡ true = sym apart.0 ∙ e in absurd (cc)

eqb-refl : (x : ℕ) → (x == x) ≡ true
eqb-refl x = by_test (eqb_tells x x)
  where
    by_test : ((◌≡◌ (x == x) true) × (x ≡ x)) ⊎ ((◌≡◌ (x == x) false) × (x ≢ x)) → (x == x) ≡ true
    by_test (inl same) = same.0
    by_test (inr apart) = absurd (apart.1 refl)

-- ---- what is noted

abbrev pub noted_at : List (Option ℕ) → ℕ → Option ℕ
noted_at distances s = slice_index_or distances s None

pub notes-none : (shown : Shown) (distance : ℕ) (old : List (Option ℕ)) (pairs : ℕ → Bool) → ((p : ℕ) → pairs p ≡ false)
    → NotesViews shown pairs distance old old
notes-none shown distance old pairs none = record {
  count = refl;
  each = λ s. rw (among-none (view_of (state_of shown (suc s)))) refl;
}
  where
    among-none : (view : Option ℕ) → is_view_among pairs view ≡ false
    among-none None = refl
    among-none (Some p) = none p

pub notes-same : (shown : Shown) (distance : ℕ) (old new : List (Option ℕ)) (pairs others : ℕ → Bool) → ((p : ℕ) → pairs p ≡ others p)
    → NotesViews shown pairs distance old new → NotesViews shown others distance old new
notes-same shown distance old new pairs others same notes = record {
  count = notes.count;
  each = λ s. rw (among-same (view_of (state_of shown (suc s)))) at (notes.each s);
}
  where
    among-same : (view : Option ℕ) → is_view_among pairs view ≡ is_view_among others view
    among-same None = refl
    among-same (Some p) = same p

pub notes-more : (shown : Shown) (distance : ℕ) (old mid new : List (Option ℕ)) (pairs others : ℕ → Bool) → NotesViews shown pairs distance old mid
    → NotesViews shown others distance mid new
    → NotesViews shown (λ p. pairs p || others p) distance old new
notes-more shown distance old mid new pairs others before after = record {
  count = after.count ∙ before.count;
  each = λ s. by_view (view_of (state_of shown (suc s))) (noted_at old s) (noted_at mid s) (noted_at new s) (before.each s) (after.each s);
}
  where
    by_tests : (a b : Bool) (x y z : Option ℕ) → y ≡ cond a (Some distance) x → z ≡ cond b (Some distance) y → z ≡ cond (a || b) (Some distance) x
    by_tests true true x y z e f = f
    by_tests true false x y z e f = f ∙ e
    by_tests false true x y z e f = f
    by_tests false false x y z e f = f ∙ e

    by_view : (view : Option ℕ) (x y z : Option ℕ) → y ≡ cond (is_view_among pairs view) (Some distance) x
        → z ≡ cond (is_view_among others view) (Some distance) y
        → z ≡ cond (is_view_among (λ p. pairs p || others p) view) (Some distance) x
    by_view None x y z e f = f ∙ e
    by_view (Some p) x y z e f = by_tests (pairs p) (others p) x y z e f

-- a session whose view is of no such pair keeps what is noted of it
among-is : (view : Option ℕ) (pairs : ℕ → Bool) → is_view_among pairs view ≡ true → (p : ℕ) × (view ≡ Some p) × (pairs p ≡ true)
among-is None pairs e = absurd (cc)
among-is (Some p) pairs e = (p, refl, e)

-- ---- the view of one pair

pub declared-at : (pairs : List PairDecl) (i : ℕ) (declared : PairDecl) → i < length pairs → declared ≡ get_or pairs i declared
    → slice_get pairs i ≡ Some declared
declared-at pairs i declared low is = slice_get-get_or pairs i declared low ∙ ap (λ (d : PairDecl). Some d) (sym is)

module _ (setup : Setup) (shown : Shown) (fit : FitsSetup setup shown) (pair : ℕ) (distance : ℕ) where
  -- nobody shows the view
  pub view-nobody : (old : List (Option ℕ)) → ((s : ℕ) → view_of (state_of shown (suc s)) ≢ Some pair) → NotesViews shown (λ p. pair == p) distance old old
  view-nobody old nobody = record {
    count = refl;
    each = λ s. by_view s (view_of (state_of shown (suc s))) refl;
  }
    where
      by_test : (s p : ℕ) → view_of (state_of shown (suc s)) ≡ Some p → ((◌≡◌ (pair == p) true) × (pair ≡ p)) ⊎ ((◌≡◌ (pair == p) false) × (pair ≢ p))
          → noted_at old s ≡ cond (pair == p) (Some distance) (noted_at old s)
      by_test s p is (inl same) = absurd (nobody s (rw same.1 is))
      by_test s p is (inr apart) = rw apart.0 refl

      by_view : (s : ℕ) (view : Option ℕ) → view_of (state_of shown (suc s)) ≡ view
          → noted_at old s ≡ cond (is_view_among (λ p. pair == p) view) (Some distance) (noted_at old s)
      by_view s None is = refl
      by_view s (Some p) is = by_test s p is (eqb_tells pair p)

  -- nobody shows the view of a pair that isn't declared
  pub view-undeclared : (old : List (Option ℕ)) → length setup.pairs ≤ pair → NotesViews shown (λ p. pair == p) distance old old
  view-undeclared old past = view-nobody old (λ s is. let own = fit.views (suc s) pair is in
      let both : None ≡ Some own.0 = sym (slice_get_past setup.pairs pair past) ∙ own.1 in absurd (cc))

  -- who shows the view, is its owner
  owner-only : (declared : PairDecl) → slice_get setup.pairs pair ≡ Some declared → (s : ℕ) → view_of (state_of shown s) ≡ Some pair → declared.view.0 ≡ s
  owner-only declared at s is =
      let own = fit.views s pair is in
      let both : Some declared ≡ Some own.0 = sym at ∙ own.1 in
      let same : declared ≡ own.0 = cc in
      ap (λ (n : SessionNo). n.0) (ap (λ (d : PairDecl). d.view) same ∙ own.2)

  pub view-beyond : (old : List (Option ℕ)) (declared : PairDecl) → slice_get setup.pairs pair ≡ Some declared
      → (declared.view.0 ≡ 0) ⊎ (length shown < declared.view.0) → NotesViews shown (λ p. pair == p) distance old old
  view-beyond old declared at beyond = view-nobody old
      (λ s is. let within = number-within setup shown fit (suc s) pair is in by_side beyond (owner-only declared at (suc s) is) within.1)
    where
      by_side : {s : ℕ} → (declared.view.0 ≡ 0) ⊎ (length shown < declared.view.0) → declared.view.0 ≡ suc s → suc s ≤ length shown → ⊥
      by_side (inl zero_is) same within = absurd (omega (arith, zero_is, same))
      by_side (inr past) same within = absurd (omega (arith, past, same, within))

  pub view-hidden : (old : List (Option ℕ)) (declared : PairDecl) → slice_get setup.pairs pair ≡ Some declared
      → is_view_of pair (view_of (state_of shown declared.view.0)) ≡ false → NotesViews shown (λ p. pair == p) distance old old
  view-hidden old declared at hidden = view-nobody old (λ s is.
      let same : declared.view.0 ≡ suc s = owner-only declared at (suc s) is in
      let there : view_of (state_of shown declared.view.0) ≡ Some pair = rw same is in
      let test : (pair == pair) ≡ false = rw there at hidden in
      let wrong : true ≡ false = sym (eqb-refl pair) ∙ test in
      absurd (cc))

  -- it is noted of who shows the view
  pub view-noted : (old : List (Option ℕ)) (declared : PairDecl) → length old ≡ length shown → slice_get setup.pairs pair ≡ Some declared → 0 < declared.view.0
      → declared.view.0 ≤ length shown
      → is_view_of pair (view_of (state_of shown declared.view.0)) ≡ true
      → NotesViews shown (λ p. pair == p) distance old (slice_set old (declared.view.0 - 1) (Some distance))
  view-noted old declared all at some few shows = record {
    count = length-set old (declared.view.0 - 1) (Some distance);
    each = λ s. by_view s (view_of (state_of shown (suc s))) refl;
  }
    where
      view_is : (view : Option ℕ) → is_view_of pair view ≡ true → view ≡ Some pair
      view_is None e = absurd (cc)
      view_is (Some q) e = ap (λ (n : ℕ). Some n) (eqb-same q pair e)

      viewed : view_of (state_of shown declared.view.0) ≡ Some pair
      viewed = view_is (view_of (state_of shown declared.view.0)) shows

      other : (s : ℕ) → view_of (state_of shown (suc s)) ≢ Some pair → noted_at (slice_set old (declared.view.0 - 1) (Some distance)) s ≡ noted_at old s
      other s not =
          let apart : s ≢ declared.view.0 - 1 = λ e. let same : declared.view.0 ≡ suc s = omega (arith, e, some) in not (rw same at viewed) in
          get_or-set_other old (declared.view.0 - 1) s (Some distance) None apart

      by_test : (s p : ℕ) → view_of (state_of shown (suc s)) ≡ Some p → ((◌≡◌ (pair == p) true) × (pair ≡ p)) ⊎ ((◌≡◌ (pair == p) false) × (pair ≢ p))
          → noted_at (slice_set old (declared.view.0 - 1) (Some distance)) s ≡ cond (pair == p) (Some distance) (noted_at old s)
      by_test s p is (inl same) =
          let owner : declared.view.0 ≡ suc s = owner-only declared at (suc s) (rw (sym same.1) at is) in
          let place : declared.view.0 - 1 ≡ s = omega (arith, owner) in
          let within : declared.view.0 - 1 < length old = omega (arith, all, some, few) in
          let here : noted_at (slice_set old (declared.view.0 - 1) (Some distance)) (declared.view.0 - 1) ≡ Some distance =
          get_or-set_same old (declared.view.0 - 1) (Some distance) None within in
          let there : noted_at (slice_set old (declared.view.0 - 1) (Some distance)) s ≡ Some distance =
          ap (noted_at (slice_set old (declared.view.0 - 1) (Some distance))) (sym place) ∙ here in
          rw same.0 there
      by_test s p is (inr apart) = rw apart.0 (other s (λ e. apart.1 (some-same pair p (sym e ∙ is))))

      by_view : (s : ℕ) (view : Option ℕ) → view_of (state_of shown (suc s)) ≡ view
          → noted_at (slice_set old (declared.view.0 - 1) (Some distance)) s ≡ cond (is_view_among (λ p. pair == p) view) (Some distance) (noted_at old s)
      by_view s None is = other s (λ e. let wrong : None ≡ Some pair = sym is ∙ e in absurd (cc))
      by_view s (Some p) is = by_test s p is (eqb_tells pair p)

-- ---- round by round

module _ (setup : Setup) (shown : Shown) (fit : FitsSetup setup shown) where
  no-session : (far : ℕ) → IsConnectedThrough setup shown far 0 → ⊥
  no-session far way = absurd (omega (arith, (connected-within setup shown fit far 0 way).0))

  nothing-below : (far c s : ℕ) {P : Type 0} → s ≤ 0 → IsConnectedThrough setup shown far s → P
  nothing-below far c s zero_is way = let none : s ≡ 0 = omega (arith, zero_is) in absurd (no-session far (rw none at way))

  -- nothing is noted but whose view is the display's
  pub top-found : (new none : List (Option ℕ)) (p : ℕ) → display_pair setup ≡ Some p → length none ≡ length shown → ((s : ℕ) → noted_at none s ≡ None)
      → NotesViews shown (λ q. p == q) 0 none new → IsFinding setup shown 0 0 new
  top-found new none p display all empty notes = record {
    count = notes.count ∙ all;
    right = λ s d is. by_among s d (is_view_among (λ q. p == q) (view_of (state_of shown (suc s)))) refl (sym (notes.each s) ∙ is);
    near = λ s d low way. near_by s d low way;
    below = λ c s low below way. nothing-below 0 c s low way;
  }
    where
      by_among : (s d : ℕ) (b : Bool) → is_view_among (λ q. p == q) (view_of (state_of shown (suc s))) ≡ b → cond b (Some 0) (noted_at none s) ≡ Some d
          → IsConnectedThrough setup shown d (suc s)
      by_among s d true is found =
          let among = among-is (view_of (state_of shown (suc s))) (λ q. p == q) is in
          let same : p ≡ among.0 = eqb-same p among.0 among.2 in
          let none_between : 0 ≡ d = cc in
          subst (λ n. IsConnectedThrough setup shown n (suc s)) none_between
          (record { pair = p; viewport = display; view = among.1 ∙ ap (λ (n : ℕ). Some n) (sym same) })
      by_among s d false is found = let wrong : None ≡ Some d = sym (empty s) ∙ found in absurd (cc)

      near_by : (s d : ℕ) → d ≤ 0 → IsConnectedThrough setup shown d (suc s) → noted_at new s ≡ Some d
      near_by s zero low top =
          let both : Some top.pair ≡ Some p = sym top.viewport ∙ display in
          let same : top.pair ≡ p = cc in
          let view : view_of (state_of shown (suc s)) ≡ Some p = rw same at top.view in
          notes.each s ∙ rw (view, eqb-refl p) refl
      near_by s (suc d) low way = absurd (omega (arith, low))

  pub none-found : (none : List (Option ℕ)) → display_pair setup ≡ None → length none ≡ length shown → ((s : ℕ) → noted_at none s ≡ None)
      → IsFinding setup shown 0 0 none
  none-found none display all empty = record {
    count = all;
    right = λ s d is. let wrong : None ≡ Some d = sym (empty s) ∙ is in absurd (cc);
    near = λ s d low way. near_by s d low way;
    below = λ c s low below way. nothing-below 0 c s low way;
  }
    where
      near_by : (s d : ℕ) → d ≤ 0 → IsConnectedThrough setup shown d (suc s) → noted_at none s ≡ Some d
      near_by s zero low top = let wrong : None ≡ Some top.pair = sym display ∙ top.viewport in absurd (cc)
      near_by s (suc d) low way = absurd (omega (arith, low))

  -- a session at the distance, below which are those that show a view of its viewports
  found-below : (far s : ℕ) (old new : List (Option ℕ)) → IsFinding setup shown far s old → noted_at old s ≡ Some far
      → NotesViews shown (λ p. is_shown_by shown p (suc s)) (suc far) old new → IsFinding setup shown far (suc s) new
  found-below far s old new finding at notes = record {
    count = notes.count ∙ finding.count;
    right = λ c d is. right_by c d (is_view_among (λ p. is_shown_by shown p (suc s)) (view_of (state_of shown (suc c)))) refl (sym (notes.each c) ∙ is);
    near = λ c d low way. notes.each c ∙ near_by c d (is_view_among (λ p. is_shown_by shown p (suc s)) (view_of (state_of shown (suc c)))) refl low way;
    below = λ c t low below way. notes.each c ∙ below_by c t (is_view_among (λ p. is_shown_by shown p (suc s)) (view_of (state_of shown (suc c)))) refl low
        below way;
  }
    where
      here : IsConnectedThrough setup shown far (suc s)
      here = finding.right s far at

      farther : (c : ℕ) → is_view_among (λ p. is_shown_by shown p (suc s)) (view_of (state_of shown (suc c))) ≡ true
          → IsConnectedThrough setup shown (suc far) (suc c)
      farther c is =
          let among = among-is (view_of (state_of shown (suc c))) (λ p. is_shown_by shown p (suc s)) is in
          (suc s, record { pair = among.0; viewport = shown-contains shown among.0 (suc s) among.2; view = among.1 }, here)

      right_by : (c d : ℕ) (b : Bool) → is_view_among (λ p. is_shown_by shown p (suc s)) (view_of (state_of shown (suc c))) ≡ b
          → cond b (Some (suc far)) (noted_at old c) ≡ Some d → IsConnectedThrough setup shown d (suc c)
      right_by c d true is found = let same : suc far ≡ d =
          some-same (suc far) d found in subst (λ n. IsConnectedThrough setup shown n (suc c)) same (farther c is)
      right_by c d false is found = finding.right c d found

      near_by : (c d : ℕ) (b : Bool) → is_view_among (λ p. is_shown_by shown p (suc s)) (view_of (state_of shown (suc c))) ≡ b → d ≤ far
          → IsConnectedThrough setup shown d (suc c) → cond b (Some (suc far)) (noted_at old c) ≡ Some d
      near_by c d true is low way = let same : suc far ≡ d =
          distance-one setup shown fit (suc far) d (suc c) (farther c is) way in absurd (omega (arith, same, low))
      near_by c d false is low way = finding.near c d low way

      not_among : (c : ℕ) → is_view_among (λ p. is_shown_by shown p (suc s)) (view_of (state_of shown (suc c))) ≡ false → IsBelow shown (suc c) (suc s) → ⊥
      not_among c is below =
          let shows_it : is_shown_by shown below.pair (suc s) ≡ true = contains-shown shown below.pair (suc s) below.viewport in
          let among : is_shown_by shown below.pair (suc s) ≡ false = rw below.view at is in
          let wrong : true ≡ false = sym shows_it ∙ among in absurd (cc)

      below_by : (c t : ℕ) (b : Bool) → is_view_among (λ p. is_shown_by shown p (suc s)) (view_of (state_of shown (suc c))) ≡ b → t ≤ suc s
          → IsBelow shown (suc c) t → IsConnectedThrough setup shown far t
          → cond b (Some (suc far)) (noted_at old c) ≡ Some (suc far)
      below_by c t true is low below way = refl
      below_by c t false is low below way = by_number (cases_lt s t)
        where
          by_number : (s < t) ⊎ (t ≤ s) → noted_at old c ≡ Some (suc far)
          by_number (inl last) = let same : t ≡ suc s = omega (arith, last, low) in absurd (not_among c is (rw same at below))
          by_number (inr earlier) = finding.below c t earlier below way

  -- a session at another distance
  found-beside : (far s : ℕ) (old : List (Option ℕ)) → IsFinding setup shown far s old → noted_at old s ≢ Some far → IsFinding setup shown far (suc s) old
  found-beside far s old finding apart = record {
    count = finding.count;
    right = finding.right;
    near = finding.near;
    below = λ c t low below way. by_number c t low below way (cases_lt s t);
  }
    where
      by_number : (c t : ℕ) → t ≤ suc s → IsBelow shown (suc c) t → IsConnectedThrough setup shown far t → (s < t) ⊎ (t ≤ s) → noted_at old c ≡ Some (suc far)
      by_number c t low below way (inl last) = let same : t ≡ suc s =
          omega (arith, last, low) in absurd (apart (finding.near s far (omega arith) (rw same at way)))
      by_number c t low below way (inr earlier) = finding.below c t earlier below way

  -- all sessions at the distance are done
  found-round : (far done : ℕ) (now : List (Option ℕ)) → IsFinding setup shown far done now → length shown ≤ done → IsFinding setup shown (suc far) 0 now
  found-round far done now finding all = record {
    count = finding.count;
    right = finding.right;
    near = λ c d low way. near_by c d low way (cases_lt far d);
    below = λ c s low below way. nothing-below (suc far) c s low way;
  }
    where
      next : (c d : ℕ) → d ≡ suc far → IsConnectedThrough setup shown d (suc c) → noted_at now c ≡ Some (suc far)
      next c d same way =
          let last : IsConnectedThrough setup shown (suc far) (suc c) = rw same at way in
          let within = connected-within setup shown fit far last.0 last.2 in
          finding.below c last.0 (omega (arith, within.1, all)) last.1 last.2

      near_by : (c d : ℕ) → d ≤ suc far → IsConnectedThrough setup shown d (suc c) → (far < d) ⊎ (d ≤ far) → noted_at now c ≡ Some d
      near_by c d low way (inl last) = let same : d ≡ suc far = omega (arith, last, low) in next c d same way ∙ ap (λ (n : ℕ). Some n) (sym same)
      near_by c d low way (inr near) = finding.near c d near way

  -- all rounds are done
  pub all-found : (far done : ℕ) (now : List (Option ℕ)) → IsFinding setup shown far done now → length shown ≤ far → AreDistances setup shown now
  all-found far done now finding all = λ s d. (
    finding.right s d,
    λ way. let low : d < length shown = distance-low setup shown fit d (suc s) way in
        finding.near s d (omega (arith, low, all)) way,
  )

  -- whether a distance is noted tells whether the session is connected
  all-joined : (now : List (Option ℕ)) → AreDistances setup shown now → ((c : ℕ) → IsTrue (is_joined setup shown c) ↔ IsConnected setup shown c)
      → (s : ℕ) → is_some (noted_at now s) ≡ is_joined setup shown (suc s)
  all-joined now are law s = by_noted (noted_at now s) refl
    where
      by_noted : (noted : Option ℕ) → noted_at now s ≡ noted → is_some noted ≡ is_joined setup shown (suc s)
      by_noted (Some d) is = sym ((law (suc s)).1 (d, (are s d).0 is))
      by_noted None is = by_joined (is_joined setup shown (suc s)) refl
        where
          by_joined : (b : Bool) → is_joined setup shown (suc s) ≡ b → false ≡ b
          by_joined false e = refl
          by_joined true e = let connected = (law (suc s)).0 e in let wrong : None ≡ Some connected.0 =
              sym is ∙ (are s connected.0).1 connected.1 in absurd (cc)

  -- the same, as the code counts
  pub found-next : (far s : ℕ) (old new : List (Option ℕ)) → IsFinding setup shown far s old → noted_at old s ≡ Some far
      → NotesViews shown (λ p. is_shown_by shown p (s + 1)) (far + 1) old new → IsFinding setup shown far (s + 1) new
  found-next far s old new finding at notes =
      let farther : NotesViews shown (λ p. is_shown_by shown p (s + 1)) (suc far) old new =
      subst (λ d. NotesViews shown (λ p. is_shown_by shown p (s + 1)) d old new) (add-one far) notes in
      let here : NotesViews shown (λ p. is_shown_by shown p (suc s)) (suc far) old new =
      subst (λ t. NotesViews shown (λ p. is_shown_by shown p t) (suc far) old new) (add-one s) farther in
      subst (λ t. IsFinding setup shown far t new) (sym (add-one s)) (found-below far s old new finding at here)

  pub found-past : (far s : ℕ) (old : List (Option ℕ)) → IsFinding setup shown far s old → noted_at old s ≢ Some far → IsFinding setup shown far (s + 1) old
  found-past far s old finding apart = subst (λ t. IsFinding setup shown far t old) (sym (add-one s)) (found-beside far s old finding apart)

  pub found-all : (far done : ℕ) (now : List (Option ℕ)) → IsFinding setup shown far done now → length shown ≤ done → IsFinding setup shown (far + 1) 0 now
  found-all far done now finding all = subst (λ d. IsFinding setup shown d 0 now) (sym (add-one far)) (found-round far done now finding all)

  pub each-joined : (now : List (Option ℕ)) → AreDistances setup shown now → ((c : ℕ) → IsTrue (is_joined setup shown c) ↔ IsConnected setup shown c)
      → (s : ℕ) → is_some (noted_at now s) ≡ is_joined setup shown (s + 1)
  each-joined now are law s = subst (λ t. is_some (noted_at now s) ≡ is_joined setup shown t) (sym (add-one s)) (all-joined now are law s)

-- ---- nothing is noted

pub none-more : (xs : List (Option ℕ)) (i : ℕ) → i < length xs → ((s : ℕ) → s < i → noted_at xs s ≡ None) → (s : ℕ) → s < i + 1
    → noted_at (slice_set xs i None) s ≡ None
none-more xs i within before s low = by_place (cases_lt s i)
  where
    by_place : (s < i) ⊎ (i ≤ s) → noted_at (slice_set xs i None) s ≡ None
    by_place (inl earlier) = let apart : s ≢ i = λ e. absurd (omega (arith, e, earlier)) in get_or-set_other xs i s None None apart ∙ before s earlier
    by_place (inr later) = let same : s ≡ i = omega (arith, later, low) in rw same (get_or-set_same xs i None None within)

pub none-all : (xs : List (Option ℕ)) (i : ℕ) → length xs ≤ i → ((s : ℕ) → s < i → noted_at xs s ≡ None) → (s : ℕ) → noted_at xs s ≡ None
none-all xs i all before s = by_place (cases_lt s i)
  where
    by_place : (s < i) ⊎ (i ≤ s) → noted_at xs s ≡ None
    by_place (inl earlier) = before s earlier
    by_place (inr past) = get_or_past xs s None (omega (arith, past, all))

-- ---- the viewports of a session

-- a session of which nothing is shown
pub notes-nothing : (shown : Shown) (distance s : ℕ) (old : List (Option ℕ)) → None ≡ state_of shown s
    → NotesViews shown (λ p. is_shown_by shown p s) distance old old
notes-nothing shown distance s old none =
    notes-none shown distance old (λ p. is_shown_by shown p s) (λ p. ap (λ (o : Option Tree). list_any (λ q. q == p) (pairs_in (nodes_of o))) (sym none))

-- a session of which this is shown
pub notes-shown : (shown : Shown) (distance s : ℕ) (old new : List (Option ℕ)) (tree shared : Tree) → tree ≡ shared → Some shared ≡ state_of shown s
    → NotesViews shown (λ p. list_any (λ n. leads_to p n.content) (flat_nodes tree)) distance old new
    → NotesViews shown (λ p. is_shown_by shown p s) distance old new
notes-shown shown distance s old new tree shared same state =
    notes-same shown distance old new (λ p. list_any (λ n. leads_to p n.content) (flat_nodes tree)) (λ p. is_shown_by shown p s)
    (λ p. shown-flat shown p s tree shared same state)

-- a content that is no viewport
pub notes-unlinked : (shown : Shown) (distance : ℕ) (old : List (Option ℕ)) (what : Option Content) → is_viewport what ≡ false
    → NotesViews shown (λ p. leads_to p what) distance old old
notes-unlinked shown distance old what is = notes-none shown distance old (λ p. leads_to p what) (λ p. only-viewports p what is)

-- the first viewports of a state, then all
abbrev pub leads_before : List FlatNode → ℕ → ℕ → Bool
leads_before ns i p = list_any (leads_at p (contents_of ns)) (take i (viewport_places 0 (contents_of ns)))

pub notes-first : (shown : Shown) (distance : ℕ) (old : List (Option ℕ)) (ns : List FlatNode) → NotesViews shown (leads_before ns 0) distance old old
notes-first shown distance old ns = notes-none shown distance old (leads_before ns 0)
    (λ p. ap (list_any (leads_at p (contents_of ns))) (take-zero (viewport_places 0 (contents_of ns))))
  where
    take-zero : (xs : List ℕ) → take 0 xs ≡ []
    take-zero [] = refl
    take-zero (x ∷ xs) = refl

pub notes-next : (shown : Shown) (distance i place : ℕ) (old mid new : List (Option ℕ)) (ns : List FlatNode) (n : FlatNode)
    → i < length (viewport_places 0 (contents_of ns))
    → place ≡ get_or (viewport_places 0 (contents_of ns)) i 0 → slice_get ns place ≡ Some n
    → NotesViews shown (leads_before ns i) distance old mid → NotesViews shown (λ p. leads_to p n.content) distance mid new
    → NotesViews shown (leads_before ns (i + 1)) distance old new
notes-next shown distance i place old mid new ns n low is at before after =
    notes-same shown distance old new (λ p. leads_before ns i p || leads_to p n.content) (leads_before ns (i + 1)) same
    (notes-more shown distance old mid new (leads_before ns i) (λ p. leads_to p n.content) before after)
  where
    same : (p : ℕ) → (leads_before ns i p || leads_to p n.content) ≡ leads_before ns (i + 1) p
    same p =
        let more = list_any_more (leads_at p (contents_of ns)) (viewport_places 0 (contents_of ns)) i 0 low in
        let there : leads_at p (contents_of ns) (get_or (viewport_places 0 (contents_of ns)) i 0) ≡ leads_to p n.content =
        ap (leads_at p (contents_of ns)) (sym is) ∙ leads-there p ns place n at in
        sym (more ∙ ap (λ (b : Bool). leads_before ns i p || b) there)

pub notes-all : (shown : Shown) (distance i : ℕ) (old new : List (Option ℕ)) (ns : List FlatNode) → length (viewport_places 0 (contents_of ns)) ≤ i
    → NotesViews shown (leads_before ns i) distance old new → NotesViews shown (λ p. list_any (λ n. leads_to p n.content) ns) distance old new
notes-all shown distance i old new ns all =
    notes-same shown distance old new (leads_before ns i) (λ p. list_any (λ n. leads_to p n.content) ns)
    (λ p. ap (list_any (leads_at p (contents_of ns))) (take_all i (viewport_places 0 (contents_of ns)) all) ∙ any-viewport p ns)
