-- The joined tree is whole: no session is farther from the display than there are sessions.
use Rattle.std.proofs.Common.{sym, ℕ, zero, suc, ◌+◌, ◌<◌, ◌≤◌, ◌≡◌, ◌≢◌, ◌⊎◌, inl, inr, refl, ap, true, false, ◌||◌, eqb, List, [], ◌∷◌, length, Option, Some}
use Rattle.std.proofs.Common.{None, slice_index_or, arith}
use Rattle.std.specs.List.{IsDistinct, AllByRecursion, list_any}
use Rattle.std.proofs.lemmas.Bool.Decides.{eqb_tells}
use Rattle.std.proofs.lemmas.List.{get_or_past}
use Rattle.std.proofs.lemmas.Bool.{cases_lt, or_right}
use Rattle.std.proofs.lemmas.Map.Steps.{length-le_from_distinct_below}
use Rattle.flat_scene.specs.declared.setup.Setup.{Setup}
use Rattle.flat_scene.specs.declared.trees.Children.{Children}
use Rattle.flat_scene.specs.declared.trees.Children.TheVariants.{Empty}
use Rattle.flat_scene.specs.declared.trees.Content.{Content}
use Rattle.flat_scene.specs.declared.trees.Content.TheVariants as content
use Rattle.flat_scene.specs.Trees.{first}
use Rattle.flat_topology.specs.Shown.{Shown, state_of, view_of, pair_in, pairs_in}
use Rattle.flat_topology.specs.Pairs.{display_pair}
use Rattle.flat_topology.specs.Links.{IsConnectedThrough}
use Rattle.flat_topology.specs.Fit.{FitsSetup}
use Rattle.flat_topology.specs.Join.{JoinedTree, nothing, child_view, Viewer, viewer_from, linked_to, joined_nodes, viewed, led_to}
use Rattle.flat_topology.proofs.lemmas.Distinct.{in-first, in-second, in-third, In, Distinct, contains-in}
use Rattle.flat_topology.proofs.lemmas.Distances.{viewer-state, distance-one}

-- ---- different numbers below a bound are at most as many as the bound

all-differ : (x : ℕ) (xs : List ℕ) → ¬ In x xs → AllByRecursion (λ y. eqb x y ≡ false) xs
all-differ x [] not = tt
all-differ x (y ∷ ys) not = (by_test (eqb_tells x y), all-differ x ys (λ on. not (inr on)))
  where
    by_test : ((eqb x y ≡ true) × (x ≡ y)) ⊎ ((eqb x y ≡ false) × (x ≢ y)) → eqb x y ≡ false
    by_test (inl same) = absurd (not (inl same.1))
    by_test (inr apart) = apart.0

is-distinct : (xs : List ℕ) → Distinct xs → IsDistinct eqb xs
unfolding IsDistinct
is-distinct [] d = tt
is-distinct (x ∷ xs) d = (all-differ x xs d.0, is-distinct xs d.1)

-- a number that stands in a list is found there
pub found-in : (x : ℕ) (xs : List ℕ) → list_any (λ y. eqb y x) xs ≡ true → In x xs
found-in x [] e = absurd (cc)
found-in x (y ∷ ys) e = by_test (eqb_tells y x) e (found-in x ys)
  where
    by_test : ((eqb y x ≡ true) × (y ≡ x)) ⊎ ((eqb y x ≡ false) × (y ≢ x)) → (eqb y x || list_any (λ z. eqb z x) ys) ≡ true
        → (list_any (λ z. eqb z x) ys ≡ true → In x ys) → In x (y ∷ ys)
    by_test (inl same) found later = inl (sym same.1)
    by_test (inr apart) found later = inr (later (rw apart.0 at found))

pub in-found : (x : ℕ) (xs : List ℕ) → In x xs → list_any (λ y. eqb y x) xs ≡ true
in-found x [] on = absurd on
in-found x (y ∷ ys) (inl same) = by_test (eqb_tells y x)
  where
    by_test : ((eqb y x ≡ true) × (y ≡ x)) ⊎ ((eqb y x ≡ false) × (y ≢ x)) → (eqb y x || list_any (λ z. eqb z x) ys) ≡ true
    by_test (inl here) = rw here.0 refl
    by_test (inr apart) = absurd (apart.1 (sym same))
in-found x (y ∷ ys) (inr on) = or_right (eqb y x) (list_any (λ z. eqb z x) ys) (in-found x ys on)

in-any : (x : ℕ) (xs : List ℕ) → list_any (eqb x) xs ≡ true → In x xs
in-any x [] e = absurd (cc)
in-any x (y ∷ ys) e = by_test (eqb_tells x y) e (in-any x ys)
  where
    by_test : ((eqb x y ≡ true) × (x ≡ y)) ⊎ ((eqb x y ≡ false) × (x ≢ y)) → (eqb x y || list_any (eqb x) ys) ≡ true
        → (list_any (eqb x) ys ≡ true → In x ys) → In x (y ∷ ys)
    by_test (inl same) found later = inl same.1
    by_test (inr apart) found later = inr (later (rw apart.0 at found))

pub few-below : (n : ℕ) (xs : List ℕ) → Distinct xs → ((x : ℕ) → In x xs → x < n) → length xs ≤ n
few-below n xs d below = length-le_from_distinct_below xs n (is-distinct xs d) (λ x e. below x (in-any x xs e))

-- ---- nodes are joined alike by two ways that agree on their pairs

linked-same : (led led' : ℕ → JoinedTree) (what : Option Content) → ((q : ℕ) → In q (pair_in what) → led q ≡ led' q)
    → linked_to led what ≡ linked_to led' what
linked-same led led' None same = refl
linked-same led led' (Some (content.Fill serial rgba w h)) same = refl
linked-same led led' (Some (content.Image serial buffers index sample w h blend flip opacity)) same = refl
linked-same led led' (Some (content.Viewport serial pair props)) same = same pair.0 (inl refl)

nodes-same : (led led' : ℕ → JoinedTree) (s : ℕ) (nodes : Children) → ((q : ℕ) → In q (pairs_in nodes) → led q ≡ led' q)
    → joined_nodes led s nodes ≡ joined_nodes led' s nodes
nodes-same led led' s Empty same = refl
nodes-same led led' s (first serial scale turn place clip opacity hits what children rest) same =
    rw (
      linked-same led led' what (λ q on. same q (in-first q (pair_in what) (pairs_in children) (pairs_in rest) on)),
      nodes-same led led' s children (λ q on. same q (in-second q (pair_in what) (pairs_in children) (pairs_in rest) on)),
      nodes-same led led' s rest (λ q on. same q (in-third q (pair_in what) (pairs_in children) (pairs_in rest) on)),
    ) refl

-- ---- distances

module _ (setup : Setup) (shown : Shown) (fit : FitsSetup setup shown) where
  -- c and the sessions through which it is connected
  upwards : (d c : ℕ) → IsConnectedThrough setup shown d c → List ℕ
  upwards zero c x = c ∷ []
  upwards (suc d) c x = c ∷ upwards d x.0 x.2

  length-upwards : (d c : ℕ) (x : IsConnectedThrough setup shown d c) → length (upwards d c x) ≡ suc d
  unfolding upwards
  length-upwards zero c x = omega arith
  length-upwards (suc d) c x = let rest : length (upwards d x.0 x.2) ≡ suc d = length-upwards d x.0 x.2 in omega (arith, rest)

  in-upwards : (d c : ℕ) (x : IsConnectedThrough setup shown d c) (y : ℕ) → In y (upwards d c x)
      → (e : ℕ) × (e ≤ d) × IsConnectedThrough setup shown e y
  unfolding upwards
  in-upwards zero c x y (inl same) = (0, omega arith, rw same x)
  in-upwards (suc d) c x y (inl same) = (suc d, omega arith, rw same x)
  in-upwards zero c x y (inr on) = absurd on
  in-upwards (suc d) c x y (inr on) = let rest = in-upwards d x.0 x.2 y on in (rest.0, omega (arith, rest.1), rest.2)

  distinct-upwards : (d c : ℕ) (x : IsConnectedThrough setup shown d c) → Distinct (upwards d c x)
  unfolding upwards
  distinct-upwards zero c x = (λ on. on, tt)
  distinct-upwards (suc d) c x = (
    λ on. let up = in-upwards d x.0 x.2 c on in let same : up.0 ≡ suc d =
        distance-one setup shown fit up.0 (suc d) c up.2 x in absurd (omega (arith, same, up.1)),
    distinct-upwards d x.0 x.2,
  )

  has-view : (d c : ℕ) → IsConnectedThrough setup shown d c → (p : ℕ) × (view_of (state_of shown c) ≡ Some p)
  has-view zero c x = (x.pair, x.view)
  has-view (suc d) c x = (x.1.pair, x.1.view)

  -- who shows a view, has a number of the list
  pub number-within : (c p : ℕ) → view_of (state_of shown c) ≡ Some p → (0 < c) × (c ≤ length shown)
  number-within zero p e = absurd (cc)
  number-within (suc i) p e = (omega arith, by_length (cases_lt i (length shown)))
    where
      by_length : (i < length shown) ⊎ (length shown ≤ i) → suc i ≤ length shown
      by_length (inl h) = omega arith
      by_length (inr h) =
          let past : slice_index_or shown i None ≡ None = get_or_past shown i None h in
          let none : ◌≡◌ {A = Option ℕ} None (Some p) = rw past at e in
          absurd (cc)

  pub connected-within : (d c : ℕ) → IsConnectedThrough setup shown d c → (0 < c) × (c ≤ length shown)
  connected-within d c x = let v = has-view d c x in number-within c v.0 v.1

  -- fewer sessions are between a session and the display than there are
  pub distance-low : (d c : ℕ) → IsConnectedThrough setup shown d c → d < length shown
  distance-low d c x =
      let no_zero : ¬ In 0 (upwards d c x) = λ on. let up = in-upwards d c x 0 on in absurd (omega (arith, (connected-within up.0 0 up.2).0)) in
      let all_differ : Distinct (0 ∷ upwards d c x) = (no_zero, distinct-upwards d c x) in
      let few : length (0 ∷ upwards d c x) ≤ length shown + 1 = few-below (length shown + 1) (0 ∷ upwards d c x) all_differ (λ y on. bound y on) in
      omega (arith, few, length-upwards d c x)
    where
      bound : (y : ℕ) → In y (0 ∷ upwards d c x) → y < length shown + 1
      bound y (inl same) = omega (arith, same)
      bound y (inr on) = let up = in-upwards d c x y on in omega (arith, (connected-within up.0 y up.2).1)

  -- one view more changes nothing, where what a pair leads to is as far away as there are sessions without it
  led-more : (views d p : ℕ) → ((s : ℕ) → view_of (state_of shown s) ≡ Some p → IsConnectedThrough setup shown d s) → length shown ≤ d + views
      → led_to shown views p ≡ led_to shown (suc views) p
  led-more zero d p live enough = by_viewer (viewer_from 1 shown p) refl
    where
      by_viewer : (found : Option Viewer) → viewer_from 1 shown p ≡ found → nothing ≡ viewed (led_to shown 0) found
      by_viewer None e = refl
      by_viewer (Some viewer) e =
          let low : d < length shown = distance-low d viewer.session (live viewer.session (viewer-state shown p viewer e).0) in
          absurd (omega (arith, low, enough))
  led-more (suc views) d p live enough = by_viewer (viewer_from 1 shown p) refl (λ q below. led-more views (suc d) q below (omega (arith, enough)))
    where
      by_viewer : (found : Option Viewer) → viewer_from 1 shown p ≡ found
          → ((q : ℕ) → ((s : ℕ) → view_of (state_of shown s) ≡ Some q → IsConnectedThrough setup shown (suc d) s)
          → led_to shown views q ≡ led_to shown (suc views) q)
          → viewed (led_to shown views) found ≡ viewed (led_to shown (suc views)) found
      by_viewer None e again = refl
      by_viewer (Some viewer) e again =
          let state = viewer-state shown p viewer e in
          ap (child_view viewer.session) (nodes-same (led_to shown views) (led_to shown (suc views)) viewer.session viewer.nodes
          (λ q on. again q (λ s view. (
            viewer.session,
            record { pair = q; viewport = contains-in q _ (rw (← state.1) on); view = view },
            live viewer.session state.0,
          ))))

  pub led-whole : (p : ℕ) → display_pair setup ≡ Some p → led_to shown (length shown) p ≡ led_to shown (suc (length shown)) p
  led-whole p display = led-more (length shown) 0 p (λ s view. record { pair = p; viewport = display; view = view }) (omega arith)
