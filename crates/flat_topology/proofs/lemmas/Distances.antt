-- Each connected session has one distance from the display.
use Rattle.std.proofs.Common.{ℕ, zero, suc, ◌+◌, ◌≡◌, ◌≢◌, ◌⊎◌, inl, inr, refl, sym, ◌∙◌, ap, subst, Bool, true, false, cond, List, [], ◌∷◌, Option, Some, None}
use Rattle.std.proofs.Common.{slice_get, slice_index_or, arith}
use Rattle.std.specs.Prelude.{◌==◌}
use Rattle.std.specs.List.{position_from}
use Rattle.std.proofs.lemmas.Bool.Decides.{eqb_tells}
use Rattle.flat_base.specs.declared.ids.Actor.{Actor}
use Rattle.flat_base.specs.declared.ids.Actor.TheVariants.{Display, Session, Probe}
use Rattle.flat_base.specs.declared.ids.SessionNo.{SessionNo}
use Rattle.flat_scene.specs.declared.setup.PairDecl.{PairDecl}
use Rattle.flat_scene.specs.declared.setup.Setup.{Setup}
use Rattle.flat_scene.specs.declared.trees.Tree.{Tree}
use Rattle.flat_topology.specs.Shown.{Shown, state_of, view_of, nodes_of}
use Rattle.flat_scene.specs.History.{is_display}
use Rattle.flat_topology.specs.Pairs.{display_pair}
use Rattle.flat_topology.specs.Owners.{OwnsView, OwnsViewport}
use Rattle.flat_topology.specs.Links.{IsBelow, IsTop, IsConnectedThrough, HangsBelow}
use Rattle.flat_topology.specs.Fit.{FitsSetup}
use Rattle.flat_topology.specs.Join.{Viewer, viewer_from, is_view_of}

-- ---- who owns what

-- among the pairs from a number on, p is one whose viewport end the display owns
abbrev IsDisplays : List PairDecl → ℕ → ℕ → Type 0
IsDisplays pairs from p = (i : ℕ) × (p ≡ from + i) × (pair : PairDecl) × (slice_get pairs i ≡ Some pair) × (pair.viewport ≡ Display)

abbrev display_from : ℕ → List PairDecl → Option ℕ
display_from = position_from (λ pair. is_display pair.viewport)

display-owns : (from p : ℕ) (pairs : List PairDecl) → display_from from pairs ≡ Some p → IsDisplays pairs from p
display-owns from p [] e = absurd (cc)
display-owns from p (pair ∷ pairs) e = by_actor pair.viewport refl e (display-owns (from + 1) p pairs)
  where
    one_more : IsDisplays pairs (from + 1) p → IsDisplays (pair ∷ pairs) from p
    one_more found = (suc found.0, omega (arith, found.1), found.2, found.3, found.4)

    by_actor : (actor : Actor) → pair.viewport ≡ actor → cond (is_display actor) (Some from) (display_from (from + 1) pairs) ≡ Some p
        → (display_from (from + 1) pairs ≡ Some p → IsDisplays pairs (from + 1) p) → IsDisplays (pair ∷ pairs) from p
    by_actor Display is first later = let same : from ≡ p = cc in (0, omega arith, pair, refl, is)
    by_actor (Session s) is first later = one_more (later first)
    by_actor (Probe n) is first later = one_more (later first)

session-same : (s t : ℕ) → Session (record { 0 = s }) ≡ Session (record { 0 = t }) → s ≡ t
session-same s t e = let numbers : ◌≡◌ {A = SessionNo} (record { 0 = s }) (record { 0 = t }) = cc in ap (λ (n : SessionNo). n.0) numbers

-- a pair's ends have one owner each
pub view-owner : (setup : Setup) (s t p : ℕ) → OwnsView setup s p → OwnsView setup t p → s ≡ t
view-owner setup s t p a b =
    let declared : Some a.0 ≡ Some b.0 = sym a.1 ∙ b.1 in
    let same : a.0 ≡ b.0 = cc in
    let numbers : ◌≡◌ {A = SessionNo} (record { 0 = s }) (record { 0 = t }) = sym a.2 ∙ (ap (λ (d : PairDecl). d.view) same ∙ b.2) in
    ap (λ (n : SessionNo). n.0) numbers

pub viewport-owner : (setup : Setup) (s t p : ℕ) → OwnsViewport setup s p → OwnsViewport setup t p → s ≡ t
viewport-owner setup s t p a b =
    let declared : Some a.0 ≡ Some b.0 = sym a.1 ∙ b.1 in
    let same : a.0 ≡ b.0 = cc in
    session-same s t (sym a.2 ∙ (ap (λ (d : PairDecl). d.viewport) same ∙ b.2))

display-or-session : (setup : Setup) (s p : ℕ) → display_pair setup ≡ Some p → OwnsViewport setup s p → ⊥
display-or-session setup s p display own =
    let top = display-owns 0 p setup.pairs display in
    let at : p ≡ top.0 = omega (arith, top.1) in
    let declared : Some own.0 ≡ Some top.2 = sym own.1 ∙ (ap (λ (n : ℕ). slice_get setup.pairs n) at ∙ top.3) in
    let same : own.0 ≡ top.2 = cc in
    let actors : Session (record { 0 = s }) ≡ Display = sym own.2 ∙ (ap (λ (d : PairDecl). d.viewport) same ∙ top.4) in
    absurd (cc)

-- ---- who shows a pair

-- a viewer has the state, among those from session s on, that is of the pair's view
abbrev HasState : Shown → ℕ → ℕ → Viewer → Type 0
HasState states s p viewer =
    (i : ℕ) × (viewer.session ≡ s + i) × (view_of (slice_index_or states i None) ≡ Some p) × (viewer.nodes ≡ nodes_of (slice_index_or states i None))

abbrev viewer_of : ℕ → Option Tree → Viewer
viewer_of s state = record { session = s; nodes = nodes_of state }

-- who is found has that state
viewer-shows : (s : ℕ) (states : Shown) (p : ℕ) (viewer : Viewer) → viewer_from s states p ≡ Some viewer → HasState states s p viewer
viewer-shows s [] p viewer e = absurd (cc)
viewer-shows s (state ∷ states) p viewer e = by_view (view_of state) refl e (viewer-shows (s + 1) states p viewer)
  where
    one_more : HasState states (s + 1) p viewer → HasState (state ∷ states) s p viewer
    one_more found = (suc found.0, omega (arith, found.1), found.2, found.3)

    by_view : (shown : Option ℕ) → view_of state ≡ shown
        → cond (is_view_of p shown) (Some (viewer_of s state)) (viewer_from (s + 1) states p) ≡ Some viewer
        → (viewer_from (s + 1) states p ≡ Some viewer → HasState states (s + 1) p viewer) → HasState (state ∷ states) s p viewer
    by_view None is first later = one_more (later first)
    by_view (Some q) is first later = by_test (eqb_tells q p) first
      where
        by_test : ((◌≡◌ (q == p) true) × (q ≡ p)) ⊎ ((◌≡◌ (q == p) false) × (q ≢ p))
            → cond (q == p) (Some (viewer_of s state)) (viewer_from (s + 1) states p) ≡ Some viewer → HasState (state ∷ states) s p viewer
        by_test (inl same) found =
            let here : Some (viewer_of s state) ≡ Some viewer = rw same.0 at found in
            let viewed : viewer_of s state ≡ viewer = cc in
            (0, rw (← viewed) (omega arith), rw same.1 at is, rw (← viewed) refl)
        by_test (inr apart) found = one_more (later (rw apart.0 at found))

-- the same, at the session's own state
pub viewer-state : (shown : Shown) (p : ℕ) (viewer : Viewer) → viewer_from 1 shown p ≡ Some viewer
    → (view_of (state_of shown viewer.session) ≡ Some p) × (viewer.nodes ≡ nodes_of (state_of shown viewer.session))
viewer-state shown p viewer e =
    let at = viewer-shows 1 shown p viewer e in
    let number : viewer.session ≡ suc at.0 = omega (arith, at.1) in
    (rw number at.2, rw number at.3)

-- where a state is of the pair's view, somebody is found
abbrev Finds : ℕ → Shown → ℕ → Type 0
Finds s states p = (viewer : Viewer) × (viewer_from s states p ≡ Some viewer)

found-at : (s : ℕ) (states : Shown) (p i : ℕ) → view_of (slice_index_or states i None) ≡ Some p → Finds s states p
found-at s [] p i e = absurd (cc)
found-at s (state ∷ states) p zero e = by_test (eqb_tells p p)
  where
    by_test : ((◌≡◌ (p == p) true) × (p ≡ p)) ⊎ ((◌≡◌ (p == p) false) × (p ≢ p)) → Finds s (state ∷ states) p
    by_test (inl same) = (viewer_of s state, rw (e, same.0) refl)
    by_test (inr apart) = absurd (apart.1 refl)
found-at s (state ∷ states) p (suc i) e = by_test (is_view_of p (view_of state)) (found-at (s + 1) states p i e)
  where
    by_test : (b : Bool) → Finds (s + 1) states p
        → (viewer : Viewer) × (cond b (Some (viewer_of s state)) (viewer_from (s + 1) states p) ≡ Some viewer)
    by_test true later = (viewer_of s state, refl)
    by_test false later = later

pub viewer-found : (shown : Shown) (p c : ℕ) → view_of (state_of shown c) ≡ Some p → (viewer : Viewer) × (viewer_from 1 shown p ≡ Some viewer)
viewer-found shown p zero e = absurd (cc)
viewer-found shown p (suc i) e = found-at 1 shown p i e

module _ (setup : Setup) (shown : Shown) (fit : FitsSetup setup shown) where
  -- a pair's view is one session's
  pub view-one : (c d p : ℕ) → view_of (state_of shown c) ≡ Some p → view_of (state_of shown d) ≡ Some p → c ≡ d
  view-one c d p a b = view-owner setup c d p (fit.views c p a) (fit.views d p b)

  -- a session is below one session only
  pub below-one : (c s t : ℕ) → IsBelow shown c s → IsBelow shown c t → s ≡ t
  below-one c s t a b =
      let views : Some a.pair ≡ Some b.pair = sym a.view ∙ b.view in
      let pairs : a.pair ≡ b.pair = cc in
      viewport-owner setup s t b.pair (rw pairs at (fit.viewports s a.pair a.viewport)) (fit.viewports t b.pair b.viewport)

  -- whose view is the display's, is below no session
  pub below-none : (c s : ℕ) → IsTop setup shown c → IsBelow shown c s → ⊥
  below-none c s top below =
      let views : Some below.pair ≡ Some top.pair = sym below.view ∙ top.view in
      let pairs : below.pair ≡ top.pair = cc in
      display-or-session setup s top.pair top.viewport (rw pairs at (fit.viewports s below.pair below.viewport))

  -- a session is connected through one number of sessions
  pub distance-one : (d e c : ℕ) → IsConnectedThrough setup shown d c → IsConnectedThrough setup shown e c → d ≡ e
  distance-one zero zero c x y = refl
  distance-one zero (suc e) c x y = absurd (below-none c y.0 x y.1)
  distance-one (suc d) zero c x y = absurd (below-none c x.0 y x.1)
  distance-one (suc d) (suc e) c x y =
      let above : x.0 ≡ y.0 = below-one c x.0 y.0 x.1 y.1 in
      let rest : d ≡ e = distance-one d e x.0 x.2 (rw (← above) at y.2) in
      omega (arith, rest)

  -- what hangs below a connected session is farther away
  pub distance-below : (between d c s : ℕ) → HangsBelow shown between c s → IsConnectedThrough setup shown d s
      → IsConnectedThrough setup shown (suc (d + between)) c
  distance-below zero d c s below connected =
      let P : ℕ → Type 0 = λ n. IsConnectedThrough setup shown (suc n) c in
      let same : d ≡ d + 0 = omega arith in
      subst P same (s, below, connected)
  distance-below (suc between) d c s below connected =
      let P : ℕ → Type 0 = λ n. IsConnectedThrough setup shown (suc n) c in
      let same : suc (d + between) ≡ d + suc between = omega arith in
      subst P same (below.0, below.1, distance-below between d below.0 s below.2 connected)

  -- so no connected session hangs below itself
  pub no-cycle : (s between d : ℕ) → IsConnectedThrough setup shown d s → HangsBelow shown between s s → ⊥
  no-cycle s between d connected below =
      let same : d ≡ suc (d + between) = distance-one d (suc (d + between)) s connected (distance-below between d s s below connected) in
      absurd (omega (arith, same))
