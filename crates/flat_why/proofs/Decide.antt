-- A session is in the view tree exactly where it hangs on the display, or below one that is in it.
use Rattle.std.proofs.Common.{ℕ, zero, suc, ◌+◌, ◌<◌, ◌≡◌, refl, sym, ap, ◌∙◌, subst, Bool, true, false, cond, List, [], ◌∷◌, length, filter, Option, Some}
use Rattle.std.proofs.Common.{None, slice_get, arith}
use Rattle.std.specs.Prelude.{◌↔◌, IsTrue, option_map}
use Rattle.std.specs.List.{Contains, position_from}
use Rattle.std.proofs.lemmas.Bool.{eqb-true}
use Rattle.flat_base.specs.declared.ids.Actor.{Actor}
use Rattle.flat_base.specs.declared.ids.Actor.TheVariants.{Display, Session, Probe}
use Rattle.flat_base.specs.declared.ids.PairNo.{PairNo}
use Rattle.flat_base.specs.declared.ids.SessionNo.{SessionNo}
use Rattle.flat_scene.specs.declared.setup.PairDecl.{PairDecl}
use Rattle.flat_scene.specs.declared.setup.Setup.{Setup}
use Rattle.flat_scene.specs.declared.trees.Tree.{Tree}
use Rattle.flat_scene.specs.History.{is_display}
use Rattle.flat_scene.specs.Heads.{has_one_display_pair}
use Rattle.flat_topology.specs.Shown.{is_shown_by, Shown, pairs_shown, state_of, view_of}
use Rattle.flat_topology.specs.Fit.{FitsSetup}
use Rattle.flat_topology.specs.Join.{is_joined}
use Rattle.flat_topology.specs.Laws.{JoinsTheConnected}
use Rattle.flat_topology.specs.Links.{IsBelow, IsConnected, IsConnectedThrough}
use Rattle.flat_topology.specs.Pairs.{display_pair}
use Rattle.flat_topology.specs.Owners.{OwnsView, OwnsViewport}
use Rattle.flat_topology.proofs.lemmas.Distinct.{contains-in, in-contains}
use Rattle.flat_why.proofs.ShownPairs.{found-in, in-found}
use Rattle.flat_rules.specs.Ends.{viewport_owner}
use Rattle.flat_why.specs.declared.reasons.DetachedReason.{DetachedReason}
use Rattle.flat_why.specs.declared.reasons.DetachedReason.TheVariants.{Parted}
use Rattle.flat_why.specs.declared.reasons.AttachPoint.{AttachPoint}
use Rattle.flat_why.specs.declared.reasons.AttachPoint.TheVariants.{Below, Nowhere}
use Rattle.flat_why.specs.Reasons.{hanging_by, parting_of, standing_by, viewed_by}
use Rattle.flat_why.specs.Laws.{IsOn, StandingsDecide}

-- ---- the display's pair

abbrev displays : PairDecl → Bool
displays pair = is_display pair.viewport

-- among the pairs from a number on, p is one of the display's
abbrev IsDisplays : List PairDecl → ℕ → ℕ → Type 0
IsDisplays pairs from p = (i : ℕ) × (p ≡ from + i) × (pair : PairDecl) × (slice_get pairs i ≡ Some pair) × (pair.viewport ≡ Display)

display-owns : (from p : ℕ) (pairs : List PairDecl) → position_from displays from pairs ≡ Some p → IsDisplays pairs from p
display-owns from p [] e = absurd (cc)
display-owns from p (pair ∷ pairs) e = by_actor pair.viewport refl e (display-owns (from + 1) p pairs)
  where
    one_more : IsDisplays pairs (from + 1) p → IsDisplays (pair ∷ pairs) from p
    one_more found = (suc found.0, omega (arith, found.1), found.2, found.3, found.4)

    by_actor : (actor : Actor) → pair.viewport ≡ actor → cond (is_display actor) (Some from) (position_from displays (from + 1) pairs) ≡ Some p
        → (position_from displays (from + 1) pairs ≡ Some p → IsDisplays pairs (from + 1) p) → IsDisplays (pair ∷ pairs) from p
    by_actor Display is first later = let same : from ≡ p = cc in (0, omega arith, pair, refl, is)
    by_actor (Session s) is first later = one_more (later first)
    by_actor (Probe n) is first later = one_more (later first)

-- what passes a test at a place is among those that pass it
some-left : {A : Type 0} (test : A → Bool) (xs : List A) (i : ℕ) (x : A) → slice_get xs i ≡ Some x → test x ≡ true → 0 < length (filter test xs)
some-left test [] i x at passes = absurd (cc)
some-left test (y ∷ ys) zero x at passes = let same : y ≡ x = cc in rw (same, passes) (omega arith)
some-left test (y ∷ ys) (suc i) x at passes = by (test y) (some-left test ys i x at passes)
  where
    by : (b : Bool) → 0 < length (filter test ys) → 0 < length (cond b (y ∷ filter test ys) (filter test ys))
    by true some = omega arith
    by false some = some

-- the one that passes is found where it is
one-found : {A : Type 0} (test : A → Bool) (xs : List A) (from i : ℕ) (x : A) → length (filter test xs) ≡ 1 → slice_get xs i ≡ Some x → test x ≡ true
    → position_from test from xs ≡ Some (from + i)
one-found test [] from i x one at passes = absurd (cc)
one-found test (y ∷ ys) from zero x one at passes = let same : y ≡ x = cc in let here : from + 0 ≡ from = omega arith in rw (same, passes, here) refl
one-found test (y ∷ ys) from (suc i) x one at passes = by (test y) one (some-left test ys i x at passes) (one-found test ys (from + 1) i x)
  where
    by : (b : Bool) → length (cond b (y ∷ filter test ys) (filter test ys)) ≡ 1 → 0 < length (filter test ys)
        → (length (filter test ys) ≡ 1 → slice_get ys i ≡ Some x → test x ≡ true → position_from test (from + 1) ys ≡ Some (from + 1 + i))
        → cond b (Some from) (position_from test (from + 1) ys) ≡ Some (from + suc i)
    by true one some later = absurd (omega (arith, one, some))
    by false one some later = later one at passes ∙ ap Some (let same : from + 1 + i ≡ from + suc i = omega arith in same)

-- ---- whom a session shows

shown-contains : (shown : Shown) (p s : ℕ) → is_shown_by shown p s ≡ true → Contains (pairs_shown shown s) p
shown-contains shown p s e = contains-in p (pairs_shown shown s) (found-in p (pairs_shown shown s) e)

contains-shown : (shown : Shown) (p s : ℕ) → Contains (pairs_shown shown s) p → is_shown_by shown p s ≡ true
contains-shown shown p s has = in-found p (pairs_shown shown s) (in-contains p (pairs_shown shown s) has)

module _ (setup : Setup) (shown : Shown) (fit : FitsSetup setup shown) (single : has_one_display_pair setup ≡ true) (joins : JoinsTheConnected)
    (taken : SessionNo → ℕ) (last_use : PairNo → Option ℕ) (s : SessionNo) where
  abbrev Joined : ℕ → Type 0
  Joined t = IsTrue (is_joined setup shown t)

  connected : (t : ℕ) → Joined t → IsConnected setup shown t
  connected t on = (joins setup shown fit t).0 on

  joined : (t : ℕ) → IsConnected setup shown t → Joined t
  joined t on = (joins setup shown fit t).1 on

  -- the session whose view's pair is the display's
  on-top : (p : PairNo) (pair : PairDecl) → view_of (state_of shown s.0) ≡ Some p.0 → slice_get setup.pairs p.0 ≡ Some pair → pair.viewport ≡ Display
      → Joined s.0
  on-top p pair view at display =
      let found : display_pair setup ≡ Some p.0 = one-found displays setup.pairs 0 p.0 pair (eqb-true (length (filter displays setup.pairs)) 1 single) at
      (ap is_display display) ∙ ap Some (let same : 0 + p.0 ≡ p.0 = omega arith in same) in
      joined s.0 (0, record { pair = p.0; viewport = found; view = view })

  -- a session below another one
  hung : (p : PairNo) (q : SessionNo) → view_of (state_of shown s.0) ≡ Some p.0 → is_shown_by shown p.0 q.0 ≡ true → Joined q.0 → Joined s.0
  hung p q view here on =
      let way = connected q.0 on in
      joined s.0 (suc way.0, (q.0, record { pair = p.0; viewport = shown-contains shown p.0 q.0 here; view = view }, way.1))

  -- who is connected has a view
  viewed : Joined s.0 → (p : ℕ) × (view_of (state_of shown s.0) ≡ Some p)
  viewed on = by (connected s.0 on)
    where
      by : IsConnected setup shown s.0 → (p : ℕ) × (view_of (state_of shown s.0) ≡ Some p)
      by (zero, top) = (top.pair, top.view)
      by (suc between, way) = (way.1.pair, way.1.view)

  module _ (p : PairNo) (pair : PairDecl) (view : view_of (state_of shown s.0) ≡ Some p.0) (at : slice_get setup.pairs p.0 ≡ Some pair) where
    -- the session below whose viewport it hangs, if its pair's viewport end is that one's
    parent-joined : (q : SessionNo) → pair.viewport ≡ Session q → Joined s.0 → (is_shown_by shown p.0 q.0 ≡ true) × Joined q.0
    parent-joined q owner on = by (connected s.0 on)
      where
        by : IsConnected setup shown s.0 → (is_shown_by shown p.0 q.0 ≡ true) × Joined q.0
        by (zero, top) =
            let pairs : Some top.pair ≡ Some p.0 = sym top.view ∙ view in
            let same : top.pair ≡ p.0 = cc in
            let own = display-owns 0 top.pair setup.pairs top.viewport in
            let number : own.0 ≡ p.0 = omega (arith, own.1, same) in
            let declared : Some own.2 ≡ Some pair = sym own.3 ∙ ap (slice_get setup.pairs) number ∙ at in
            let one : own.2 ≡ pair = cc in
            let wrong : Display ≡ Session q = sym own.4 ∙ ap (λ (d : PairDecl). d.viewport) one ∙ owner in
            absurd (cc)
        by (suc between, way) =
            let t : ℕ = way.0 in
            let below : IsBelow shown s.0 t = way.1 in
            let rest : IsConnectedThrough setup shown between t = way.2 in
            let pairs : Some below.pair ≡ Some p.0 = sym below.view ∙ view in
            let same : below.pair ≡ p.0 = cc in
            let own : OwnsViewport setup t below.pair = fit.viewports t below.pair below.viewport in
            let declared : Some own.0 ≡ Some pair = sym own.1 ∙ ap (slice_get setup.pairs) same ∙ at in
            let one : own.0 ≡ pair = cc in
            let actors : Session (record { 0 = t }) ≡ Session q = sym own.2 ∙ ap (λ (d : PairDecl). d.viewport) one ∙ owner in
            let who : ◌≡◌ {A = SessionNo} (record { 0 = t }) q = cc in
            let number : t ≡ q.0 = ap (λ (n : SessionNo). n.0) who in (
              ap (is_shown_by shown p.0) (sym number) ∙ ap (λ (n : ℕ). is_shown_by shown n t) (sym same)
                  ∙ contains-shown shown below.pair t below.viewport,
              subst Joined number (joined t (between, rest)),
            )

    -- by the owner of the viewport end
    by-owner : (owner : Actor) → pair.viewport ≡ owner → Joined s.0 ↔ IsOn setup shown (hanging_by setup shown taken last_use p (Some owner))
    by-owner Display is = (λ on. tt, λ on. on-top p pair view at is)
    by-owner (Session q) is = by (is_shown_by shown p.0 q.0) refl
      where
        why : AttachPoint
        why = Nowhere (Parted q p (parting_of p (state_of shown q.0) (taken q) (last_use p)))

        by : (b : Bool) → is_shown_by shown p.0 q.0 ≡ b → Joined s.0 ↔ IsOn setup shown (cond b (Below q) why)
        by true here = (λ on. (parent-joined q is on).1, λ on. hung p q view here on)
        by false here = (λ on. (let wrong : true ≡ false = sym (parent-joined q is on).0 ∙ here in absurd (cc)), λ on. absurd on)
    by-owner (Probe n) is = (λ on. nobody (connected s.0 on), λ on. absurd on)
      where
        nobody : IsConnected setup shown s.0 → ⊥
        nobody (zero, top) =
            let pairs : Some top.pair ≡ Some p.0 = sym top.view ∙ view in
            let same : top.pair ≡ p.0 = cc in
            let own = display-owns 0 top.pair setup.pairs top.viewport in
            let number : own.0 ≡ p.0 = omega (arith, own.1, same) in
            let declared : Some own.2 ≡ Some pair = sym own.3 ∙ ap (slice_get setup.pairs) number ∙ at in
            let one : own.2 ≡ pair = cc in
            let wrong : Display ≡ Probe n = sym own.4 ∙ ap (λ (d : PairDecl). d.viewport) one ∙ is in
            absurd (cc)
        nobody (suc between, way) =
            let t : ℕ = way.0 in
            let below : IsBelow shown s.0 t = way.1 in
            let pairs : Some below.pair ≡ Some p.0 = sym below.view ∙ view in
            let same : below.pair ≡ p.0 = cc in
            let own : OwnsViewport setup t below.pair = fit.viewports t below.pair below.viewport in
            let declared : Some own.0 ≡ Some pair = sym own.1 ∙ ap (slice_get setup.pairs) same ∙ at in
            let one : own.0 ≡ pair = cc in
            let wrong : Session (record { 0 = t }) ≡ Probe n = sym own.2 ∙ ap (λ (d : PairDecl). d.viewport) one ∙ is in
            absurd (cc)

  -- by what it shows
  by-view : (view : Option PairNo) → view_of (state_of shown s.0) ≡ option_map (λ (p : PairNo). p.0) view
      → Joined s.0 ↔ IsOn setup shown (viewed_by setup shown taken last_use view)
  by-view None none = (λ on. (let some = viewed on in let wrong : None ≡ Some some.0 = sym none ∙ some.1 in absurd (cc)), λ on. absurd on)
  by-view (Some p) some =
      let own : OwnsView setup s.0 p.0 = fit.views s.0 p.0 some in
      let owner : viewport_owner setup p ≡ Some own.0.viewport = ap (option_map (λ (pair : PairDecl). pair.viewport)) own.1 in
      let P : Option Actor → Type 0 = λ o. Joined s.0 ↔ IsOn setup shown (hanging_by setup shown taken last_use p o) in
      subst P (sym owner) (by-owner p own.0 some own.1 own.0.viewport refl)

  by-state : (nothing : DetachedReason) (state : Option Tree) → state_of shown s.0 ≡ state
      → Joined s.0 ↔ IsOn setup shown (standing_by setup shown taken last_use nothing state)
  by-state nothing None is = (λ on. (let some = viewed on in let wrong : None ≡ Some some.0 = sym (ap view_of is) ∙ some.1 in absurd (cc)), λ on. absurd on)
  by-state nothing (Some tree) is = by-view tree.view (ap view_of is)

pub standings-decide : JoinsTheConnected → StandingsDecide
standings-decide joins setup shown taken last_use nothing fit single s =
    by-state setup shown fit single joins taken last_use s nothing (state_of shown s.0) refl
