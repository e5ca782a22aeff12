-- The owner of a viewport end is declared, and so is a session below which another one hangs.
use Rattle.std.proofs.Common.{ℕ, zero, suc, ◌≡◌, refl, sym, ap, ◌∙◌, Bool, true, false, cond, List, [], ◌∷◌, Option, Some, None, slice_get}
use Rattle.std.specs.Prelude.{option_map}
use Rattle.std.specs.List.{list_all}
use Rattle.flat_base.proofs.lemmas.Tests.{and-left, and-right}
use Rattle.flat_base.specs.declared.ids.Actor.{Actor}
use Rattle.flat_base.specs.declared.ids.Actor.TheVariants.{Display, Session, Probe}
use Rattle.flat_base.specs.declared.ids.PairNo.{PairNo}
use Rattle.flat_base.specs.declared.ids.SessionNo.{SessionNo}
use Rattle.flat_scene.specs.declared.setup.PairDecl.{PairDecl}
use Rattle.flat_scene.specs.declared.setup.Setup.{Setup}
use Rattle.flat_scene.specs.declared.trees.Tree.{Tree}
use Rattle.flat_scene.specs.Setups.{is_declared}
use Rattle.flat_scene.specs.Heads.{is_pair_declared, may_own, owners_declared}
use Rattle.flat_topology.specs.Shown.{is_shown_by, Shown, state_of}
use Rattle.flat_rules.specs.Ends.{viewport_owner}
use Rattle.flat_why.specs.declared.reasons.DetachedReason.{DetachedReason}
use Rattle.flat_why.specs.declared.reasons.DetachedReason.TheVariants.{Parted}
use Rattle.flat_why.specs.declared.reasons.AttachPoint.TheVariants.{Below, Nowhere}
use Rattle.flat_why.specs.Reasons.{hanging_by, parting_of, standing_by, viewed_by}

all-at : {A : Type 0} (test : A → Bool) (xs : List A) (i : ℕ) (x : A) → list_all test xs ≡ true → slice_get xs i ≡ Some x → test x ≡ true
all-at test [] i x all at = absurd (cc)
all-at test (y ∷ ys) zero x all at = let same : y ≡ x = cc in ap test (sym same) ∙ and-left (test y) (list_all test ys) all
all-at test (y ∷ ys) (suc i) x all at = all-at test ys i x (and-right (test y) (list_all test ys) all) at

pub owner-declared : (setup : Setup) (p : PairNo) (q : SessionNo) → owners_declared setup ≡ true → viewport_owner setup p ≡ Some (Session q)
    → is_declared setup q ≡ true
owner-declared setup p q owners is = by (slice_get setup.pairs p.0) refl is
  where
    pairs : list_all (is_pair_declared setup) setup.pairs ≡ true
    pairs = and-left _ _ (and-left _ _ owners)

    by : (found : Option PairDecl) → slice_get setup.pairs p.0 ≡ found → option_map (λ (pair : PairDecl). pair.viewport) found ≡ Some (Session q)
        → is_declared setup q ≡ true
    by None at owned = absurd (cc)
    by (Some pair) at owned =
        let both : Some pair.viewport ≡ Some (Session q) = owned in
        let owner : pair.viewport ≡ Session q = cc in
        let may : may_own setup pair.viewport ≡ true = and-left (may_own setup pair.viewport) (is_declared setup pair.view)
        (all-at (is_pair_declared setup) setup.pairs p.0 pair pairs at) in
        ap (may_own setup) (sym owner) ∙ may

-- ---- a session below which another one hangs

module _ (setup : Setup) (shown : Shown) (taken : SessionNo → ℕ) (last_use : PairNo → Option ℕ) (owners : owners_declared setup ≡ true) where
  hanging-declared : (p : PairNo) (owner : Option Actor) (q : SessionNo) → viewport_owner setup p ≡ owner
      → hanging_by setup shown taken last_use p owner ≡ Below q → is_declared setup q ≡ true
  hanging-declared p None q at is = absurd (cc)
  hanging-declared p (Some Display) q at is = absurd (cc)
  hanging-declared p (Some (Probe n)) q at is = absurd (cc)
  hanging-declared p (Some (Session t)) q at is = by (is_shown_by shown p.0 t.0) is
    where
      by : (b : Bool) → cond b (Below t) (Nowhere (Parted t p (parting_of p (state_of shown t.0) (taken t) (last_use p)))) ≡ Below q
          → is_declared setup q ≡ true
      by true is = let same : t ≡ q = cc in ap (is_declared setup) (sym same) ∙ owner-declared setup p t owners at
      by false is = absurd (cc)

  viewed-declared : (view : Option PairNo) (q : SessionNo) → viewed_by setup shown taken last_use view ≡ Below q → is_declared setup q ≡ true
  viewed-declared None q is = absurd (cc)
  viewed-declared (Some p) q is = hanging-declared p (viewport_owner setup p) q refl is

  pub parent-declared : (nothing : DetachedReason) (state : Option Tree) (q : SessionNo) → standing_by setup shown taken last_use nothing state ≡ Below q
      → is_declared setup q ≡ true
  parent-declared nothing None q is = absurd (cc)
  parent-declared nothing (Some tree) q is = viewed-declared tree.view q is
