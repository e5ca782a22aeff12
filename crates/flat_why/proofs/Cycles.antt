-- The chain of parents, one after another.
use Rattle.std.proofs.Common.{ℕ, zero, suc, ◌+◌, ◌-◌, ◌<◌, ◌≤◌, ◌≡◌, ◌≢◌, ◌⊎◌, inl, inr, refl, ap, ◌∙◌, Bool, true, false, ◌||◌, arith}
use Rattle.std.specs.Prelude.{◌==◌}
use Rattle.std.specs.List.{list_any}
use Rattle.std.proofs.lemmas.Bool.Decides.{eqb_tells}
use Rattle.flat_base.specs.declared.ids.SessionNo.{SessionNo}
use Rattle.flat_why.specs.declared.reasons.AttachPoint.{AttachPoint}
use Rattle.flat_why.specs.declared.reasons.AttachPoint.TheVariants.{OnDisplay, Below, Nowhere}
use Rattle.flat_why.specs.Hidden.{ancestors}

module _ (stands : SessionNo → AttachPoint) (s : SessionNo) where
  abbrev pub comes : ℕ → AttachPoint → Bool
  comes steps standing = list_any (λ (above : SessionNo). above.0 == s.0) (ancestors stands steps standing)

  one-step : (n i : ℕ) (q : SessionNo) → i < n → comes (n - i) (Below q) ≡ ((q.0 == s.0) || comes (n - (i + 1)) (stands q))
  one-step n i q low = ap (λ (steps : ℕ). comes steps (Below q)) (let more : n - i ≡ suc (n - (i + 1)) = omega (arith, low) in more)

  pub come : (n i : ℕ) (standing : AttachPoint) (q : SessionNo) → i < n → standing ≡ Below q → (q.0 == s.0) ≡ true → comes (n - i) standing ≡ true
  come n i standing q low is here = ap (comes (n - i)) is ∙ one-step n i q low ∙ ap (λ (b : Bool). b || comes (n - (i + 1)) (stands q)) here

  pub go-on : (n i : ℕ) (standing : AttachPoint) (q : SessionNo) → i < n → standing ≡ Below q → (q.0 == s.0) ≡ false
      → comes (n - i) standing ≡ comes (n - (i + 1)) (stands q)
  go-on n i standing q low is apart = ap (comes (n - i)) is ∙ one-step n i q low ∙ ap (λ (b : Bool). b || comes (n - (i + 1)) (stands q)) apart

  pub at-end : (n i : ℕ) (standing : AttachPoint) → n ≤ i → comes (n - i) standing ≡ false
  at-end n i standing all = ap (λ (steps : ℕ). comes steps standing) (let none : n - i ≡ 0 = omega (arith, all) in none)

  pub at-top : (steps : ℕ) (standing : AttachPoint) → ((q : SessionNo) → standing ≡ Below q → ⊥) → comes steps standing ≡ false
  at-top zero standing top = refl
  at-top (suc steps) OnDisplay top = refl
  at-top (suc steps) (Nowhere cause) top = refl
  at-top (suc steps) (Below q) top = absurd (top q refl)

pub apart-tested : (a b : ℕ) → a ≢ b → (a == b) ≡ false
apart-tested a b apart = by (eqb_tells a b)
  where
    by : ((◌≡◌ (a == b) true) × (a ≡ b)) ⊎ ((◌≡◌ (a == b) false) × (a ≢ b)) → (a == b) ≡ false
    by (inl same) = absurd (apart same.1)
    by (inr other) = other.0
