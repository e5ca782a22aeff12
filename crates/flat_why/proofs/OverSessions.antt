-- Lists over all sessions, made one after another.
use Rattle.std.proofs.Common.{ℕ, zero, suc, ◌+◌, ◌<◌, ◌≡◌, ◌≢◌, ◌⊎◌, inl, inr, refl, sym, ap, ◌∙◌, true, false, List, [], ◌∷◌, ◌++◌, length, map, take, get_or}
use Rattle.std.proofs.Common.{slice_index_or, slice_set, add-one, arith}
use Rattle.std.specs.Prelude.{◌==◌}
use Rattle.std.proofs.lemmas.Bool.Decides.{eqb_tells}
use Rattle.std.proofs.lemmas.List.{get_or-set_other, get_or-set_same, map-append}
use Rattle.flat_base.specs.declared.ids.SessionNo.{SessionNo}
use Rattle.flat_scene.specs.Frames.{sessions_to}
use Rattle.flat_rules.specs.Numbers.{number}

pub sessions-next : {A : Type 0} (f : SessionNo → A) (i : ℕ) → map f (sessions_to (i + 1)) ≡ map f (sessions_to i) ++ f (number i) ∷ []
sessions-next f i =
    let last : SessionNo = record { 0 = suc i } in
    ap (λ n. map f (sessions_to n)) (add-one i) ∙ map-append f (sessions_to i) (last ∷ [])
    ∙ ap (λ (n : ℕ). map f (sessions_to i) ++ f (record { 0 = n }) ∷ []) (sym (add-one i))

-- the item at a place, whatever the default
pub whatever : {A : Type 0} (xs : List A) (i : ℕ) (d e : A) → i < length xs → get_or xs i d ≡ get_or xs i e
whatever [] i d e low = absurd (omega (arith, low))
whatever (x ∷ xs) zero d e low = refl
whatever (x ∷ xs) (suc i) d e low = whatever xs i d e (omega (arith, low))

-- one item more is as it is to be
pub set-next : {A : Type 0} (f : ℕ → A) (xs new : List A) (i : ℕ) (x : A) → i < length xs → new ≡ slice_set xs i x → x ≡ f i
    → ((k : ℕ) (d : A) → k < i → slice_index_or xs k d ≡ f k) → (k : ℕ) (d : A) → k < i + 1 → slice_index_or new k d ≡ f k
set-next {A} f xs new i x low is value before k d below = ap (λ ys. slice_index_or ys k d) is ∙ by (eqb_tells k i)
  where
    by : ((◌≡◌ (k == i) true) × (k ≡ i)) ⊎ ((◌≡◌ (k == i) false) × (k ≢ i)) → slice_index_or (slice_set xs i x) k d ≡ f k
    by (inl same) = ap (λ n. slice_index_or (slice_set xs i x) n d) same.1 ∙ get_or-set_same xs i x d low ∙ value ∙ ap f (sym same.1)
    by (inr apart) = get_or-set_other xs i k x d apart.1 ∙ before k d (let other = apart.1 in omega (arith, below, other))

pub take-front : {A : Type 0} (xs ys : List A) → take (length xs) (xs ++ ys) ≡ xs
take-front [] ys = refl
take-front (x ∷ xs) ys = ap (λ zs. x ∷ zs) (take-front xs ys)
