-- What is joined of a frame: where no session changed it is that of the next one too.
use Rattle.std.proofs.Common.{◌≡◌, ℕ, zero, suc, ◌<◌, ◌≤◌, Bool, true, false, List, [], ◌∷◌, length, slice_index_or, None, refl, arith}
use Rattle.std.specs.List.{list_any}
use Rattle.flat_scene.specs.declared.frames.SessionSet.{SessionSet}
use Rattle.flat_topology.specs.Changes.{AreSame}
use Rattle.flat_topology.specs.Shown.{Shown}

no-member : (has : List Bool) → list_any (λ b. b) has ≡ false → (i : ℕ) → slice_index_or has i false ≡ false
no-member [] none i = refl
no-member (true ∷ later) none i = absurd (let wrong : true ≡ false = none in cc)
no-member (false ∷ later) none zero = refl
no-member (false ∷ later) none (suc i) = no-member later none i

same-states : (old new : Shown) → length old ≡ length new → ((i : ℕ) → i < length new → slice_index_or old i None ≡ slice_index_or new i None) → old ≡ new
same-states [] [] long each = refl
same-states [] (state ∷ states) long each = absurd (omega (arith, long))
same-states (state ∷ states) [] long each = absurd (omega (arith, long))
same-states (was ∷ old) (is ∷ new) long each =
    let first : was ≡ is = each zero (omega arith) in
    let rest : old ≡ new = same-states old new (omega (arith, long)) (λ i within. each (suc i) (omega (arith, within))) in
    cc (first, rest)

-- where no session is in a set, all show what they showed
pub all-same : (changed : SessionSet) (old new : Shown) → list_any (λ b. b) changed.has ≡ false → length old ≡ length new → AreSame changed old new → old ≡ new
all-same changed old new none long same =
    same-states old new long (λ i within. same (suc i) (let low : suc i ≤ length new = omega (arith, within) in low) (no-member changed.has none i))
