-- What is kept from one frame to the next.
use Rattle.std.proofs.Common.{ℕ, zero, suc, ◌-◌, ◌<◌, ◌≤◌, ◌≡◌, ◌≢◌, sym, ap, ◌∙◌, subst, inl, inr, List, Option, Some, None, length, get_or, slice_set, arith}
use Rattle.std.specs.Prelude.{slice_index_or, ◌==◌, ◌⊎◌, true, false}
use Rattle.std.proofs.lemmas.Bool.Decides.{eqb_tells}
use Rattle.std.proofs.lemmas.List.{get_or_default, get_or_past, get_or-set_other, get_or-set_same, length-set}
use Rattle.flat_scene.specs.declared.frames.SessionSet.{SessionSet}
use Rattle.flat_scene.specs.declared.trees.Tree.{Tree}
use Rattle.flat_topology.specs.Shown.{Shown, state_of}
use Rattle.flat_reuse.specs.declared.slots.KeptSession.{KeptSession}
use Rattle.flat_topology.specs.Changes.{AreSame}
use Rattle.flat_reuse.specs.Keeping.{IsKept, IsSlot, AreSlots, AreFitted}

slot-like : (s : ℕ) (state : Option Tree) (one other : Option KeptSession) → one ≡ other → IsSlot s state one → IsSlot s state other
slot-like s state one other e is = subst (λ (slot : Option KeptSession). IsSlot s state slot) e is

-- what stands in the slot of a session is kept
pub kept-there : (shown : Shown) (slots : List (Option KeptSession)) (s : ℕ) (slot : Option KeptSession) (kept : KeptSession) → AreSlots shown slots → 0 < s
    → s ≤ length shown
    → slot ≡ get_or slots (s - 1) slot → Some kept ≡ slot → IsKept s (state_of shown s) kept
kept-there shown slots zero slot kept are some few is found = absurd (omega arith)
kept-there shown slots (suc before) slot kept are some few is found =
    let at : suc before - 1 ≡ before = omega arith in
    let same : get_or slots before None ≡ Some kept
    = get_or_default slots before None slot (omega (arith, are.size)) ∙ ap (λ (k : ℕ). get_or slots k slot) (sym at) ∙ sym is ∙ sym found in
    slot-like (suc before) (state_of shown (suc before)) (get_or slots before None) (Some kept) same (are.each before)

slot-at : (shown : Shown) (slots : List (Option KeptSession)) (before : ℕ) (slot : Option KeptSession) → AreSlots shown slots → before < length slots
    → IsSlot (suc before) (slice_index_or shown before None) slot
    → (k : ℕ) → ((k == before) ≡ true) × (k ≡ before) ⊎ ((k == before) ≡ false) × (k ≢ before)
    → IsSlot (suc k) (slice_index_or shown k None) (slice_index_or (slice_set slots before slot) k None)
slot-at shown slots before slot are within is k (inl p) =
    let P : ℕ → Type 0 = λ k. IsSlot (suc k) (slice_index_or shown k None) (slice_index_or (slice_set slots before slot) k None) in
    subst P (sym p.1) (slot-like (suc before) (slice_index_or shown before None) slot (get_or (slice_set slots before slot) before None)
    (sym (get_or-set_same slots before slot None within)) is)
slot-at shown slots before slot are within is k (inr p) =
    slot-like (suc k) (slice_index_or shown k None) (get_or slots k None) (get_or (slice_set slots before slot) k None)
    (sym (get_or-set_other slots before k slot None p.1)) (are.each k)

-- the slot of a session was filled, or emptied
pub slot-set : (shown : Shown) (slots : List (Option KeptSession)) (s : ℕ) (slot : Option KeptSession) → AreSlots shown slots → 0 < s → s ≤ length shown
    → IsSlot s (state_of shown s) slot
    → AreSlots shown (slice_set slots (s - 1) slot)
slot-set shown slots zero slot are some few is = absurd (omega arith)
slot-set shown slots (suc before) slot are some few is =
    let at : before ≡ suc before - 1 = omega arith in
    let P : ℕ → Type 0 = λ k. AreSlots shown (slice_set slots k slot) in
    subst P at (record {
      size = length-set slots before slot ∙ are.size;
      each = λ k. slot-at shown slots before slot are (omega (arith, are.size)) is k (eqb_tells k before);
    })

fitted-each : (changed : SessionSet) (old new : Shown) (was is : List (Option KeptSession)) → AreSlots old was → AreSame changed old new → (k : ℕ)
    → k < length new
    → (slice_index_or is k None ≡ None) ⊎ ((slice_index_or changed.has k false ≡ false) × (slice_index_or is k None ≡ slice_index_or was k None))
    → IsSlot (suc k) (slice_index_or new k None) (slice_index_or is k None)
fitted-each changed old new was is are same k within (inl none) = slot-like (suc k) (slice_index_or new k None) None (slice_index_or is k None) (sym none) tt
fitted-each changed old new was is are same k within (inr kept) =
    let P : Option Tree → Type 0 = λ state. IsSlot (suc k) state (slice_index_or is k None) in
    subst P (same (suc k) (omega arith) kept.0) (slot-like (suc k) (slice_index_or old k None) (slice_index_or was k None) (slice_index_or is k None)
    (sym kept.1) (are.each k))

inside-or-past : (k n : ℕ) → (k < n) ⊎ (n ≤ k)
inside-or-past k zero = inr (omega arith)
inside-or-past zero (suc n) = inl (omega arith)
inside-or-past (suc k) (suc n) = elim (inside-or-past k n) [ inl low ↦ inl (omega arith) | inr high ↦ inr (omega arith) ]

fitted-at : (changed : SessionSet) (old new : Shown) (was is : List (Option KeptSession)) → AreSlots old was → AreSame changed old new
    → AreFitted changed was is (length new)
    → (k : ℕ) → (k < length new) ⊎ (length new ≤ k) → IsSlot (suc k) (slice_index_or new k None) (slice_index_or is k None)
fitted-at changed old new was is are same fitted k (inl within) = fitted-each changed old new was is are same k within (fitted.each k)
fitted-at changed old new was is are same fitted k (inr past) =
    slot-like (suc k) (slice_index_or new k None) None (slice_index_or is k None) (sym (get_or_past is k None (omega (arith, fitted.size)))) tt

-- the slots that were fitted are those of what is shown now
pub fitted-slots : (changed : SessionSet) (old new : Shown) (was is : List (Option KeptSession)) → AreSlots old was → AreSame changed old new
    → AreFitted changed was is (length new) → AreSlots new is
fitted-slots changed old new was is are same fitted =
    record { size = fitted.size; each = λ k. fitted-at changed old new was is are same fitted k (inside-or-past k (length new)) }
