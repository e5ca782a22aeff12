-- The stamps of views, call by call.
use Rattle.std.proofs.Common.{◌≡◌, ◌≢◌, ◌∙◌, sym, ℕ, ◌<◌, Bool, true, false, List, [], ◌∷◌, length, refl, arith, ap, Some, None, slice_set, slice_index_or, inl}
use Rattle.std.proofs.Common.{inr, ◌⊎◌}
use Rattle.std.specs.Prelude.{Option, ◌==◌}
use Rattle.std.proofs.lemmas.Bool.Decides.{nat_tests, eqb_tells}
use Rattle.std.proofs.lemmas.List.{get_or-set_other, get_or-set_same, get_or_default, length-set}
use Rattle.flat_base.specs.declared.ids.PairNo.{PairNo}
use Rattle.flat_scene.specs.declared.calls.Call.{Call}
use Rattle.flat_scene.specs.declared.calls.Call.TheVariants.{ReleaseView, Clear}
use Rattle.flat_links.specs.declared.pairs.PairState.{PairState}
use Rattle.flat_rules.specs.Shown.{is_pair}
use Rattle.flat_rules.specs.Stamps.{stamp_then}
use Rattle.flat_facts.specs.Views.{view_then, ends_it, ends_of}
use Rattle.flat_links.specs.Views.{ended_by, EndsViews, EndsOne}
use Rattle.flat_links.proofs.Marks.{stamp-more, stamp-none, once}

abbrev pub with_end : PairState → Option ℕ → PairState
with_end state stamp = record state { ended = stamp }

-- nothing ends
pub ends-none : (view : Option PairNo) (k : ℕ) (pairs : List PairState) → EndsViews view [] k pairs pairs
ends-none view k pairs = record {
  count = refl;
  each =
      λ p d below. sym (ap (with_end (slice_index_or pairs p d)) (stamp-none (slice_index_or pairs p d).ended k));
}

pub ends-no-view : (k : ℕ) (pairs : List PairState) → EndsOne None k pairs pairs
ends-no-view k pairs = record {
  count = refl;
  each = λ p d below. sym (ap (with_end (slice_index_or pairs p d)) (stamp-none (slice_index_or pairs p d).ended k));
}

-- a call that ends the view, and one that doesn't
ends-by : (view : Option PairNo) (call : Call) (k : ℕ) (old new : List PairState) → ((p : PairNo) → ends_it p view call ≡ is_pair view p)
    → EndsOne view k old new → EndsViews view (call ∷ []) k old new
ends-by view call k old new same one = record {
  count = one.count;
  each = λ p d below.
      let q : PairNo = record { 0 = p } in
      one.each p d below ∙ ap (λ b. with_end (slice_index_or old p d) (stamp_then (slice_index_or old p d).ended b k))
      (sym (once (ends_it q view call) ∙ same q));
}

pub ends-release : (view : Option PairNo) (k : ℕ) (old new : List PairState) → EndsOne view k old new → EndsViews view (ReleaseView ∷ []) k old new
ends-release view k old new one = ends-by view ReleaseView k old new (λ p. refl) one

pub ends-clear : (view : Option PairNo) (k : ℕ) (old new : List PairState) → EndsOne view k old new → EndsViews view (Clear ∷ []) k old new
ends-clear view k old new one = ends-by view Clear k old new (λ p. refl) one

pub ends-other : (view : Option PairNo) (call : Call) (k : ℕ) (pairs : List PairState) → (call ≡ ReleaseView → ⊥) → (call ≡ Clear → ⊥)
    → EndsViews view (call ∷ []) k pairs pairs
ends-other view ReleaseView k pairs no_release no_clear = absurd (no_release refl)
ends-other view Clear k pairs no_release no_clear = absurd (no_clear refl)
ends-other view _ k pairs no_release no_clear = record {
  count = refl;
  each = λ p d below. sym (ap (with_end (slice_index_or pairs p d)) (stamp-none (slice_index_or pairs p d).ended k));
}

-- one call, and then the others
pub ends-more : (view : Option PairNo) (call : Call) (rest : List Call) (k : ℕ) (a b c : List PairState) → EndsViews view (call ∷ []) k a b
    → EndsViews (view_then view call) rest k b c → EndsViews view (call ∷ rest) k a c
ends-more view call rest k a b c first later = record {
  count = later.count ∙ first.count;
  each = λ p d below.
      let q : PairNo = record { 0 = p } in
      let within : p < length b = omega (arith, below, first.count) in
      later.each p d within ∙ ap (ended_by p (view_then view call) rest k) (first.each p d below)
      ∙ ap (with_end (slice_index_or a p d)) (stamp-more (slice_index_or a p d).ended (ends_it q view call) (ends_of q (view_then view call) rest) k);
}

-- one pair is written
pub ends-at : (p : PairNo) (k : ℕ) (pairs : List PairState) (state d0 : PairState) → p.0 < length pairs
    → state ≡ with_end (slice_index_or pairs p.0 d0) (stamp_then (slice_index_or pairs p.0 d0).ended true k)
    → EndsOne (Some p) k pairs (slice_set pairs p.0 state)
ends-at p k pairs state d0 within is = record {
  count = length-set pairs p.0 state;
  each = λ i d below. by_place i d below (eqb_tells p.0 i);
}
  where
    by_place : (i : ℕ) (d : PairState) → i < length pairs → ((p.0 == i) ≡ true) × (p.0 ≡ i) ⊎ ((p.0 == i) ≡ false) × (p.0 ≢ i)
        → slice_index_or (slice_set pairs p.0 state) i d ≡ with_end (slice_index_or pairs i d) (stamp_then (slice_index_or pairs i d).ended (p.0 == i) k)
    by_place i d below (inl here) =
        rw here.0 (ap (slice_index_or (slice_set pairs p.0 state) i) refl ∙ ap (λ (n : ℕ). slice_index_or (slice_set pairs p.0 state) n d) (sym here.1)
        ∙ get_or-set_same pairs p.0 state d within ∙ is ∙ ap (λ (x : PairState). with_end x (stamp_then x.ended true k))
        (get_or_default pairs p.0 d0 d within)
        ∙ ap (λ (n : ℕ). with_end (slice_index_or pairs n d) (stamp_then (slice_index_or pairs n d).ended true k)) here.1)
    by_place i d below (inr there) =
        rw there.0 (get_or-set_other pairs p.0 i state d (λ same. there.1 (sym same))
        ∙ sym (ap (with_end (slice_index_or pairs i d)) (stamp-none (slice_index_or pairs i d).ended k)))

-- none is, where there is no such pair
pub ends-beyond : (p : PairNo) (k : ℕ) (pairs : List PairState) → (p.0 < length pairs → ⊥) → EndsOne (Some p) k pairs pairs
ends-beyond p k pairs past = record {
  count = refl;
  each = λ i d below.
      let other : (p.0 == i) ≡ false = differ i below (p.0 == i) refl in
      sym (ap (λ b. with_end (slice_index_or pairs i d) (stamp_then (slice_index_or pairs i d).ended b k)) other
      ∙ ap (with_end (slice_index_or pairs i d)) (stamp-none (slice_index_or pairs i d).ended k));
}
  where
    differ : (i : ℕ) → i < length pairs → (b : Bool) → (p.0 == i) ≡ b → b ≡ false
    differ i below true is = let number : p.0 ≡ i = grind (arith, nat_tests) in absurd (past (omega (arith, number, below)))
    differ i below false is = refl
