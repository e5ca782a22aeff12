-- Which pairs the end of a frame looks at.
use Rattle.std.proofs.Common.{◌≡◌, ◌∙◌, sym, ℕ, ◌<◌, Bool, true, false, List, [], ◌∷◌, ◌++◌, length, refl, arith, ap, slice_index_or}
use Rattle.std.specs.Prelude.{Option, cond, ◌==◌}
use Rattle.flat_base.proofs.lemmas.Tests.{none-left, none-right, or-false}
use Rattle.flat_base.specs.declared.ids.PairNo.{PairNo}
use Rattle.flat_scene.specs.declared.calls.ViewportProps.{ViewportProps}
use Rattle.flat_links.specs.declared.pairs.PairState.{PairState}
use Rattle.flat_links.specs.Noted.{AreNoted, ListsPair, is_noted}
use Rattle.flat_links.specs.Usage.{SettlesOne, SettlesPairs, settled}

-- an example
second-noted : is_noted 2 (record { 0 = 1 } ∷ record { 0 = 2 } ∷ []) ≡ true
second-noted = refl

third-not : is_noted 3 (record { 0 = 1 } ∷ record { 0 = 2 } ∷ []) ≡ false
third-not = refl

-- ---- the list

noted-before : (i : ℕ) (ps : List PairNo) (p : PairNo) → is_noted i (ps ++ p ∷ []) ≡ false → is_noted i ps ≡ false
noted-before i [] p h = refl
noted-before i (q ∷ ps) p h = or-false (none-left (q.0 == i) (is_noted i (ps ++ p ∷ [])) h)
    (noted-before i ps p (none-right (q.0 == i) (is_noted i (ps ++ p ∷ [])) h))

noted-last : (i : ℕ) (ps : List PairNo) (p : PairNo) → is_noted i (ps ++ p ∷ []) ≡ false → (p.0 == i) ≡ false
noted-last i [] p h = none-left (p.0 == i) false h
noted-last i (q ∷ ps) p h = noted-last i ps p (none-right (q.0 == i) (is_noted i (ps ++ p ∷ [])) h)

-- a pair is put onto the list
pub lists-pushed : (p : PairNo) (over : Bool) (old new : List PairNo) → new ≡ old ++ p ∷ [] → ListsPair p over over old new
lists-pushed p over old new is i h =
    let none : is_noted i (old ++ p ∷ []) ≡ false = ap (is_noted i) (sym is) ∙ none-right over (is_noted i new) h in
    (or-false (none-left over (is_noted i new) h) (noted-before i old p none), noted-last i old p none)

-- ---- the listed pairs, one after another

-- The pairs that are still to come are these; all others are settled, and each is so in what was settled of it or in what it was.
pub record SettledBut (left : List PairNo) (old now : List PairState) : Type 0 where
  pub count : length now ≡ length old
  pub each : (i : ℕ) (d : PairState) → i < length old → is_noted i left ≡ false → slice_index_or now i d ≡ settled (slice_index_or old i d)
  pub again : (i : ℕ) (d : PairState) → i < length old → settled (slice_index_or now i d) ≡ settled (slice_index_or old i d)

as-settled : (x : PairState) → x.pending ≡ x.seen → x ≡ settled x
as-settled x same = ap (λ (o : Option ViewportProps). let y : PairState = record x { seen = o } in y) (sym same)

pub settled-start : (noted : List PairNo) (old : List PairState) → AreNoted false noted old → SettledBut noted old old
settled-start noted old kept = record {
  count = refl;
  each = λ i d below none. as-settled (slice_index_or old i d) (kept i d below none);
  again = λ i d below. refl;
}

pub settled-on : (p : PairNo) (left : List PairNo) (old now next : List PairState) → SettlesOne p now next → SettledBut (p ∷ left) old now
    → SettledBut left old next
settled-on p left old now next one so_far = record {
  count = one.count ∙ so_far.count;
  each = λ i d below none.
      let within : i < length now = omega (arith, below, so_far.count) in
      by_place (slice_index_or old i d) (slice_index_or now i d) (slice_index_or next i d) (p.0 == i) (one.each i d within) (so_far.again i d below)
      (λ other. so_far.each i d below (or-false other none));
  again = λ i d below.
      let within : i < length now = omega (arith, below, so_far.count) in
      again_by (slice_index_or old i d) (slice_index_or now i d) (slice_index_or next i d) (p.0 == i) (one.each i d within) (so_far.again i d below);
}
  where
    by_place : (was now next : PairState) (b : Bool) → next ≡ cond b (settled now) now → settled now ≡ settled was → (b ≡ false → now ≡ settled was)
        → next ≡ settled was
    by_place was now next true is again each = is ∙ again
    by_place was now next false is again each = is ∙ each refl

    again_by : (was now next : PairState) (b : Bool) → next ≡ cond b (settled now) now → settled now ≡ settled was → settled next ≡ settled was
    again_by was now next true is again = ap settled is ∙ again
    again_by was now next false is again = ap settled is ∙ again

pub settled-end : (old now : List PairState) → SettledBut [] old now → SettlesPairs old now
settled-end old now so_far = record { count = so_far.count; each = λ i d below. so_far.each i d below refl }
