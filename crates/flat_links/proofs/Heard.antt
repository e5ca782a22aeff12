-- Who hears of the pairs whose properties change.
use Rattle.std.proofs.Common.{◌≡◌, ◌∙◌, sym, ℕ, ◌<◌, ◌≤◌, Bool, true, false, List, [], ◌∷◌, length, refl, ap, arith, Some, slice_index_or, subst}
use Rattle.std.specs.Prelude.{◌==◌, ◌||◌}
use Rattle.std.proofs.lemmas.Bool.Decides.{nat_tests}
use Rattle.flat_base.specs.declared.ids.PairNo.{PairNo}
use Rattle.flat_base.specs.declared.ids.SessionNo.{SessionNo}
use Rattle.flat_base.specs.declared.limits.TheConstants.{SESSIONS_MAX}
use Rattle.flat_scene.specs.declared.frames.SessionSet.{SessionSet}
use Rattle.flat_scene.specs.declared.setup.Setup.{Setup}
use Rattle.flat_topology.specs.Members.{is_member}
use Rattle.flat_rules.specs.Ends.{view_owner}
use Rattle.flat_links.specs.declared.pairs.PairState.{PairState}
use Rattle.flat_facts.specs.Pairs.{pair}
use Rattle.flat_links.specs.Hearing.{AreSettledBut, HearsOne}
use Rattle.flat_links.specs.Noted.{is_noted}

-- The same as AreSettledBut, but of those pairs that aren't among these.
abbrev pub AreHeardBut : List PairNo → SessionSet → Setup → List PairState → Type 0
AreHeardBut rest heard setup pairs = (i : ℕ) (d : PairState) (w : SessionNo) → i < length pairs → view_owner setup (pair i) ≡ Some w → 0 < w.0
    → w.0 ≤ SESSIONS_MAX → is_member heard w.0 ≡ false → is_noted i rest ≡ false
    → (slice_index_or pairs i d).pending ≡ (slice_index_or pairs i d).seen

pub heard-next : (p : PairNo) (rest : List PairNo) (old new : SessionSet) (setup : Setup) (pairs : List PairState) → HearsOne setup p pairs old new
    → AreHeardBut (p ∷ rest) old setup pairs → AreHeardBut rest new setup pairs
heard-next p rest old new setup pairs hears are i d w below owner some few out none = by_pair (p.0 == i) refl
  where
    by_pair : (b : Bool) → (p.0 == i) ≡ b → (slice_index_or pairs i d).pending ≡ (slice_index_or pairs i d).seen
    by_pair true is =
        let number : p.0 ≡ i = grind (arith, nat_tests) in
        let same : p ≡ pair i = ap pair number in
        let P : ℕ → Type 0 = λ n. n < length pairs → view_owner setup (pair n) ≡ Some w
        → (slice_index_or pairs n d).pending ≡ (slice_index_or pairs n d).seen in
        let here : P p.0 = λ within owned. hears.hears d w within owned some few out in
        subst P number here below owner
    by_pair false is = are i d w below owner some few (hears.grows w.0 out) (rw is none)

pub heard-last : (heard : SessionSet) (setup : Setup) (pairs : List PairState) → AreHeardBut [] heard setup pairs → AreSettledBut heard setup pairs
heard-last heard setup pairs are i d w below owner some few out = are i d w below owner some few out refl
