-- What a frame starts with before any begin: nothing is shown, and no session has a view.
use Rattle.std.proofs.Common.{◌≡◌, ◌∙◌, ℕ, ℤ, zero, suc, Bool, true, false, List, [], ◌∷◌, length, All, None, refl, sym}
use Rattle.std.specs.Prelude.{not, slice_index_or}
use Rattle.std.specs.List.{list_all, list_any}
use Rattle.flat_base.proofs.lemmas.Tests.{and-left, and-right}
use Rattle.flat_base.specs.declared.ids.SessionNo.{SessionNo}
use Rattle.flat_scene.specs.declared.frames.SessionSet.{SessionSet}
use Rattle.flat_scene.specs.declared.script.DisplayLine.TheVariants as display
use Rattle.flat_scene.specs.declared.setup.Setup.{Setup}
use Rattle.flat_rules.specs.Ends.{has_view, views_of}
use Rattle.flat_rules.proofs.lemmas.ShownList.{nothing-shown}
use Rattle.flat_topology.specs.Members.{is_member}
use Rattle.flat_core.specs.declared.start.FrameStart.{FrameStart}
use Rattle.flat_core.specs.Starts.{IsStart, is_beside}

none-of : {A : Type 0} (xs : List A) → list_any (λ x. false) xs ≡ false
none-of [] = refl
none-of (x ∷ xs) = none-of xs

no-view : (setup : Setup) (s : SessionNo) → has_view setup [] s ≡ false
no-view setup s = none-of (views_of setup s)

all-false : (xs : List Bool) → list_all not xs ≡ true → (i : ℕ) → slice_index_or xs i false ≡ false
all-false [] all zero = refl
all-false [] all (suc i) = refl
all-false (x ∷ xs) all zero = by_value x (and-left _ _ all)
  where
    by_value : (b : Bool) → not b ≡ true → b ≡ false
    by_value true is = absurd (cc)
    by_value false is = refl
all-false (x ∷ xs) all (suc i) = all-false xs (and-right _ _ all) i

-- a set that names nobody has no member
pub no-members : (set : SessionSet) → list_all not set.has ≡ true → (s : ℕ) → is_member set s ≡ false
no-members set all zero = refl
no-members set all (suc before) = all-false set.has all before

-- nothing is shown, nobody has a view, at the setup's pixel ratio
pub starts-empty : (setup : Setup) (start : FrameStart) → length start.shown ≡ setup.sessions → All (λ state. state ≡ None) start.shown
    → start.ratio ≡ setup.ratio → list_all not start.with_view.has ≡ true → IsStart setup [] start
starts-empty setup start count none ratio views = record {
  shows = nothing-shown setup start.shown count none;
  scales = ratio;
  views = record {
    members = λ s declared. no-members start.with_view views s.0 ∙ sym (no-view setup s);
    others = λ s beyond. no-members start.with_view views s;
  };
}

-- which lines leave frames alone, and which don't
dpr-beside : is_beside (display.Dpr 65536) ≡ true
dpr-beside = refl

hit-beside : (x y : ℤ) → is_beside (display.Hit x y) ≡ true
hit-beside x y = refl

begin-not-beside : is_beside (display.Begin 0) ≡ false
begin-not-beside = refl

done-not-beside : is_beside display.Done ≡ false
done-not-beside = refl
