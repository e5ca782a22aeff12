-- One test behind others: the first reason of all, by that of the others.
use Rattle.std.proofs.Common.{◌≡◌, Bool, true, false, cond, List, [], ◌∷◌, ◌++◌, Some, None, refl, ap, ◌∙◌}
use Rattle.flat_base.specs.declared.errors.Reason.{Reason}
use Rattle.flat_scene.specs.Misuse.{Test, first_reason}

-- what the others refuse
pub refused_before : (tests more : List Test) (reason : Reason) → first_reason tests ≡ Some reason → first_reason (tests ++ more) ≡ Some reason
refused_before [] more reason e = absurd (cc)
refused_before (test ∷ tests) more reason e = by_test test.0 (refused_before tests more reason) e
  where
    by_test : (b : Bool) → (first_reason tests ≡ Some reason → first_reason (tests ++ more) ≡ Some reason)
        → cond b (Some test.1) (first_reason tests) ≡ Some reason
        → cond b (Some test.1) (first_reason (tests ++ more)) ≡ Some reason
    by_test true later e = e
    by_test false later e = later e

-- what they let pass
pub passed_on : (tests more : List Test) → first_reason tests ≡ None → first_reason (tests ++ more) ≡ first_reason more
passed_on [] more e = refl
passed_on (test ∷ tests) more e = by_test test.0 (passed_on tests more) e
  where
    by_test : (b : Bool) → (first_reason tests ≡ None → first_reason (tests ++ more) ≡ first_reason more) → cond b (Some test.1) (first_reason tests) ≡ None
        → cond b (Some test.1) (first_reason (tests ++ more)) ≡ first_reason more
    by_test true later e = absurd (cc)
    by_test false later e = later e

-- that one test refuses, or lets pass
pub refused_by : (tests : List Test) (bad : Bool) (reason : Reason) → first_reason tests ≡ None → bad ≡ true
    → first_reason (tests ++ (bad, reason) ∷ []) ≡ Some reason
refused_by tests bad reason e is = passed_on tests ((bad, reason) ∷ []) e ∙ ap (λ (b : Bool). cond b (Some reason) None) is

pub allowed_by : (tests : List Test) (bad : Bool) (reason : Reason) → first_reason tests ≡ None → bad ≡ false
    → first_reason (tests ++ (bad, reason) ∷ []) ≡ None
allowed_by tests bad reason e is = passed_on tests ((bad, reason) ∷ []) e ∙ ap (λ (b : Bool). cond b (Some reason) None) is
