-- A line that its draft refuses may close its session.
use Rattle.std.proofs.Common.{◌≡◌, ℕ, Bool, true, false, cond, not, ◌&&◌, ◌||◌, List, [], ◌∷◌, ◌++◌, refl, sym, ap, ◌∙◌, subst, arith, Option, Some, None}
use Rattle.std.specs.Prelude.{◌==◌, unwrap_or, is_none}
use Rattle.std.specs.List.{list_any}
use Rattle.std.proofs.lemmas.Bool.{eq-eqb}
use Rattle.std.proofs.lemmas.Bool.Decides.{nat_tests}
use Rattle.flat_base.specs.declared.errors.Reason.{Reason}
use Rattle.flat_base.specs.declared.errors.Reason.TheVariants.{ZeroId, UnknownContent, WrongContent, NoView, TooManyFences}
use Rattle.flat_base.specs.declared.ids.ContentId.{ContentId}
use Rattle.flat_base.specs.Number.{reason_number}
use Rattle.flat_scene.specs.declared.calls.PresentArgs.{PresentArgs}
use Rattle.flat_scene.specs.declared.calls.Watch.{Watch}
use Rattle.flat_scene.specs.declared.calls.Watch.TheVariants as watch
use Rattle.flat_scene.specs.Draft.{Draft, Name, named, made_of, content_of}
use Rattle.flat_scene.specs.Interleave.{get_tests}
use Rattle.flat_scene.specs.Misuse.{first_reason, is_viewport, Test}
use Rattle.flat_scene.specs.Tree.{present_tests, tree_tests}
use Rattle.flat_rules.specs.Refusals.{may_refuse, may_refuse_get, may_refuse_present, same_reason}

pub same-itself : (reason : Reason) → same_reason reason reason ≡ true
same-itself reason = eq-eqb (reason_number reason) (reason_number reason) refl

-- ---- tests in order

keep-none : (b : Bool) (r : Reason) (more less : Option Reason) → (more ≡ None → less ≡ None) → cond b (Some r) more ≡ None → cond b (Some r) less ≡ None
keep-none true r more less also none = absurd (cc)
keep-none false r more less also none = also none

pub first-of-more : (xs : List Test) (y : Test) → first_reason (xs ++ y ∷ []) ≡ None → first_reason xs ≡ None
first-of-more [] y none = refl
first-of-more (x ∷ xs) y none = keep-none x.0 x.1 (first_reason (xs ++ y ∷ [])) (first_reason xs) (first-of-more xs y) none

same-some : {A : Type 0} (x y : A) → ◌≡◌ {A = Option A} (Some x) (Some y) → x ≡ y
same-some x y is = cc

last-reason : (b : Bool) (last reason : Reason) → cond b (Some last) None ≡ Some reason → last ≡ reason
last-reason true last reason is = same-some last reason is
last-reason false last reason is = absurd (cc)

step-reason : (b : Bool) (first last reason : Reason) (more less : Option Reason) → (more ≡ Some reason → unwrap_or less last ≡ reason)
    → cond b (Some first) more ≡ Some reason
    → unwrap_or (cond b (Some first) less) last ≡ reason
step-reason true first last reason more less also is = same-some first reason is
step-reason false first last reason more less also is = also is

first-or-last : (xs : List Test) (b : Bool) (last reason : Reason) → first_reason (xs ++ (b, last) ∷ []) ≡ Some reason
    → unwrap_or (first_reason xs) last ≡ reason
first-or-last [] b last reason is = last-reason b last reason is
first-or-last (x ∷ xs) b last reason is =
    step-reason x.0 x.1 last reason (first_reason (xs ++ (b, last) ∷ [])) (first_reason xs) (first-or-last xs b last reason) is

-- ---- presents

or-first : (a b : Bool) → a ≡ true → (a || b) ≡ true
or-first a b is = rw is refl

or-second : (a b : Bool) → b ≡ true → (a || b) ≡ true
or-second true b is = refl
or-second false b is = is

pub present-refused : (draft : Draft) (args : PresentArgs) (reason : Reason) → first_reason (present_tests draft args) ≡ Some reason
    → may_refuse draft reason ≡ true
present-refused draft args reason is =
    let S : Reason → Type 0 = λ r. same_reason r reason ≡ true in
    or-first (may_refuse_present draft reason) (may_refuse_get draft reason)
    (subst S (sym (first-or-last (tree_tests draft) _ TooManyFences reason is)) (same-itself reason))

-- ---- gets

view-refused : (draft : Draft) (b : Bool) (reason : Reason) → is_none draft.view ≡ b → cond b (Some NoView) None ≡ Some reason
    → may_refuse_get draft reason ≡ true
view-refused draft true reason none is = let R : Reason → Type 0 = λ r. may_refuse_get draft r ≡ true in subst R (same-some NoView reason is) none
view-refused draft false reason none is = absurd (cc)

name-any : (test : ℕ → Bool) (name : Name) (names : List Name) (id : ℕ) (b : Bool) → (name.id == id) ≡ b
    → (is_none (named names id) ≡ false → list_any (λ other. test other.id) names ≡ true)
    → is_none (cond b (Some name.serial) (named names id)) ≡ false → test id ≡ true → (test name.id || list_any (λ other. test other.id) names) ≡ true
name-any test name names id true same later found passes =
    let equal : name.id ≡ id = grind (arith, nat_tests) in
    or-first (test name.id) (list_any (λ other. test other.id) names) (ap test equal ∙ passes)
name-any test name names id false other later found passes = or-second (test name.id) (list_any (λ other. test other.id) names) (later found)

found-any : (test : ℕ → Bool) (names : List Name) (id : ℕ) → is_none (named names id) ≡ false → test id ≡ true → list_any (λ name. test name.id) names ≡ true
found-any test [] id found passes = absurd (cc)
found-any test (name ∷ names) id found passes = name-any test name names id (name.id == id) refl (λ later. found-any test names id later passes) found passes

child-refused : (draft : Draft) (c : ContentId) (reason : Reason) (zero unknown wrong : Bool) → (c.0 == 0) ≡ zero → is_none (content_of draft c) ≡ unknown
    → not (is_viewport (made_of draft c)) ≡ wrong
    → cond zero (Some ZeroId) (cond unknown (Some UnknownContent) (cond wrong (Some WrongContent) None)) ≡ Some reason → may_refuse_get draft reason ≡ true
child-refused draft c reason true unknown wrong number there sort is = let R : Reason → Type 0 =
    λ r. may_refuse_get draft r ≡ true in subst R (same-some ZeroId reason is) refl
child-refused draft c reason false true wrong number there sort is = let R : Reason → Type 0 =
    λ r. may_refuse_get draft r ≡ true in subst R (same-some UnknownContent reason is) refl
child-refused draft c reason false false true number there sort is =
    let R : Reason → Type 0 = λ r. may_refuse_get draft r ≡ true in
    subst R (same-some WrongContent reason is) (found-any (λ id. not (id == 0) && not (is_viewport (made_of draft (record { 0 = id })))) draft.content_names c.0
    there (rw (number, sort) refl))
child-refused draft c reason false false false number there sort is = absurd (cc)

get-refused-by : (draft : Draft) (get : Watch) (reason : Reason) → first_reason (get_tests draft get) ≡ Some reason → may_refuse_get draft reason ≡ true
get-refused-by draft watch.Layout reason is = view-refused draft (is_none draft.view) reason refl is
get-refused-by draft watch.Status reason is = view-refused draft (is_none draft.view) reason refl is
get-refused-by draft (watch.Child c) reason is = child-refused draft c reason (c.0 == 0) (is_none (content_of draft c)) (not (is_viewport (made_of draft c)))
    refl refl refl is

pub get-refused : (draft : Draft) (get : Watch) (reason : Reason) → first_reason (get_tests draft get) ≡ Some reason → may_refuse draft reason ≡ true
get-refused draft get reason is = or-second (may_refuse_present draft reason) (may_refuse_get draft reason) (get-refused-by draft get reason is)
