-- What a draft may refuse is what it refuses of some line.
use Rattle.std.proofs.Common.{◌≡◌, ℕ, suc, ◌+◌, ◌-◌, ◌<◌, Bool, true, false, cond, not, ◌&&◌, ◌||◌, List, [], ◌∷◌, ◌++◌, refl, sym, ap, ◌∙◌, arith, Option}
use Rattle.std.proofs.Common.{Some, None, inl, inr}
use Rattle.std.specs.Prelude.{◌==◌, unwrap_or, is_none, replicate, slice_get}
use Rattle.std.specs.List.{list_any}
use Rattle.std.proofs.lemmas.Bool.Decides.{nat_tests}
use Rattle.flat_base.specs.declared.errors.Reason.{Reason}
use Rattle.flat_base.specs.declared.errors.Reason.TheVariants.{ZeroId, IdInUse, UnknownTransform, UnknownContent, WrongContent, AlreadyChild, NotChild}
use Rattle.flat_base.specs.declared.errors.Reason.TheVariants.{BadScale, BadOpacity, BadRect, BadSize, BadBuffer, TooManyRegions, HasView, NoView, TokenNotHeld}
use Rattle.flat_base.specs.declared.errors.Reason.TheVariants.{Cycle, TreeTooLarge, ViewportTwice, TooManyNamed, TooManyChildren, TooManyFences}
use Rattle.flat_base.specs.declared.ids.ContentId.{ContentId}
use Rattle.flat_base.specs.Number.{reason_number}
use Rattle.flat_scene.specs.declared.calls.PresentArgs.{PresentArgs}
use Rattle.flat_scene.specs.declared.calls.Watch.{Watch}
use Rattle.flat_scene.specs.declared.calls.Watch.TheVariants as watch
use Rattle.flat_scene.specs.Draft.{Draft, Name, named, made_of, content_of}
use Rattle.flat_scene.specs.Interleave.{get_tests}
use Rattle.flat_scene.specs.Misuse.{first_reason, is_viewport, Test}
use Rattle.flat_scene.specs.Tree.{present_tests, tree_tests}
use Rattle.flat_rules.specs.Closing.{RefusesSome, RefusalsAreOfLines}
use Rattle.flat_rules.specs.Refusals.{may_refuse, may_refuse_get, may_refuse_present, same_reason}
use Rattle.flat_rules.proofs.lemmas.Refusals.{present-refused, get-refused}

-- ---- a reason is told by its number

abbrev reasons : List Reason
reasons =
    ZeroId ∷ IdInUse ∷ UnknownTransform ∷ UnknownContent ∷ WrongContent ∷ AlreadyChild ∷ NotChild ∷ BadScale ∷ BadOpacity ∷ BadRect ∷ BadSize ∷ BadBuffer
    ∷ TooManyRegions ∷ HasView
    ∷ NoView ∷ TokenNotHeld ∷ Cycle ∷ TreeTooLarge ∷ ViewportTwice ∷ TooManyNamed ∷ TooManyChildren ∷ TooManyFences ∷ []

told : (reason : Reason) → slice_get reasons (reason_number reason - 1) ≡ Some reason
told ZeroId = refl
told IdInUse = refl
told UnknownTransform = refl
told UnknownContent = refl
told WrongContent = refl
told AlreadyChild = refl
told NotChild = refl
told BadScale = refl
told BadOpacity = refl
told BadRect = refl
told BadSize = refl
told BadBuffer = refl
told TooManyRegions = refl
told HasView = refl
told NoView = refl
told TokenNotHeld = refl
told Cycle = refl
told TreeTooLarge = refl
told ViewportTwice = refl
told TooManyNamed = refl
told TooManyChildren = refl
told TooManyFences = refl

same-number : (a b : ℕ) → (a == b) ≡ true → a ≡ b
same-number a b is = grind (arith, nat_tests)

one-reason : (a b : Reason) → same_reason a b ≡ true → a ≡ b
one-reason a b is =
    let both : ◌≡◌ {A = Option Reason} (Some a) (Some b) =
    sym (told a) ∙ ap (λ (n : ℕ). slice_get reasons (n - 1)) (same-number (reason_number a) (reason_number b) is) ∙ told b in
    cc

-- ---- presents

or-last : (b : Bool) (first last : Reason) (more less : Option Reason) → more ≡ Some (unwrap_or less last)
    → cond b (Some first) more ≡ Some (unwrap_or (cond b (Some first) less) last)
or-last true first last more less is = refl
or-last false first last more less is = is

with-last : (xs : List Test) (last : Reason) → first_reason (xs ++ (true, last) ∷ []) ≡ Some (unwrap_or (first_reason xs) last)
with-last [] last = refl
with-last (x ∷ xs) last = or-last x.0 x.1 last (first_reason (xs ++ (true, last) ∷ [])) (first_reason xs) (with-last xs last)

-- a present with 17 acquire fences
abbrev too_many : PresentArgs
too_many = record { time = 0; acquire = replicate 17 (record { 0 = 0 }); release = []; unsquashable = false }

some-present : (draft : Draft) (reason : Reason) → may_refuse_present draft reason ≡ true → first_reason (present_tests draft too_many) ≡ Some reason
some-present draft reason is = with-last (tree_tests draft) TooManyFences
    ∙ ap Some (one-reason (unwrap_or (first_reason (tree_tests draft)) TooManyFences) reason is)

-- ---- gets

-- an id above all that name something
abbrev above : List Name → ℕ
above [] = 1
above (name ∷ names) = suc (name.id + above names)

not-named : (b : Bool) (serial : ℕ) (more : Option ℕ) → b ≡ false → more ≡ None → cond b (Some serial) more ≡ None
not-named b serial more other none = rw (other, none) refl

below-none : (names : List Name) (id : ℕ) → above names < suc id → named names id ≡ None
below-none [] id below = refl
below-none (name ∷ names) id below =
    let other : (name.id == id) ≡ false = grind (arith, nat_tests) in
    let more : above names < suc id = omega (arith, below) in
    not-named (name.id == id) name.serial (named names id) other (below-none names id more)

positive : (names : List Name) → 0 < above names
positive [] = omega arith
positive (name ∷ names) = omega arith

unknown-is : (zero unknown : Bool) (more : Option Reason) → zero ≡ false → unknown ≡ true
    → cond zero (Some ZeroId) (cond unknown (Some UnknownContent) more) ≡ Some UnknownContent
unknown-is zero unknown more other there = rw (other, there) refl

unknown : (draft : Draft) → first_reason (get_tests draft (watch.Child (record { 0 = above draft.content_names }))) ≡ Some UnknownContent
unknown draft =
    let some : 0 < above draft.content_names = positive draft.content_names in
    unknown-is (above draft.content_names == 0) _ _ (grind (arith, nat_tests))
    (ap is_none (below-none draft.content_names (above draft.content_names) (omega arith)))

-- an id of a list whose test holds
abbrev Named : (ℕ → Bool) → List Name → Type 0
Named test names = (id : ℕ) × (is_none (named names id) ≡ false) × (test id ≡ true)

named-itself : (names : List Name) (name : Name) → is_none (named (name ∷ names) name.id) ≡ false
named-itself names name = let same : (name.id == name.id) ≡ true = grind (arith, nat_tests) in rw same refl

named-later : (b : Bool) (serial : ℕ) (more : Option ℕ) → is_none more ≡ false → is_none (cond b (Some serial) more) ≡ false
named-later true serial more there = refl
named-later false serial more there = there

pick-named : (test : ℕ → Bool) (name : Name) (names : List Name) (b : Bool) → test name.id ≡ b
    → (list_any (λ other. test other.id) names ≡ true → Named test names)
    → (b || list_any (λ other. test other.id) names) ≡ true → Named test (name ∷ names)
pick-named test name names true passes later is = (name.id, named-itself names name, passes)
pick-named test name names false fails later is =
    let found = later is in
    (found.0, named-later (name.id == found.0) name.serial (named names found.0) found.1, found.2)

find-named : (test : ℕ → Bool) (names : List Name) → list_any (λ name. test name.id) names ≡ true → Named test names
find-named test [] is = absurd (cc)
find-named test (name ∷ names) is = pick-named test name names (test name.id) refl (find-named test names) is

wrong-is : (zero unknown viewport : Bool) → (not zero && not viewport) ≡ true → unknown ≡ false
    → cond zero (Some ZeroId) (cond unknown (Some UnknownContent) (cond (not viewport) (Some WrongContent) None)) ≡ Some WrongContent
wrong-is true unknown viewport is there = absurd (cc)
wrong-is false true viewport is there = absurd (cc)
wrong-is false false true is there = absurd (cc)
wrong-is false false false is there = refl

some-get : (draft : Draft) (reason : Reason) → may_refuse_get draft reason ≡ true → (get : Watch) × (first_reason (get_tests draft get) ≡ Some reason)
some-get draft ZeroId is = (watch.Child (record { 0 = 0 }), refl)
some-get draft UnknownContent is = (watch.Child (record { 0 = above draft.content_names }), unknown draft)
some-get draft WrongContent is =
    let found = find-named (λ id. not (id == 0) && not (is_viewport (made_of draft (record { 0 = id })))) draft.content_names is in
    let c : ContentId = record { 0 = found.0 } in
    (watch.Child c, wrong-is (found.0 == 0) (is_none (content_of draft c)) (is_viewport (made_of draft c)) found.2 found.1)
some-get draft NoView is = (watch.Layout, let none : is_none draft.view ≡ true = is in rw none refl)
some-get draft _ is = absurd (cc)

some-line : (draft : Draft) (reason : Reason) (b : Bool) → may_refuse_present draft reason ≡ b → (b || may_refuse_get draft reason) ≡ true
    → RefusesSome draft reason
some-line draft reason true present is = inl (too_many, some-present draft reason present)
some-line draft reason false present is = inr (some-get draft reason is)

refused-line : (draft : Draft) (reason : Reason) → RefusesSome draft reason → may_refuse draft reason ≡ true
refused-line draft reason (inl present) = present-refused draft present.0 reason present.1
refused-line draft reason (inr get) = get-refused draft get.0 reason get.1

pub refusals-are-of-lines : RefusalsAreOfLines
refusals-are-of-lines draft reason = (some-line draft reason (may_refuse_present draft reason) refl, refused-line draft reason)
