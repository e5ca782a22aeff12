-- What calls do to the view of a draft.
use Rattle.std.proofs.Common.{◌≡◌, ◌∙◌, sym, ℕ, suc, ◌+◌, ◌-◌, ◌<◌, Bool, true, false, List, [], ◌∷◌, ◌++◌, length, refl, arith, ap, Some, None, Ok, Err, inl}
use Rattle.std.proofs.Common.{inr, ◌⊎◌}
use Rattle.std.specs.Prelude.{cond, ◌||◌, ◌==◌, Option, Result, is_some, slice_get}
use Rattle.std.specs.List.{list_any}
use Rattle.std.proofs.lemmas.List.Folds.{list_any-append}
use Rattle.std.proofs.lemmas.Bool.Decides.{nat_tests}
use Rattle.flat_base.specs.declared.errors.Reason.{Reason}
use Rattle.flat_base.specs.declared.errors.Reason.TheVariants.{HasView}
use Rattle.flat_base.specs.declared.ids.PairNo.{PairNo}
use Rattle.flat_scene.specs.declared.calls.Call.{Call}
use Rattle.flat_scene.specs.declared.calls.Call.TheVariants.{CreateView, ReleaseView, Clear}
use Rattle.flat_scene.specs.declared.calls.ViewportProps.{ViewportProps}
use Rattle.flat_scene.specs.declared.setup.Setup.{Setup}
use Rattle.flat_scene.specs.Draft.{Draft}
use Rattle.flat_scene.specs.Effect.{effect, after_call, after_calls, unless}
use Rattle.flat_scene.specs.Misuse.{misuse}
use Rattle.flat_rules.specs.Ends.{times, count_if, ends_view}
use Rattle.flat_rules.specs.Legal.{is_link, all_but_last, makes_view, makes_viewport}
use Rattle.flat_facts.specs.Views.{is_new_view}
use Rattle.flat_rules.specs.Shown.{is_pair}
use Rattle.flat_facts.proofs.lemmas.Tests.{same-pair}
use Rattle.std.proofs.lemmas.Bool.{or_from, or_parts}

-- ---- several calls, one after the other

pub after-append : (setup : Setup) (r : Result Draft Reason) (xs ys : List Call)
    → after_calls setup r (xs ++ ys) ≡ after_calls setup (after_calls setup r xs) ys
after-append setup r [] ys = refl
after-append setup r (x ∷ xs) ys = after-append setup (after_call setup r x) xs ys

pub times-append : (setup : Setup) (test : Draft → Call → Bool) (r : Result Draft Reason) (xs ys : List Call)
    → times setup test r (xs ++ ys) ≡ times setup test r xs + times setup test (after_calls setup r xs) ys
times-append setup test r [] ys = omega arith
times-append setup test r (x ∷ xs) ys =
    let rest : times setup test (after_call setup r x) (xs ++ ys)
    ≡ times setup test (after_call setup r x) xs + times setup test (after_calls setup (after_call setup r x) xs) ys =
    times-append setup test (after_call setup r x) xs ys in
    omega (arith, rest)

pub after-refused : (setup : Setup) (reason : Reason) (xs : List Call) → after_calls setup (Err reason) xs ≡ Err reason
after-refused setup reason [] = refl
after-refused setup reason (x ∷ xs) = after-refused setup reason xs

pub good-one : (setup : Setup) (d d' : Draft) (calls : List Call) (reason : Option Reason) → after_calls setup (unless reason d) calls ≡ Ok d'
    → after_calls setup (Ok d) calls ≡ Ok d'
good-one setup d d' calls None good = good
good-one setup d d' calls (Some reason) good = let wrong : Err reason ≡ Ok d' = sym (after-refused setup reason calls) ∙ good in cc

-- ---- one pair, while no view is made

same-view : (d d' : Draft) → (let r : Result Draft Reason = Ok d in r) ≡ Ok d' → d.view ≡ d'.view
same-view d d' same = let drafts : d ≡ d' = cc in ap (λ (x : Draft). x.view) drafts

-- Whether a view is there before and after, and how often calls ended it: a view that isn't there stays so, and one that is there stays or is ended.
pub record Calm (before after : Bool) (n : ℕ) : Type 0 where
  pub none : before ≡ false → (after ≡ false) × (n ≡ 0)
  pub some : before ≡ true → ((after ≡ true) × (n ≡ 0)) ⊎ ((after ≡ false) × (0 < n))

calm-same : (a : Bool) → Calm a a 0
calm-same a = record { none = λ is. (is, refl); some = λ is. inl (is, refl) }

calm-end : (a : Bool) → Calm a false (count_if (Some a))
calm-end true = record { none = λ is. let wrong : true ≡ false = is in cc; some = λ is. inr (refl, omega arith) }
calm-end false = record { none = λ is. (refl, refl); some = λ is. let wrong : false ≡ true = is in cc }

calm-some : (a b c : Bool) (m n : ℕ) → Calm b c n → ((b ≡ true) × (m ≡ 0)) ⊎ ((b ≡ false) × (0 < m)) → ((c ≡ true) × (m + n ≡ 0)) ⊎ ((c ≡ false) × (0 < m + n))
calm-some a b c m n second (inr p) = let rest = second.none p.0 in inr (rest.0, omega (arith, p.1))
calm-some a b c m n second (inl p) = by_rest (second.some p.0)
  where
    by_rest : ((c ≡ true) × (n ≡ 0)) ⊎ ((c ≡ false) × (0 < n)) → ((c ≡ true) × (m + n ≡ 0)) ⊎ ((c ≡ false) × (0 < m + n))
    by_rest (inl q) = inl (q.0, omega (arith, p.1, q.1))
    by_rest (inr q) = inr (q.0, omega (arith, q.1))

calm-then : (a b c : Bool) (m n : ℕ) → Calm a b m → Calm b c n → Calm a c (m + n)
calm-then a b c m n first second = record {
  none = λ is. let here = first.none is in let rest = second.none here.0 in (rest.0, omega (arith, here.1, rest.1));
  some = λ is. calm-some a b c m n second (first.some is);
}

calm-one : (p : PairNo) (d : Draft) (call : Call) → is_new_view call ≡ false
    → Calm (is_pair d.view p) (is_pair (effect d call).view p) (count_if (Some (ends_view p d call)))
calm-one p d (CreateView q) no_link = let wrong : true ≡ false = no_link in cc
calm-one p d ReleaseView no_link = calm-end (is_pair d.view p)
calm-one p d Clear no_link = calm-end (is_pair d.view p)
calm-one p d _ no_link = calm-same (is_pair d.view p)

ended-one : (setup : Setup) (p : PairNo) (d : Draft) (calls : List Call) (reason : Option Reason) (d1 d' : Draft)
    → after_calls setup (unless reason d1) calls ≡ Ok d'
    → times setup (ends_view p) (unless reason d1) calls ≡ times setup (ends_view p) (Ok d1) calls
ended-one setup p d calls None d1 d' good = refl
ended-one setup p d calls (Some reason) d1 d' good = let wrong : Err reason ≡ Ok d' = sym (after-refused setup reason calls) ∙ good in cc

pub calm : (setup : Setup) (p : PairNo) (calls : List Call) (d d' : Draft) → list_any is_new_view calls ≡ false → after_calls setup (Ok d) calls ≡ Ok d'
    → Calm (is_pair d.view p) (is_pair d'.view p) (times setup (ends_view p) (Ok d) calls)
calm setup p [] d d' no_link good = rw (← same-view d d' good) (calm-same (is_pair d.view p))
calm setup p (call ∷ calls) d d' no_link good =
    let after : Draft = effect d call in
    rw (ended-one setup p d calls (misuse setup d call) after d' good)
    (calm-then (is_pair d.view p) (is_pair after.view p) (is_pair d'.view p) (count_if (Some (ends_view p d call))) (times setup (ends_view p) (Ok after) calls)
    (calm-one p d call (or_parts (is_new_view call) (list_any is_new_view calls) no_link).0)
    (calm setup p calls after d' (or_parts (is_new_view call) (list_any is_new_view calls) no_link).1
    (good-one setup after d' calls (misuse setup d call) good)))

-- ---- a view is made

-- Before the last call there was no view, and after it there is the new one.
pub record Creates (setup : Setup) (q : PairNo) (calls : List Call) (d d' : Draft) : Type 0 where
  pub between : Draft
  pub good : after_calls setup (Ok d) calls ≡ Ok between
  pub none : between.view ≡ None
  pub some : d'.view ≡ Some q

no-view : (q : PairNo) (d0 d' : Draft) (view : Option PairNo) → d0.view ≡ view
    → unless (cond (is_some view) (Some HasView) None) (effect d0 (CreateView q)) ≡ Ok d' → (d0.view ≡ None) × (d'.view ≡ Some q)
no-view q d0 d' None is good = (is, sym (same-view (effect d0 (CreateView q)) d' good))
no-view q d0 d' (Some p) is good = let wrong : Err HasView ≡ Ok d' = good in cc

creates-after : (setup : Setup) (q : PairNo) (calls : List Call) (d d' : Draft) (r : Result Draft Reason) → after_calls setup (Ok d) calls ≡ r
    → after_calls setup r (CreateView q ∷ []) ≡ Ok d' → Creates setup q calls d d'
creates-after setup q calls d d' (Err reason) is good = let wrong : Err reason ≡ Ok d' = good in cc
creates-after setup q calls d d' (Ok d0) is good =
    let here = no-view q d0 d' d0.view refl good in
    record { between = d0; good = is; none = here.0; some = here.1 }

pub creates : (setup : Setup) (q : PairNo) (calls : List Call) (d d' : Draft) → after_calls setup (Ok d) (calls ++ CreateView q ∷ []) ≡ Ok d'
    → Creates setup q calls d d'
creates setup q calls d d' good = creates-after setup q calls d d' (after_calls setup (Ok d) calls) refl
    (sym (after-append setup (Ok d) calls (CreateView q ∷ [])) ∙ good)

-- ---- the last call of an entry that makes a view

pub split-last : (xs : List Call) (x : Call) → slice_get xs (length xs - 1) ≡ Some x → xs ≡ all_but_last xs ++ x ∷ []
split-last [] x last = let wrong : None ≡ Some x = last in cc
split-last (y ∷ []) x last = let same : y ≡ x = cc in rw same refl
split-last (y ∷ z ∷ xs) x last =
    let place : length (y ∷ z ∷ xs) - 1 ≡ suc (length (z ∷ xs) - 1) = omega arith in
    let here : slice_get (z ∷ xs) (length (z ∷ xs) - 1) ≡ Some x = ap (λ (n : ℕ). slice_get (y ∷ z ∷ xs) n) (sym place) ∙ last in
    let more : (length (z ∷ xs) == 0) ≡ false = grind (arith, nat_tests) in
    rw more (ap (λ (ys : List Call). y ∷ ys) (split-last (z ∷ xs) x here))

made-last : (q : PairNo) (call : Call) → makes_view q (Some call) ≡ true → call ≡ CreateView q
made-last q (CreateView p) is = ap CreateView (same-pair p q is)
made-last q _ is = cc

pub last-made : (q : PairNo) (call : Option Call) → makes_view q call ≡ true → call ≡ Some (CreateView q)
last-made q None is = cc
last-made q (Some call) is = ap Some (made-last q call is)

-- ---- calls that use no end make no view

no-link-view : (call : Call) → is_link call ≡ false → is_new_view call ≡ false
no-link-view (CreateView p) none = none
no-link-view _ none = refl

pub no-links-view : (calls : List Call) → list_any is_link calls ≡ false → list_any is_new_view calls ≡ false
no-links-view [] none = refl
no-links-view (call ∷ calls) none =
    or_from (is_new_view call) (list_any is_new_view calls) (no-link-view call (or_parts (is_link call) (list_any is_link calls) none).0)
    (no-links-view calls (or_parts (is_link call) (list_any is_link calls) none).1)

-- nor do those of an entry whose last call alone makes a viewport
viewport-no-view : (p : PairNo) (props : ViewportProps) (call : Call) → makes_viewport p props (Some call) ≡ true → is_new_view call ≡ false
viewport-no-view p props (CreateView q) is = let wrong : false ≡ true = is in cc
viewport-no-view p props _ is = refl

pub viewport-alone : (p : PairNo) (props : ViewportProps) (carries : List Call) (last : Option Call) → slice_get carries (length carries - 1) ≡ last
    → makes_viewport p props last ≡ true
    → list_any is_link (all_but_last carries) ≡ false → list_any is_new_view carries ≡ false
viewport-alone p props carries None at is none = let wrong : false ≡ true = is in cc
viewport-alone p props carries (Some call) at is none =
    ap (list_any is_new_view) (split-last carries call at) ∙ list_any-append is_new_view (all_but_last carries) (call ∷ [])
    ∙ or_from (list_any is_new_view (all_but_last carries)) (is_new_view call || false) (no-links-view (all_but_last carries) none)
    (or_from (is_new_view call) false (viewport-no-view p props call is) refl)
