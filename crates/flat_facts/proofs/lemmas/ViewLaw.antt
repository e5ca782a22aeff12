-- What the presents of a session see of the ends of its views: one that sees the end of the last view sees the end of each.
use Rattle.std.proofs.Common.{◌≡◌, ◌∙◌, sym, subst, ℕ, ◌+◌, ◌<◌, ◌≤◌, Bool, true, false, List, [], ◌∷◌, ◌++◌, length, refl, arith, ap, Some, None, Ok, inl, inr}
use Rattle.std.proofs.Common.{◌⊎◌}
use Rattle.std.specs.Prelude.{◌||◌, ◌==◌, nat_lt, nat_le, Option, Result, option_map, is_some, unwrap_or}
use Rattle.std.specs.List.{list_any}
use Rattle.std.proofs.lemmas.Bool.Decides.{nat_tests}
use Rattle.flat_base.specs.declared.errors.Reason.{Reason}
use Rattle.flat_base.specs.declared.ids.PairNo.{PairNo}
use Rattle.flat_base.specs.declared.ids.SessionNo.{SessionNo}
use Rattle.flat_scene.specs.declared.calls.Call.{Call}
use Rattle.flat_scene.specs.declared.calls.Call.TheVariants.{CreateView}
use Rattle.flat_scene.specs.declared.setup.Setup.{Setup}
use Rattle.flat_scene.specs.Draft.{Draft, empty_draft, of_serial}
use Rattle.flat_scene.specs.Effect.{after_calls, draft_of}
use Rattle.flat_scene.specs.History.{Published}
use Rattle.flat_rules.specs.Ends.{times, ends_view, happens}
use Rattle.flat_rules.specs.Legal.{owns_view}
use Rattle.flat_facts.specs.Views.{is_new_view}
use Rattle.flat_rules.specs.Shown.{is_pair}
use Rattle.flat_rules.proofs.lemmas.ShownSteps.{serial-append}
use Rattle.flat_facts.proofs.lemmas.ViewCalls.{Calm, calm, creates, after-append, times-append}
use Rattle.flat_facts.proofs.lemmas.Tests.{same-pair}
use Rattle.std.proofs.lemmas.Bool.{or_right, or_parts}

-- the calls of the n-th present; none for number 0
abbrev pub made_at : List Published → ℕ → List Call
made_at ps n = unwrap_or (option_map (λ present. present.made) (of_serial ps n)) []

abbrev pub ended : Setup → PairNo → List Call → Bool
ended setup p cs = happens setup (ends_view p) cs

-- What holds of an open session after its calls: which view ends it used, which it holds, which is the last, and what its presents have seen of their end.
pub record Viewing (setup : Setup) (s : SessionNo) (used : PairNo → Bool) (cs : List Call) (ps : List Published) (last : Option PairNo) : Type 0 where
  pub draft : Draft
  pub good : draft_of setup cs ≡ Ok draft
  -- each view end that was used is held, or ended
  pub standing : (p : PairNo) → owns_view setup s p ≡ true → used p ≡ true → (is_pair draft.view p ≡ true) ⊎ (ended setup p cs ≡ true)
  -- what is held is its own, was used, isn't ended, and is the last
  pub held : (p : PairNo) → is_pair draft.view p ≡ true → (owns_view setup s p ≡ true) × (used p ≡ true) × (ended setup p cs ≡ false) × (last ≡ Some p)
  -- what wasn't used isn't ended
  pub fresh : (p : PairNo) → owns_view setup s p ≡ true → used p ≡ false → ended setup p cs ≡ false
  -- no present sees an end that isn't there yet
  pub early : (p : PairNo) → ended setup p cs ≡ false → (n : ℕ) → n ≤ length ps → ended setup p (made_at ps n) ≡ false
  -- the last is its own, and was used
  pub made : (q : PairNo) → last ≡ Some q → (owns_view setup s q ≡ true) × (used q ≡ true)
  -- a present that sees the end of the last sees that of each
  pub later : (q p : PairNo) → last ≡ Some q → owns_view setup s p ≡ true → used p ≡ true → (n : ℕ) → n ≤ length ps → ended setup q (made_at ps n) ≡ true
      → ended setup p (made_at ps n) ≡ true
  pub known : (p : PairNo) → owns_view setup s p ≡ true → used p ≡ true → is_some last ≡ true

-- ---- before any entry

pub viewing-first : (setup : Setup) (s : SessionNo) → Viewing setup s (λ p. false) [] [] None
viewing-first setup s = record {
  draft = empty_draft;
  good = refl;
  standing = λ p owned is. let wrong : false ≡ true = is in cc;
  held = λ p is. let wrong : false ≡ true = is in cc;
  fresh = λ p owned is. refl;
  early = λ p is n few. refl;
  made = λ q is. let none : (let o : Option PairNo = None in o) ≡ Some q = is in cc;
  later = λ q p last owned is n few sees. let wrong : false ≡ true = is in cc;
  known = λ p owned is. is;
}

-- ---- calls that make no view, and a present with all of them at most

ended-false : (m n : ℕ) → nat_lt 0 m ≡ false → n ≡ 0 → nat_lt 0 (m + n) ≡ false
ended-false m n none zero_more = grind (arith, nat_tests)

ended-more : (m n : ℕ) → 0 < n → nat_lt 0 (m + n) ≡ true
ended-more m n some = grind (arith, nat_tests)

ended-stays : (m n : ℕ) → nat_lt 0 m ≡ true → nat_lt 0 (m + n) ≡ true
ended-stays m n some = grind (arith, nat_tests)

not-ended : (m n : ℕ) → nat_lt 0 (m + n) ≡ false → nat_lt 0 m ≡ false
not-ended m n none = grind (arith, nat_tests)

-- how the end of a view is counted over calls before and after
ended-append : (setup : Setup) (p : PairNo) (cs more : List Call) (d : Draft) → draft_of setup cs ≡ Ok d
    → ended setup p (cs ++ more) ≡ nat_lt 0 (times setup (ends_view p) (Ok empty_draft) cs + times setup (ends_view p) (Ok d) more)
ended-append setup p cs more d good =
    ap (λ (n : ℕ). nat_lt 0 n)
    (times-append setup (ends_view p) (Ok empty_draft) cs more
    ∙ ap (λ (r : Result Draft Reason). times setup (ends_view p) (Ok empty_draft) cs + times setup (ends_view p) r more) good)

pub good-more : (setup : Setup) (cs more : List Call) (d d' : Draft) → draft_of setup cs ≡ Ok d → draft_of setup (cs ++ more) ≡ Ok d'
    → after_calls setup (Ok d) more ≡ Ok d'
good-more setup cs more d d' good all =
    ap (λ (r : Result Draft Reason). after_calls setup r more) (sym good) ∙ sym (after-append setup (Ok empty_draft) cs more) ∙ all

-- whether a session has a view after more calls, without a new one
standing-more : (setup : Setup) (p : PairNo) (cs more : List Call) (d d' : Draft) → draft_of setup cs ≡ Ok d
    → Calm (is_pair d.view p) (is_pair d'.view p) (times setup (ends_view p) (Ok d) more)
    → (is_pair d.view p ≡ true) ⊎ (ended setup p cs ≡ true) → (is_pair d'.view p ≡ true) ⊎ (ended setup p (cs ++ more) ≡ true)
standing-more setup p cs more d d' good quiet (inr gone) =
    inr (ended-append setup p cs more d good ∙ ended-stays (times setup (ends_view p) (Ok empty_draft) cs) (times setup (ends_view p) (Ok d) more) gone)
standing-more setup p cs more d d' good quiet (inl here) = by_calm (quiet.some here)
  where
    by_calm : ((is_pair d'.view p ≡ true) × (times setup (ends_view p) (Ok d) more ≡ 0))
        ⊎ ((is_pair d'.view p ≡ false) × (0 < times setup (ends_view p) (Ok d) more))
        → (is_pair d'.view p ≡ true) ⊎ (ended setup p (cs ++ more) ≡ true)
    by_calm (inl q) = inl q.0
    by_calm (inr q) = inr (ended-append setup p cs more d good
        ∙ ended-more (times setup (ends_view p) (Ok empty_draft) cs) (times setup (ends_view p) (Ok d) more) q.1)

-- what is held after is held before, and isn't ended between
held-more : (a a' : Bool) (n : ℕ) → Calm a a' n → a' ≡ true → (b : Bool) → a ≡ b → (a ≡ true) × (n ≡ 0)
held-more a a' n quiet here false is = let wrong : false ≡ true = sym (quiet.none is).0 ∙ here in cc
held-more a a' n quiet here true is = by_calm (quiet.some is)
  where
    by_calm : ((a' ≡ true) × (n ≡ 0)) ⊎ ((a' ≡ false) × (0 < n)) → (a ≡ true) × (n ≡ 0)
    by_calm (inl q) = (is, q.1)
    by_calm (inr q) = let wrong : false ≡ true = sym q.0 ∙ here in cc

-- the earlier presents
pub made-earlier : (ps more : List Published) (n : ℕ) → n ≤ length ps → made_at (ps ++ more) n ≡ made_at ps n
made-earlier ps more n few = ap (λ (o : Option Published). unwrap_or (option_map (λ present. present.made) o) []) (serial-append ps more n few)

by-order : (n m : ℕ) (b : Bool) → nat_le n m ≡ b → (n ≤ m) ⊎ (m < n)
by-order n m true is = inl (grind (arith, nat_tests))
by-order n m false is = inr (grind (arith, nat_tests))

pub le-or-lt : (n m : ℕ) → (n ≤ m) ⊎ (m < n)
le-or-lt n m = by-order n m (nat_le n m) refl

-- the new presents, if there are any, are made of all these calls
abbrev pub MadeOf : List Published → List Published → List Call → Type 0
MadeOf ps more all = (n : ℕ) → length ps < n → n ≤ length (ps ++ more) → made_at (ps ++ more) n ≡ all

early-more : (setup : Setup) (p : PairNo) (ps more : List Published) (all : List Call) (n : ℕ) → MadeOf ps more all → ended setup p all ≡ false
    → (n ≤ length ps → ended setup p (made_at ps n) ≡ false) → n ≤ length (ps ++ more)
    → (n ≤ length ps) ⊎ (length ps < n) → ended setup p (made_at (ps ++ more) n) ≡ false
early-more setup p ps more all n made none before few (inl less) = ap (ended setup p) (made-earlier ps more n less) ∙ before less
early-more setup p ps more all n made none before few (inr past) = ap (ended setup p) (made n past few) ∙ none

-- what sees the end of the last sees that of each, where it was the last before
later-more : (setup : Setup) (q p : PairNo) (ps more : List Published) (all : List Call) (n : ℕ) → MadeOf ps more all
    → (ended setup q all ≡ true → ended setup p all ≡ true)
    → (n ≤ length ps → ended setup q (made_at ps n) ≡ true → ended setup p (made_at ps n) ≡ true) → n ≤ length (ps ++ more)
    → (n ≤ length ps) ⊎ (length ps < n) → ended setup q (made_at (ps ++ more) n) ≡ true → ended setup p (made_at (ps ++ more) n) ≡ true
later-more setup q p ps more all n made now before few (inl less) sees =
    let same : (r : PairNo) → ended setup r (made_at (ps ++ more) n) ≡ ended setup r (made_at ps n) = λ r. ap (ended setup r) (made-earlier ps more n less) in
    same p ∙ before less (sym (same q) ∙ sees)
later-more setup q p ps more all n made now before few (inr past) sees =
    let same : (r : PairNo) → ended setup r (made_at (ps ++ more) n) ≡ ended setup r all = λ r. ap (ended setup r) (made n past few) in
    same p ∙ now (sym (same q) ∙ sees)

-- where the last is ended, so is what stands
now-ended : (setup : Setup) (q p : PairNo) (all : List Call) (last : Option PairNo) → last ≡ Some q → (last ≡ Some p) ⊎ (ended setup p all ≡ true)
    → ended setup q all ≡ true → ended setup p all ≡ true
now-ended setup q p all last is (inr gone) sees = gone
now-ended setup q p all last is (inl here) sees =
    let both : Some q ≡ Some p = sym is ∙ here in
    let same : q ≡ p = cc in
    ap (λ (r : PairNo). ended setup r all) (sym same) ∙ sees

last-or-ended : (is_held gone : Bool) (last : Option PairNo) (p : PairNo) → (is_held ≡ true → last ≡ Some p) → (is_held ≡ true) ⊎ (gone ≡ true)
    → (last ≡ Some p) ⊎ (gone ≡ true)
last-or-ended is_held gone last p named (inl here) = inl (named here)
last-or-ended is_held gone last p named (inr is) = inr is

fresh-by : (a a' b : Bool) (m n : ℕ) → Calm a a' n → a ≡ b → (a ≡ true → b ≡ false) → nat_lt 0 m ≡ false → nat_lt 0 (m + n) ≡ false
fresh-by a a' true m n quiet is never none = let wrong : true ≡ false = never is in cc
fresh-by a a' false m n quiet is never none = ended-false m n none (quiet.none is).1

-- an entry of the session that makes no view
pub viewing-more : (setup : Setup) (s : SessionNo) (used : PairNo → Bool) (cs : List Call) (ps : List Published) (last : Option PairNo)
    → Viewing setup s used cs ps last
    → (carries : List Call) (more : List Published) (d' : Draft) → list_any is_new_view carries ≡ false → draft_of setup (cs ++ carries) ≡ Ok d'
    → MadeOf ps more (cs ++ carries)
    → Viewing setup s used (cs ++ carries) (ps ++ more) last
viewing-more setup s used cs ps last old carries more d' no_link good made =
    let d = old.draft in
    let after : after_calls setup (Ok d) carries ≡ Ok d' = good-more setup cs carries d d' old.good good in
    let quiet : (p : PairNo) → Calm (is_pair d.view p) (is_pair d'.view p) (times setup (ends_view p) (Ok d) carries) =
    λ p. calm setup p carries d d' no_link after in
    let standing : (p : PairNo) → owns_view setup s p ≡ true → used p ≡ true → (is_pair d'.view p ≡ true) ⊎ (ended setup p (cs ++ carries) ≡ true) =
    λ p owned is. standing-more setup p cs carries d d' old.good (quiet p) (old.standing p owned is) in
    let held : (p : PairNo) → is_pair d'.view p ≡ true → (owns_view setup s p ≡ true) × (used p ≡ true) × (ended setup p (cs ++ carries) ≡ false)
    × (last ≡ Some p) =
    λ p here.
    let was = held-more (is_pair d.view p) (is_pair d'.view p) (times setup (ends_view p) (Ok d) carries) (quiet p) here (is_pair d.view p) refl in
    let before = old.held p was.0 in (
      before.0,
      before.1,
      ended-append setup p cs carries d old.good
          ∙ ended-false (times setup (ends_view p) (Ok empty_draft) cs) (times setup (ends_view p) (Ok d) carries) before.2 was.1,
      before.3,
    ) in
    let early : (p : PairNo) → ended setup p (cs ++ carries) ≡ false → (n : ℕ) → n ≤ length (ps ++ more) → ended setup p (made_at (ps ++ more) n) ≡ false =
    λ p none n few.
    let before : ended setup p cs ≡ false = not-ended (times setup (ends_view p) (Ok empty_draft) cs) (times setup (ends_view p) (Ok d) carries)
    (sym (ended-append setup p cs carries d old.good) ∙ none) in
    early-more setup p ps more (cs ++ carries) n made none (λ less. old.early p before n less) few (le-or-lt n (length ps)) in
    record {
      draft = d';
      good = good;
      standing = standing;
      held = held;
      fresh = λ p owned unused.
          ended-append setup p cs carries d old.good
          ∙ fresh-by (is_pair d.view p) (is_pair d'.view p) (is_pair d.view p) (times setup (ends_view p) (Ok empty_draft) cs)
          (times setup (ends_view p) (Ok d) carries) (quiet p) refl
          (λ here. let wrong : true ≡ false = sym (old.held p here).1 ∙ unused in cc) (old.fresh p owned unused);
      early = early;
      made = old.made;
      later = λ q p is owned used_p n few sees.
          later-more setup q p ps more (cs ++ carries) n made
          (now-ended setup q p (cs ++ carries) last is (last-or-ended (is_pair d'.view p) (ended setup p (cs ++ carries)) last p (λ here. (held p here).3)
          (standing p owned used_p)))
          (old.later q p is owned used_p n) few (le-or-lt n (length ps)) sees;
      known = old.known;
    }

-- ---- an entry that makes a view

made-times : (setup : Setup) (p q : PairNo) (calls : List Call) (d d0 : Draft) → after_calls setup (Ok d) calls ≡ Ok d0
    → times setup (ends_view p) (Ok d) (calls ++ CreateView q ∷ []) ≡ times setup (ends_view p) (Ok d) calls
made-times setup p q calls d d0 good =
    let none : times setup (ends_view p) (Ok d0) (CreateView q ∷ []) ≡ 0 = refl in
    let last : times setup (ends_view p) (after_calls setup (Ok d) calls) (CreateView q ∷ []) ≡ 0 =
    ap (λ (r : Result Draft Reason). times setup (ends_view p) r (CreateView q ∷ [])) good ∙ none in
    omega (arith, times-append setup (ends_view p) (Ok d) calls (CreateView q ∷ []), last)

-- what stood is ended, since there was no view before the new one
ended-before : (a : Bool) (m n : ℕ) (gone : Bool) → Calm a false n → gone ≡ nat_lt 0 (m + n) → (a ≡ true) ⊎ (nat_lt 0 m ≡ true) → gone ≡ true
ended-before a m n gone quiet is (inr before) = is ∙ ended-stays m n before
ended-before a m n gone quiet is (inl here) = by_calm (quiet.some here)
  where
    by_calm : ((false ≡ true) × (n ≡ 0)) ⊎ ((false ≡ false) × (0 < n)) → gone ≡ true
    by_calm (inl q) = let wrong : false ≡ true = q.0 in cc
    by_calm (inr q) = is ∙ ended-more m n q.1

stood-or-new : (setup : Setup) (p q : PairNo) (all : List Call) (view : Option PairNo) (before : Bool) → view ≡ Some q
    → (before ≡ true → ended setup p all ≡ true) → (before || q.0 == p.0) ≡ true
    → (is_pair view p ≡ true) ⊎ (ended setup p all ≡ true)
stood-or-new setup p q all view true new gone is = inr (gone refl)
stood-or-new setup p q all view false new gone is = inl (ap (λ (v : Option PairNo). is_pair v p) new ∙ is)

pub viewing-made : (setup : Setup) (s : SessionNo) (used : PairNo → Bool) (cs : List Call) (ps : List Published) (last : Option PairNo)
    → Viewing setup s used cs ps last
    → (q : PairNo) (first : List Call) (d' : Draft) → list_any is_new_view first ≡ false → draft_of setup (cs ++ (first ++ CreateView q ∷ [])) ≡ Ok d'
    → owns_view setup s q ≡ true → used q ≡ false
    → (used' : PairNo → Bool) → ((p : PairNo) → used' p ≡ (used p || q.0 == p.0))
    → Viewing setup s used' (cs ++ (first ++ CreateView q ∷ [])) ps (Some q)
viewing-made setup s used cs ps last old q first d' no_link good owned_q unused used' uses =
    let d = old.draft in
    let carries : List Call = first ++ CreateView q ∷ [] in
    let all : List Call = cs ++ carries in
    let made = creates setup q first d d' (good-more setup cs carries d d' old.good good) in
    let n : PairNo → ℕ = λ p. times setup (ends_view p) (Ok d) first in
    let m : PairNo → ℕ = λ p. times setup (ends_view p) (Ok empty_draft) cs in
    let quiet : (p : PairNo) → Calm (is_pair d.view p) false (n p) =
    λ p. let C : Option PairNo → Type 0 = λ v. Calm (is_pair d.view p) (is_pair v p) (n p) in
    subst C made.none (calm setup p first d made.between no_link made.good) in
    let counted : (p : PairNo) → ended setup p all ≡ nat_lt 0 (m p + n p) =
    λ p. ended-append setup p cs carries d old.good ∙ ap (λ (k : ℕ). nat_lt 0 (m p + k)) (made-times setup p q first d made.between made.good) in
    let unended : (p : PairNo) → owns_view setup s p ≡ true → used p ≡ false → ended setup p all ≡ false =
    λ p owned none. counted p ∙ fresh-by (is_pair d.view p) false (is_pair d.view p) (m p) (n p) (quiet p) refl
    (λ here. let wrong : true ≡ false = sym (old.held p here).1 ∙ none in cc) (old.fresh p owned none) in
    let early : (p : PairNo) → ended setup p all ≡ false → (k : ℕ) → k ≤ length ps → ended setup p (made_at ps k) ≡ false =
    λ p none k few. old.early p (not-ended (m p) (n p) (sym (counted p) ∙ none)) k few in
    let here : (p : PairNo) → is_pair d'.view p ≡ true → q ≡ p = λ p is. same-pair q p (ap (λ (v : Option PairNo). is_pair v p) (sym made.some) ∙ is) in
    let own_pair : (q.0 == q.0) ≡ true = grind (arith, nat_tests) in
    let now_used : used' q ≡ true = uses q ∙ or_right (used q) (q.0 == q.0) own_pair in
    record {
      draft = d';
      good = good;
      standing = λ p owned is.
          stood-or-new setup p q all d'.view (used p) made.some
          (λ before. ended-before (is_pair d.view p) (m p) (n p) (ended setup p all) (quiet p) (counted p) (old.standing p owned before))
          (sym (uses p) ∙ is);
      held = λ p is.
          let same : q ≡ p = here p is in
          let H : PairNo → Type 0 = λ r. (owns_view setup s r ≡ true) × (used' r ≡ true) × (ended setup r all ≡ false) × (Some q ≡ Some r) in
          subst H same (owned_q, now_used, unended q owned_q unused, refl);
      fresh = λ p owned none. unended p owned (or_parts (used p) (q.0 == p.0) (sym (uses p) ∙ none)).0;
      early = early;
      made = λ r is.
          let same : q ≡ r = cc in
          let M : PairNo → Type 0 = λ x. (owns_view setup s x ≡ true) × (used' x ≡ true) in
          subst M same (owned_q, now_used);
      later = λ r p is owned used_p k few sees.
          let same : q ≡ r = cc in
          let wrong : false ≡ true = sym (early q (unended q owned_q unused) k few) ∙ ap (λ (x : PairNo). ended setup x (made_at ps k)) same ∙ sees in
          cc;
      known = λ p owned is. refl;
    }

-- ---- the same, with the uses told otherwise

pub viewing-same : (setup : Setup) (s : SessionNo) (used used' : PairNo → Bool) (cs : List Call) (ps : List Published) (last : Option PairNo)
    → ((p : PairNo) → owns_view setup s p ≡ true → used' p ≡ used p) → Viewing setup s used cs ps last → Viewing setup s used' cs ps last
viewing-same setup s used used' cs ps last same old = record {
  draft = old.draft;
  good = old.good;
  standing = λ p owned is. old.standing p owned (sym (same p owned) ∙ is);
  held = λ p here. let was = old.held p here in (was.0, same p was.0 ∙ was.1, was.2, was.3);
  fresh = λ p owned none. old.fresh p owned (sym (same p owned) ∙ none);
  early = old.early;
  made = λ q is. let was = old.made q is in (was.0, same q was.0 ∙ was.1);
  later = λ q p is owned used_p n few sees. old.later q p is owned (sym (same p owned) ∙ used_p) n few sees;
  known = λ p owned is. old.known p owned (sym (same p owned) ∙ is);
}
