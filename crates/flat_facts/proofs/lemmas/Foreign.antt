-- A session's calls end no view and clear no viewport of a pair whose end it doesn't own; and which viewports they clear, counted call by call.
use Rattle.std.proofs.Common.{◌≡◌, ◌∙◌, sym, subst, ℕ, ◌+◌, Bool, true, false, List, [], ◌∷◌, ◌++◌, length, refl, arith, ap}
use Rattle.std.specs.Prelude.{Option, cond, not, filter, ◌||◌, ◌&&◌, ◌==◌, nat_lt}
use Rattle.std.specs.List.{list_any, list_all}
use Rattle.std.proofs.lemmas.Bool.Decides.{nat_tests}
use Rattle.flat_base.specs.declared.ids.ContentId.{ContentId}
use Rattle.flat_base.specs.declared.ids.PairNo.{PairNo}
use Rattle.flat_base.specs.declared.ids.SessionNo.{SessionNo}
use Rattle.flat_scene.specs.declared.calls.Call.{Call}
use Rattle.flat_scene.specs.declared.calls.Call.TheVariants.{CreateView, ReleaseView, CreateViewport, ReleaseViewport, Clear}
use Rattle.flat_scene.specs.declared.setup.Setup.{Setup}
use Rattle.flat_base.proofs.lemmas.Tests.{and-left, and-right}
use Rattle.flat_facts.specs.declared.live_viewport.LiveViewport.{LiveViewport}
use Rattle.flat_facts.specs.Clears.{is_cleared, clears_pair}
use Rattle.flat_rules.specs.Legal.{owns_view, owns_viewport, owns_in_call, is_link, all_but_last, number_if}
use Rattle.flat_facts.specs.Lives.{lives_then, lives_after, clears_live, count_of}
use Rattle.flat_rules.specs.Shown.{is_pair}
use Rattle.flat_facts.specs.Views.{view_then, view_after, ends_it, ends_of}
use Rattle.std.proofs.lemmas.Bool.{or_parts}
use Rattle.flat_facts.proofs.lemmas.Tests.{same-pair}

-- ---- what isn't owned

-- an owned pair is none that isn't owned
pub owned-differs : (owns : PairNo → Bool) (q p : PairNo) → owns q ≡ true → owns p ≡ false → (b : Bool) → (q.0 == p.0) ≡ b → b ≡ false
owned-differs owns q p owned foreign false is = refl
owned-differs owns q p owned foreign true is = let O : PairNo → Type 0 = λ r. owns r ≡ true in let wrong : true ≡ false =
    sym (subst O (same-pair q p is) owned) ∙ foreign in cc

any-append : {A : Type 0} (f : A → Bool) (xs ys : List A) → list_any f xs ≡ false → list_any f ys ≡ false → list_any f (xs ++ ys) ≡ false
any-append f [] ys none more = more
any-append f (x ∷ xs) ys none more = rw (or_parts (f x) (list_any f xs) none).0 (any-append f xs ys (or_parts (f x) (list_any f xs) none).1 more)

any-kept : {A : Type 0} (f keep : A → Bool) (xs : List A) → list_any f xs ≡ false → list_any f (filter keep xs) ≡ false
any-kept f keep [] none = refl
any-kept {A} f keep (x ∷ xs) none = by_keep (any-kept f keep xs (or_parts (f x) (list_any f xs) none).1) (or_parts (f x) (list_any f xs) none).0 (keep x)
  where
    by_keep : list_any f (filter keep xs) ≡ false → f x ≡ false → (b : Bool) → list_any f (cond b (x ∷ filter keep xs) (filter keep xs)) ≡ false
    by_keep rest this true = rw this rest
    by_keep rest this false = rest

module _ (setup : Setup) (s : SessionNo) (p : PairNo) where
  -- A view of a session that is none of the pair, and how often calls end that of the pair.
  pub record IsForeignView (view : Option PairNo) (calls : List Call) : Type 0 where
    pub ends : ends_of p view calls ≡ 0
    pub after : is_pair (view_after view calls) p ≡ false

  view-one : owns_view setup s p ≡ false → (view : Option PairNo) (call : Call) → is_pair view p ≡ false → owns_in_call setup s call ≡ true
      → (ends_it p view call ≡ false) × (is_pair (view_then view call) p ≡ false)
  view-one foreign view (CreateView q) other owned = (refl, owned-differs (owns_view setup s) q p owned foreign (q.0 == p.0) refl)
  view-one foreign view ReleaseView other owned = (other, refl)
  view-one foreign view Clear other owned = (other, refl)
  view-one foreign view _ other owned = (refl, other)

  pub foreign-view : owns_view setup s p ≡ false → (view : Option PairNo) (calls : List Call) → is_pair view p ≡ false
      → list_all (owns_in_call setup s) calls ≡ true → IsForeignView view calls
  foreign-view foreign view [] other owned = record { ends = refl; after = other }
  foreign-view foreign view (call ∷ calls) other owned =
      let one = view-one foreign view call other (and-left (owns_in_call setup s call) (list_all (owns_in_call setup s) calls) owned) in
      let rest = foreign-view foreign (view_then view call) calls one.1 (and-right (owns_in_call setup s call) (list_all (owns_in_call setup s) calls) owned) in
      record { ends = rw one.0 (omega (arith, rest.ends)); after = rest.after }

  abbrev is_it : LiveViewport → Bool
  is_it live = live.pair.0 == p.0

  -- Live viewports of a session none of which is of the pair, and how often calls clear one.
  pub record IsForeignLive (lives : List LiveViewport) (calls : List Call) : Type 0 where
    pub clears : count_of (clears_live p) lives calls ≡ 0
    pub after : list_any is_it (lives_after lives calls) ≡ false

  live-one : owns_viewport setup s p ≡ false → (lives : List LiveViewport) (call : Call) → list_any is_it lives ≡ false → owns_in_call setup s call ≡ true
      → (clears_live p lives call ≡ false) × (list_any is_it (lives_then lives call) ≡ false)
  live-one foreign lives (CreateViewport c q w h inset) none owned =
      let one : LiveViewport = record { name = c; pair = q } in
      let last : list_any is_it (one ∷ []) ≡ false = rw (owned-differs (owns_viewport setup s) q p owned foreign (q.0 == p.0) refl) refl in
      (refl, any-append is_it lives (one ∷ []) none last)
  live-one foreign lives (ReleaseViewport c) none owned = (refl, any-kept is_it (λ live. not (live.name.0 == c.0)) lives none)
  live-one foreign lives Clear none owned = (none, refl)
  live-one foreign lives _ none owned = (refl, none)

  pub foreign-live : owns_viewport setup s p ≡ false → (lives : List LiveViewport) (calls : List Call) → list_any is_it lives ≡ false
      → list_all (owns_in_call setup s) calls ≡ true → IsForeignLive lives calls
  foreign-live foreign lives [] none owned = record { clears = refl; after = none }
  foreign-live foreign lives (call ∷ calls) none owned =
      let one = live-one foreign lives call none (and-left (owns_in_call setup s call) (list_all (owns_in_call setup s) calls) owned) in
      let rest = foreign-live foreign (lives_then lives call) calls one.1
      (and-right (owns_in_call setup s call) (list_all (owns_in_call setup s) calls) owned) in
      record { clears = rw one.0 (omega (arith, rest.clears)); after = rest.after }

-- ---- what is cleared

-- calls none of which but the last is a link
abbrev pub AreTame : List Call → Type 0
AreTame calls = list_any is_link (all_but_last calls) ≡ false

all-more : (call next : Call) (calls : List Call) → all_but_last (call ∷ next ∷ calls) ≡ call ∷ all_but_last (next ∷ calls)
all-more call next calls = let some : (length (next ∷ calls) == 0) ≡ false = grind (arith, nat_tests) in rw some refl

tame-rest : (call : Call) (calls : List Call) → AreTame (call ∷ calls) → AreTame calls
tame-rest call [] tame = refl
tame-rest call (next ∷ calls) tame = (or_parts (is_link call) (list_any is_link (all_but_last (next ∷ calls)))
    (ap (list_any is_link) (sym (all-more call next calls)) ∙ tame)).1

tame-link : (call : Call) (calls : List Call) → AreTame (call ∷ calls) → is_link call ≡ true → calls ≡ []
tame-link call [] tame link = refl
tame-link call (next ∷ calls) tame link = let wrong : true ≡ false =
    sym link ∙ (or_parts (is_link call) (list_any is_link (all_but_last (next ∷ calls))) (ap (list_any is_link) (sym (all-more call next calls)) ∙ tame)).0 in
    cc

nothing-lives : (p : PairNo) (calls : List Call) → AreTame calls → count_of (clears_live p) [] calls ≡ 0
nothing-lives p [] tame = refl
nothing-lives p (CreateViewport c q w h inset ∷ calls) tame = rw (tame-link (CreateViewport c q w h inset) calls tame refl) refl
nothing-lives p (ReleaseViewport c ∷ calls) tame = omega (arith, nothing-lives p calls (tame-rest (ReleaseViewport c) calls tame))
nothing-lives p (Clear ∷ calls) tame = omega (arith, nothing-lives p calls (tame-rest Clear calls tame))
nothing-lives p (call ∷ calls) tame = omega (arith, nothing-lives p calls (tame-rest call calls tame))

clears-last : (p : PairNo) (lives : List LiveViewport) → clears_pair p lives [] ≡ false
clears-last p [] = refl
clears-last p (one ∷ lives) = let none = clears-last p lives in by_pair (one.pair.0 == p.0) none
  where
    by_pair : (b : Bool) → clears_pair p lives [] ≡ false → ((b && false) || clears_pair p lives []) ≡ false
    by_pair true none = none
    by_pair false none = none

clears-all : (p : PairNo) (lives : List LiveViewport) (calls : List Call) → clears_pair p lives (Clear ∷ calls) ≡ list_any (λ live. live.pair.0 == p.0) lives
clears-all p [] calls = refl
clears-all p (one ∷ lives) calls = by_pair (one.pair.0 == p.0) (clears-all p lives calls)
  where
    by_pair : (b : Bool) → clears_pair p lives (Clear ∷ calls) ≡ list_any (λ live. live.pair.0 == p.0) lives
        → ((b && true) || clears_pair p lives (Clear ∷ calls)) ≡ (b || list_any (λ live. live.pair.0 == p.0) lives)
    by_pair true rest = refl
    by_pair false rest = rest

clears-released : (p : PairNo) (c : ContentId) (lives : List LiveViewport) (calls : List Call)
    → clears_pair p lives (ReleaseViewport c ∷ calls) ≡ clears_pair p (filter (λ live. not (live.name.0 == c.0)) lives) calls
clears-released p c [] calls = refl
clears-released p c (one ∷ lives) calls = by_name (one.name.0 == c.0) (clears-released p c lives calls)
  where
    left : List LiveViewport
    left = filter (λ live. not (live.name.0 == c.0)) lives

    never : (i b : Bool) → ((i && false) || b) ≡ b
    never true b = refl
    never false b = refl

    by_name : (b : Bool) → clears_pair p lives (ReleaseViewport c ∷ calls) ≡ clears_pair p left calls
        → ((one.pair.0 == p.0 && cond b false (is_cleared one.name calls)) || clears_pair p lives (ReleaseViewport c ∷ calls))
        ≡ list_any (λ live. live.pair.0 == p.0 && is_cleared live.name calls) (cond (not b) (one ∷ left) left)
    by_name true rest = never (one.pair.0 == p.0) (clears_pair p lives (ReleaseViewport c ∷ calls)) ∙ rest
    by_name false rest = ap (λ (t : Bool). (one.pair.0 == p.0 && is_cleared one.name calls) || t) rest

some-of : (b : Bool) (n : ℕ) → n ≡ 0 → b ≡ nat_lt 0 (number_if b + n)
some-of true n none = rw none refl
some-of false n none = rw none refl

none-of : (b : Bool) (n : ℕ) → b ≡ nat_lt 0 n → b ≡ nat_lt 0 (0 + n)
none-of b n is = let same : n ≡ 0 + n = omega arith in is ∙ ap (nat_lt 0) same

-- they clear the viewport of a pair where one of them does so
pub clears-count : (p : PairNo) (lives : List LiveViewport) (calls : List Call) → AreTame calls
    → clears_pair p lives calls ≡ nat_lt 0 (count_of (clears_live p) lives calls)
clears-count p lives [] tame = clears-last p lives
clears-count p lives (CreateViewport c q w h inset ∷ calls) tame =
    let last : calls ≡ [] = tame-link (CreateViewport c q w h inset) calls tame refl in
    rw last (clears-last p lives)
clears-count p lives (ReleaseViewport c ∷ calls) tame =
    clears-released p c lives calls
    ∙ none-of _ (count_of (clears_live p) (filter (λ live. not (live.name.0 == c.0)) lives) calls)
    (clears-count p (filter (λ live. not (live.name.0 == c.0)) lives) calls (tame-rest (ReleaseViewport c) calls tame))
clears-count p lives (Clear ∷ calls) tame =
    clears-all p lives calls ∙ some-of (list_any (λ live. live.pair.0 == p.0) lives) (count_of (clears_live p) [] calls)
    (nothing-lives p calls (tame-rest Clear calls tame))
clears-count p lives (call ∷ calls) tame = none-of _ (count_of (clears_live p) lives calls) (clears-count p lives calls (tame-rest call calls tame))
