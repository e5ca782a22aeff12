-- How calls release and clear viewports, told by the live ones alone.
use Rattle.std.proofs.Common.{◌≡◌, ◌∙◌, sym, subst, ℕ, ◌+◌, ◌≤◌, Bool, true, false, List, [], ◌∷◌, ◌++◌, refl, arith, ap, Some, None, Ok, Err}
use Rattle.std.specs.Prelude.{cond, not, ◌||◌, ◌==◌, nat_lt, filter, Option, option_map, option_and_then, unwrap_or}
use Rattle.std.specs.List.{list_any}
use Rattle.std.proofs.lemmas.Bool.Decides.{nat_tests}
use Rattle.flat_base.specs.declared.errors.Reason.{Reason}
use Rattle.flat_base.specs.declared.ids.PairNo.{PairNo}
use Rattle.flat_scene.specs.declared.calls.Call.{Call}
use Rattle.flat_scene.specs.declared.calls.Call.TheVariants.{CreateViewport, ReleaseViewport, Clear}
use Rattle.flat_scene.specs.declared.setup.Setup.{Setup}
use Rattle.flat_scene.specs.Draft.{Draft, Made, an_image, a_fill, a_viewport, Name, of_serial, content_of, empty_draft}
use Rattle.flat_scene.specs.Effect.{effect, after_calls, unless, draft_of}
use Rattle.flat_scene.specs.Misuse.{misuse}
use Rattle.flat_facts.specs.declared.live_viewport.LiveViewport.{LiveViewport}
use Rattle.flat_rules.specs.Ends.{times, count_if, is_made_of, is_viewport_of, releases_viewport, clears_viewport}
use Rattle.flat_rules.specs.Legal.{number_if}
use Rattle.flat_facts.specs.Lives.{lives_then, lives_after, pair_named, held_of, releases_live, clears_live, count_of, makes_one, made_of_pair}
use Rattle.flat_rules.specs.Shown.{is_pair}
use Rattle.flat_facts.proofs.lemmas.Lives.{pair_made, pair_at, live_at, serial_at, lives_by, serials_by, lives_of, IsTidy, tidy-empty, pair-named}
use Rattle.flat_facts.proofs.LiveSteps.{Follows, follows}
use Rattle.flat_facts.proofs.lemmas.ViewCalls.{after-refused, good-one}

-- ---- one call

made-of : (p : PairNo) (m : Option Made) → unwrap_or (option_map (is_made_of p) m) false ≡ is_pair (option_and_then pair_made m) p
made-of p None = refl
made-of p (Some (an_image i)) = refl
made-of p (Some (a_fill x)) = refl
made-of p (Some (a_viewport q props)) = refl

named-of : (p : PairNo) (d : Draft) (o : Option ℕ) → unwrap_or (option_map (is_viewport_of p d) o) false ≡ is_pair (option_and_then (pair_at d.contents) o) p
named-of p d None = refl
named-of p d (Some k) = made-of p (of_serial d.contents k)

releases-one : (p : PairNo) (d : Draft) (call : Call) → IsTidy d → releases_viewport p d call ≡ releases_live p (lives_of d) call
releases-one p d (ReleaseViewport c) tidy =
    named-of p d (content_of d c) ∙ ap (λ (o : Option PairNo). is_pair o p) (sym (pair-named (pair_at d.contents) c.0 d.content_names tidy.apart))
releases-one p d _ tidy = refl

any-lives : (p : PairNo) (d : Draft) (names : List Name)
    → list_any (is_viewport_of p d) (serials_by (pair_at d.contents) names)
    ≡ list_any (λ (live : LiveViewport). live.pair.0 == p.0) (lives_by (pair_at d.contents) names)
any-lives p d [] = refl
any-lives p d (x ∷ xs) = by_pair (any-lives p d xs) (pair_at d.contents x.serial) refl
  where
    by_pair : list_any (is_viewport_of p d) (serials_by (pair_at d.contents) xs)
        ≡ list_any (λ (live : LiveViewport). live.pair.0 == p.0) (lives_by (pair_at d.contents) xs)
        → (o : Option PairNo) → pair_at d.contents x.serial ≡ o
        → list_any (is_viewport_of p d) (serial_at x o ++ serials_by (pair_at d.contents) xs)
        ≡ list_any (λ (live : LiveViewport). live.pair.0 == p.0) (live_at x o ++ lives_by (pair_at d.contents) xs)
    by_pair rest None is = rest
    by_pair rest (Some q) is =
        let here : is_viewport_of p d x.serial ≡ (q.0 == p.0) = made-of p (of_serial d.contents x.serial) ∙ ap (λ (o : Option PairNo). is_pair o p) is in
        rw (here, rest) refl

clears-one : (p : PairNo) (d : Draft) (call : Call) → IsTidy d → clears_viewport p d call ≡ clears_live p (lives_of d) call
clears-one p d Clear tidy = ap (list_any (is_viewport_of p d)) tidy.viewports ∙ any-lives p d d.content_names
clears-one p d _ tidy = refl

-- ---- several calls

pub count-is : (b : Bool) → count_if (Some b) ≡ number_if b
count-is true = refl
count-is false = refl

-- What calls without a misuse do to the live viewports.
pub record Lived (setup : Setup) (d : Draft) (calls : List Call) (d' : Draft) : Type 0 where
  pub tidy : IsTidy d'
  pub lives : lives_of d' ≡ lives_after (lives_of d) calls
  pub releases : (p : PairNo) → times setup (releases_viewport p) (Ok d) calls ≡ count_of (releases_live p) (lives_of d) calls
  pub clears : (p : PairNo) → times setup (clears_viewport p) (Ok d) calls ≡ count_of (clears_live p) (lives_of d) calls

lived-more : (setup : Setup) (d : Draft) (call : Call) (calls : List Call) (d' : Draft) → IsTidy d → (reason : Option Reason) → misuse setup d call ≡ reason
    → (Follows d call → Lived setup (effect d call) calls d')
    → after_calls setup (unless reason (effect d call)) calls ≡ Ok d' → Lived setup d (call ∷ calls) d'
lived-more setup d call calls d' tidy (Some reason) is rest good = let wrong : Err reason ≡ Ok d' = sym (after-refused setup reason calls) ∙ good in cc
lived-more setup d call calls d' tidy None is rest good =
    let here = follows setup d call tidy is in
    let later = rest here in
    record {
      tidy = later.tidy;
      lives = later.lives ∙ ap (λ (l : List LiveViewport). lives_after l calls) here.lives;
      releases = λ p.
          rw is (ap (λ (n : ℕ). n + times setup (releases_viewport p) (Ok (effect d call)) calls)
          (count-is (releases_viewport p d call) ∙ ap number_if (releases-one p d call tidy))
          ∙ ap (λ (n : ℕ). number_if (releases_live p (lives_of d) call) + n)
          (later.releases p ∙ ap (λ (l : List LiveViewport). count_of (releases_live p) l calls) here.lives));
      clears = λ p.
          rw is (ap (λ (n : ℕ). n + times setup (clears_viewport p) (Ok (effect d call)) calls)
          (count-is (clears_viewport p d call) ∙ ap number_if (clears-one p d call tidy))
          ∙ ap (λ (n : ℕ). number_if (clears_live p (lives_of d) call) + n)
          (later.clears p ∙ ap (λ (l : List LiveViewport). count_of (clears_live p) l calls) here.lives));
    }

pub lived : (setup : Setup) (d : Draft) (calls : List Call) (d' : Draft) → IsTidy d → after_calls setup (Ok d) calls ≡ Ok d' → Lived setup d calls d'
lived setup d [] d' tidy good =
    let same : d ≡ d' = cc in
    record { tidy = subst IsTidy same tidy; lives = ap lives_of (sym same); releases = λ p. refl; clears = λ p. refl }
lived setup d (call ∷ calls) d' tidy good =
    lived-more setup d call calls d' tidy (misuse setup d call) refl
    (λ here. lived setup (effect d call) calls d' here.tidy (good-one setup (effect d call) d' calls (misuse setup d call) good)) good

-- from no call on
pub lived-all : (setup : Setup) (calls : List Call) (d : Draft) → draft_of setup calls ≡ Ok d → Lived setup empty_draft calls d
lived-all setup calls d good = lived setup empty_draft calls d tidy-empty good

-- ---- how many are held

pub held-append : (p : PairNo) (xs ys : List LiveViewport) → held_of p (xs ++ ys) ≡ held_of p xs + held_of p ys
held-append p [] ys = omega arith
held-append p (x ∷ xs) ys = omega (arith, held-append p xs ys)

held-fewer : (p : PairNo) (q : LiveViewport → Bool) (xs : List LiveViewport) → held_of p (filter q xs) ≤ held_of p xs
held-fewer p q [] = omega arith
held-fewer p q (x ∷ xs) = by_test (held-fewer p q xs) (q x)
  where
    by_test : held_of p (filter q xs) ≤ held_of p xs → (b : Bool) → held_of p (cond b (x ∷ filter q xs) (filter q xs)) ≤ held_of p (x ∷ xs)
    by_test rest true = omega (arith, rest)
    by_test rest false = omega (arith, rest)

held-released : (p : PairNo) (id : ℕ) (xs : List LiveViewport) → is_pair (pair_named xs id) p ≡ true
    → 1 + held_of p (filter (λ (live : LiveViewport). not (live.name.0 == id)) xs) ≤ held_of p xs
held-released p id [] is = cc
held-released p id (x ∷ xs) is = by_name (λ h. held-released p id xs h) (held-fewer p (λ (live : LiveViewport). not (live.name.0 == id)) xs) (x.name.0 == id) is
  where
    others : List LiveViewport
    others = filter (λ (live : LiveViewport). not (live.name.0 == id)) xs

    by_name : (is_pair (pair_named xs id) p ≡ true → 1 + held_of p others ≤ held_of p xs) → held_of p others ≤ held_of p xs → (b : Bool)
        → is_pair (cond b (Some x.pair) (pair_named xs id)) p ≡ true
        → 1 + held_of p (cond (not b) (x ∷ others) others) ≤ held_of p (x ∷ xs)
    by_name rest fewer true here = rw here (omega (arith, fewer))
    by_name rest fewer false later = omega (arith, rest later)

released-by : (p : PairNo) (id : ℕ) (xs : List LiveViewport) (b : Bool) → is_pair (pair_named xs id) p ≡ b
    → number_if b + held_of p (filter (λ (live : LiveViewport). not (live.name.0 == id)) xs) ≤ held_of p xs
released-by p id xs true is = held-released p id xs is
released-by p id xs false is = omega (arith, held-fewer p (λ (live : LiveViewport). not (live.name.0 == id)) xs)

-- a call releases no more than it finds or makes
balance-one : (p : PairNo) (lives : List LiveViewport) (call : Call)
    → number_if (releases_live p lives call) + held_of p (lives_then lives call) ≤ held_of p lives + number_if (makes_one p call)
balance-one p lives (CreateViewport c q w h inset) = omega (arith, held-append p lives ((let live : LiveViewport = record { name = c; pair = q } in live) ∷ []))
balance-one p lives (ReleaseViewport c) = omega (arith, released-by p c.0 lives (is_pair (pair_named lives c.0) p) refl)
balance-one p lives Clear = omega arith
balance-one p lives _ = omega arith

pub balance : (p : PairNo) (lives : List LiveViewport) (calls : List Call)
    → count_of (releases_live p) lives calls + held_of p (lives_after lives calls) ≤ held_of p lives + made_of_pair p calls
balance p lives [] = omega arith
balance p lives (call ∷ calls) = omega (arith, balance-one p lives call, balance p (lives_then lives call) calls)

-- whether one is held
pub any-held : (p : PairNo) (lives : List LiveViewport) → list_any (λ (live : LiveViewport). live.pair.0 == p.0) lives ≡ nat_lt 0 (held_of p lives)
any-held p [] = refl
any-held p (x ∷ xs) = by_pair (any-held p xs) (x.pair.0 == p.0)
  where
    by_pair : list_any (λ (live : LiveViewport). live.pair.0 == p.0) xs ≡ nat_lt 0 (held_of p xs) → (b : Bool)
        → (b || list_any (λ (live : LiveViewport). live.pair.0 == p.0) xs) ≡ nat_lt 0 (number_if b + held_of p xs)
    by_pair rest true = grind (arith, nat_tests)
    by_pair rest false = rest ∙ ap (λ (n : ℕ). nat_lt 0 n) (omega arith)

pub made-append : (p : PairNo) (xs ys : List Call) → made_of_pair p (xs ++ ys) ≡ made_of_pair p xs + made_of_pair p ys
made-append p [] ys = omega arith
made-append p (x ∷ xs) ys = omega (arith, made-append p xs ys)

pub lives-append : (lives : List LiveViewport) (xs ys : List Call) → lives_after lives (xs ++ ys) ≡ lives_after (lives_after lives xs) ys
lives-append lives [] ys = refl
lives-append lives (x ∷ xs) ys = lives-append (lives_then lives x) xs ys

pub count-append : (test : List LiveViewport → Call → Bool) (lives : List LiveViewport) (xs ys : List Call)
    → count_of test lives (xs ++ ys) ≡ count_of test lives xs + count_of test (lives_after lives xs) ys
count-append test lives [] ys = omega arith
count-append test lives (x ∷ xs) ys = omega (arith, count-append test (lives_then lives x) xs ys)
