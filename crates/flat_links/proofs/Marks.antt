-- Marks on tokens, call by call.
use Rattle.std.proofs.Common.{◌≡◌, ◌∙◌, sym, ℕ, zero, suc, ◌+◌, ◌<◌, ◌≤◌, slice_index_or, drop-cons, Bool, true, false, List, [], ◌∷◌, ◌++◌, map, take, drop}
use Rattle.std.proofs.Common.{length, refl, arith, ap, Some, None, slice_set, add-one}
use Rattle.std.specs.Prelude.{nat_lt, Option}
use Rattle.std.proofs.lemmas.Bool.Decides.{nat_tests}
use Rattle.flat_base.specs.declared.ids.ContentId.{ContentId}
use Rattle.flat_scene.specs.declared.calls.Call.{Call}
use Rattle.flat_scene.specs.declared.calls.Call.TheVariants.{CreateViewport, ReleaseViewport, Clear}
use Rattle.flat_facts.specs.declared.live_viewport.LiveViewport.{LiveViewport}
use Rattle.flat_links.specs.declared.tokens.OutToken.{OutToken}
use Rattle.flat_rules.specs.Legal.{number_if}
use Rattle.flat_facts.specs.Lives.{is_new_viewport, lives_then, lives_after, pair_named, count_of, releases_live}
use Rattle.flat_rules.specs.Shown.{is_pair}
use Rattle.flat_rules.specs.Stamps.{stamp_then}
use Rattle.flat_links.specs.Viewports.{marked, marked_by}

abbrev with_stamp : OutToken → Option ℕ → OutToken
with_stamp out stamp = record out { released = stamp }

pub stamp-none : (stamp : Option ℕ) (k : ℕ) → stamp_then stamp false k ≡ stamp
stamp-none None k = refl
stamp-none (Some n) k = refl

-- where nothing is done all stay
pub unmarked : (k : ℕ) (outs : List OutToken) → map (λ (out : OutToken). let o : OutToken = record out { released = stamp_then out.released false k } in o) outs
    ≡ outs
unmarked k [] = refl
unmarked k (out ∷ outs) = rw (ap (with_stamp out) (stamp-none out.released k), unmarked k outs) refl

pub once : (b : Bool) → nat_lt 0 (number_if b + 0) ≡ b
once true = refl
once false = refl

-- a release marks the token of the pair that it names
pub marked-release : (lives : List LiveViewport) (c : ContentId) (k : ℕ) (outs : List OutToken)
    → map (marked_by (pair_named lives c.0) k) outs ≡ map (marked lives (ReleaseViewport c ∷ []) k) outs
marked-release lives c k [] = refl
marked-release lives c k (out ∷ outs) =
    let one : marked_by (pair_named lives c.0) k out ≡ marked lives (ReleaseViewport c ∷ []) k out =
    ap (λ b. with_stamp out (stamp_then out.released b k)) (sym (once (is_pair (pair_named lives c.0) out.pair))) in
    rw (one, marked-release lives c k outs) refl

pub stamp-more : (stamp : Option ℕ) (b : Bool) (n k : ℕ)
    → stamp_then (stamp_then stamp (nat_lt 0 (number_if b + 0)) k) (nat_lt 0 n) k ≡ stamp_then stamp (nat_lt 0 (number_if b + n)) k
stamp-more (Some m) b n k = refl
stamp-more None true n k = let some : nat_lt 0 (1 + n) ≡ true = grind (arith, nat_tests) in rw some refl
stamp-more None false n k = let same : 0 + n ≡ n = omega arith in rw same refl

-- one call, and then the others
pub marked-more : (lives : List LiveViewport) (call : Call) (calls : List Call) (k : ℕ) (outs : List OutToken)
    → map (marked (lives_then lives call) calls k) (map (marked lives (call ∷ []) k) outs) ≡ map (marked lives (call ∷ calls) k) outs
marked-more lives call calls k [] = refl
marked-more lives call calls k (out ∷ outs) =
    let one : marked (lives_then lives call) calls k (marked lives (call ∷ []) k out) ≡ marked lives (call ∷ calls) k out =
    ap (with_stamp out) (stamp-more out.released (releases_live out.pair lives call) (count_of (releases_live out.pair) (lives_then lives call) calls) k) in
    rw (one, marked-more lives call calls k outs) refl

pub marked-none : (lives : List LiveViewport) (k : ℕ) (outs : List OutToken) → map (marked lives [] k) outs ≡ outs
marked-none lives k outs = unmarked k outs

-- ---- loops

pub drop-is : {A : Type 0} (xs : List A) (i : ℕ) (d : A) → i < length xs → drop i xs ≡ slice_index_or xs i d ∷ drop (i + 1) xs
drop-is xs i d below = rw (add-one, drop-cons xs i d) refl

pub drop-end : {A : Type 0} (xs : List A) (i : ℕ) → length xs ≤ i → drop i xs ≡ []
drop-end [] zero past = refl
drop-end [] (suc i) past = refl
drop-end (x ∷ xs) zero past = absurd (omega (arith, past))
drop-end (x ∷ xs) (suc i) past = drop-end xs i (omega (arith, past))

at-place : {A : Type 0} (f : A → A) (xs : List A) (i : ℕ) (d : A) → i < length xs
    → slice_set (map f (take i xs) ++ drop i xs) i (f (slice_index_or (map f (take i xs) ++ drop i xs) i d)) ≡ map f (take (suc i) xs) ++ drop (suc i) xs
at-place f [] i d below = absurd (omega (arith, below))
at-place f (x ∷ xs) zero d below = refl
at-place f (x ∷ xs) (suc i) d below = ap (λ l. f x ∷ l) (at-place f xs i d (omega (arith, below)))

-- one of a list that is mapped in place
pub mapped-next : {A : Type 0} (f : A → A) (xs now : List A) (i : ℕ) (d y : A) → i < length xs → now ≡ map f (take i xs) ++ drop i xs
    → y ≡ f (slice_index_or now i d) → slice_set now i y ≡ map f (take (i + 1) xs) ++ drop (i + 1) xs
mapped-next {A = A} f xs now i d y below is new =
    let here : slice_set now i y ≡ map f (take (suc i) xs) ++ drop (suc i) xs =
    ap (slice_set now i) new ∙ ap (λ (l : List A). slice_set l i (f (slice_index_or l i d))) is ∙ at-place f xs i d below in
    rw add-one here

-- What is left of calls to note.
pub record Left (calls : List Call) (k : ℕ) (now : List LiveViewport) (tokens : List OutToken) (lives : List LiveViewport) (outs : List OutToken) : Type 0 where
  pub live : lives_after now calls ≡ lives
  pub out : map (marked now calls k) tokens ≡ outs

pub left-next : (call : Call) (calls rest : List Call) (k : ℕ) (live live' lives : List LiveViewport) (out out' outs : List OutToken) → calls ≡ call ∷ rest
    → live' ≡ lives_then live call → out' ≡ map (marked live (call ∷ []) k) out
    → lives_after live calls ≡ lives → map (marked live calls k) out ≡ outs → Left rest k live' out' lives outs
left-next call calls rest k live live' lives out out' outs is live_is out_is all marks = record {
  live = ap (λ l. lives_after l rest) live_is ∙ ap (lives_after live) (sym is) ∙ all;
  out = ap (map (marked live' rest k)) out_is ∙ ap (λ (l : List LiveViewport). map (marked l rest k) (map (marked live (call ∷ []) k) out)) live_is
      ∙ marked-more live call rest k out ∙ ap (λ (cs : List Call). map (marked live cs k) out) (sym is) ∙ marks;
}

-- a call that is neither a release of a viewport nor a Clear
pub plain-lives : (lives : List LiveViewport) (call : Call) → is_new_viewport call ≡ false → ((c : ContentId) → call ≡ ReleaseViewport c → ⊥)
    → (call ≡ Clear → ⊥)
    → lives ≡ lives_then lives call
plain-lives lives (CreateViewport c p w h inset) none no_release no_clear = cc
plain-lives lives (ReleaseViewport c) none no_release no_clear = absurd (no_release c refl)
plain-lives lives Clear none no_release no_clear = absurd (no_clear refl)
plain-lives lives _ none no_release no_clear = refl

pub plain-marks : (lives : List LiveViewport) (call : Call) (k : ℕ) (outs : List OutToken) → ((c : ContentId) → call ≡ ReleaseViewport c → ⊥)
    → outs ≡ map (marked lives (call ∷ []) k) outs
plain-marks lives (ReleaseViewport c) k outs no_release = absurd (no_release c refl)
plain-marks lives _ k outs no_release = sym (unmarked k outs)
