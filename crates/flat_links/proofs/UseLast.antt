-- A use of a viewport end, by the last of the calls that its entry carries.
use Rattle.std.proofs.Common.{◌≡◌, ◌∙◌, sym, ℕ, zero, suc, ◌+◌, ◌-◌, ◌≤◌, true, false, List, [], ◌∷◌, ◌++◌, length, refl, arith, ap, map, take, Some, None}
use Rattle.std.proofs.Common.{length-append, slice_index_or}
use Rattle.std.specs.Prelude.{Option, option_map, unwrap_or, slice_get, not, ◌==◌}
use Rattle.std.specs.List.{list_any}
use Rattle.std.proofs.Math.Seq.{take-append_seam}
use Rattle.std.proofs.lemmas.List.Sums.{count_by-le-length, length-filter}
use Rattle.flat_base.specs.declared.ids.ContentId.{ContentId}
use Rattle.flat_base.specs.declared.ids.PairNo.{PairNo}
use Rattle.flat_scene.specs.declared.calls.Call.{Call}
use Rattle.flat_scene.specs.declared.calls.Call.TheVariants.{CreateViewport, ReleaseViewport, Clear}
use Rattle.flat_scene.specs.declared.calls.Inset.{Inset}
use Rattle.flat_facts.specs.declared.live_viewport.LiveViewport.{LiveViewport}
use Rattle.flat_links.specs.declared.tokens.OutToken.{OutToken}
use Rattle.flat_rules.specs.Legal.{all_but_last}
use Rattle.flat_facts.specs.Lives.{lives_after, lives_then, count_of, makes_one, releases_live, uses_last, is_new_viewport}
use Rattle.flat_links.specs.Viewports.{marked}
use Rattle.flat_facts.proofs.lemmas.LiveCounts.{count-append, lives-append}
use Rattle.flat_facts.proofs.lemmas.ViewCalls.{split-last}
use Rattle.flat_facts.proofs.lemmas.Tests.{same-pair}
use Rattle.std.proofs.lemmas.Bool.{or_parts}

-- the calls before the last
pub but-last : (xs : List Call) (x : Call) → slice_get xs (length xs - 1) ≡ Some x → take (length xs - 1) xs ≡ all_but_last xs
but-last xs x at =
    let split : xs ≡ all_but_last xs ++ x ∷ [] = split-last xs x at in
    let grows : length xs ≡ length (all_but_last xs) + 1 = ap (length {A = Call}) split ∙ length-append (all_but_last xs) (x ∷ []) in
    let long : length xs - 1 ≡ length (all_but_last xs) = omega (arith, grows) in
    ap (λ (n : ℕ). take n xs) long ∙ ap (take (length (all_but_last xs))) split ∙ take-append_seam (all_but_last xs) (x ∷ [])

pub at-get : {A : Type 0} (xs : List A) (n : ℕ) (x d : A) → slice_get xs n ≡ Some x → slice_index_or xs n d ≡ x
at-get [] n x d at = cc
at-get (y ∷ xs) zero x d at = cc
at-get (y ∷ xs) (suc n) x d at = at-get xs n x d at

-- there is a last one
pub last-some : (p : PairNo) (xs : List Call) (last : Option Call) → slice_get xs (length xs - 1) ≡ last
    → unwrap_or (option_map (makes_one p) last) false ≡ true → (call : Call) × (slice_get xs (length xs - 1) ≡ Some call) × (makes_one p call ≡ true)
last-some p xs None at is = absurd (cc)
last-some p xs (Some call) at is = (call, at, is)

-- it makes a viewport
pub is-made : (p : PairNo) (call : Call) → makes_one p call ≡ true
    → ((name : ContentId) (q : PairNo) (w h : ℕ) (inset : Inset) → call ≡ CreateViewport name q w h inset → ⊥) → ⊥
is-made p (CreateViewport name q w h inset) is never = never name q w h inset refl
is-made p call is never = cc

-- without a new one no more viewports live
fewer-one : (lives : List LiveViewport) (call : Call) → is_new_viewport call ≡ false → length (lives_then lives call) ≤ length lives
fewer-one lives (CreateViewport name q w h inset) none = cc
fewer-one lives (ReleaseViewport name) none = omega (
  arith,
  length-filter (λ (live : LiveViewport). not (live.name.0 == name.0)) lives,
  count_by-le-length (λ (live : LiveViewport). not (live.name.0 == name.0)) lives,
)
fewer-one lives Clear none = omega arith
fewer-one lives call none = omega arith

pub lives-fewer : (lives : List LiveViewport) (xs : List Call) → list_any is_new_viewport xs ≡ false → length (lives_after lives xs) ≤ length lives
lives-fewer lives [] none = omega arith
lives-fewer lives (x ∷ xs) none =
    let two = or_parts (is_new_viewport x) (list_any is_new_viewport xs) none in
    omega (arith, fewer-one lives x two.0, lives-fewer (lives_then lives x) xs two.1)

-- It makes a viewport of the pair.
pub record IsUseCall (p : PairNo) (xs : List Call) (name : ContentId) (w h : ℕ) (inset : Inset) : Type 0 where
  pub at : slice_get xs (length xs - 1) ≡ Some (CreateViewport name p w h inset)

pub use-of : (p : PairNo) (xs : List Call) (name : ContentId) (q : PairNo) (w h : ℕ) (inset : Inset) → uses_last p xs ≡ true
    → slice_get xs (length xs - 1) ≡ Some (CreateViewport name q w h inset) → IsUseCall p xs name w h inset
use-of p xs name q w h inset is at =
    let made : makes_one p (CreateViewport name q w h inset) ≡ true = ap (λ (o : Option Call). unwrap_or (option_map (makes_one p) o) false) (sym at) ∙ is in
    record { at = at ∙ ap (λ (r : PairNo). Some (CreateViewport name r w h inset)) (same-pair q p made) }

module _ (p : PairNo) (xs : List Call) (name : ContentId) (w h : ℕ) (inset : Inset) (one : IsUseCall p xs name w h inset) (lives : List LiveViewport) where
  split : xs ≡ all_but_last xs ++ CreateViewport name p w h inset ∷ []
  split = split-last xs (CreateViewport name p w h inset) one.at

  -- the viewport that it makes lives
  pub lives-used : lives_after lives xs ≡ lives_after lives (all_but_last xs) ++ (let live : LiveViewport = record { name = name; pair = p } in live) ∷ []
  lives-used = ap (lives_after lives) split ∙ lives-append lives (all_but_last xs) (CreateViewport name p w h inset ∷ [])

  -- it marks no token
  counts-used : (q : PairNo) → count_of (releases_live q) lives xs ≡ count_of (releases_live q) lives (all_but_last xs)
  counts-used q =
      let all = ap (count_of (releases_live q) lives) split ∙ count-append (releases_live q) lives (all_but_last xs) (CreateViewport name p w h inset ∷ []) in
      omega (arith, all)

  pub marks-used : (n : ℕ) (outs : List OutToken) → map (marked lives xs n) outs ≡ map (marked lives (all_but_last xs) n) outs
  marks-used n [] = refl
  marks-used n (out ∷ outs) = rw (counts-used out.pair, marks-used n outs) refl
