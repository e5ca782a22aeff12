-- What a builder keeps when a session is declared.
use Rattle.std.proofs.Common.{◌≡◌, ℕ, ◌+◌, ◌<◌, ◌≤◌, true, ◌&&◌, List, [], ◌∷◌, ◌++◌, length, map, get_or, refl, ap, ◌∙◌, arith}
use Rattle.std.specs.Prelude.{sum, sum_by, nat_le, nat_lt}
use Rattle.std.proofs.lemmas.List.{map-append}
use Rattle.std.proofs.lemmas.List.Sums.{sum_by-append, sum-map, get_or-le-sum_by}
use Rattle.std.specs.List.{list_all}
use Rattle.std.proofs.lemmas.Bool.Decides.{nat_tests}
use Rattle.flat_base.proofs.lemmas.Tests.{and-left, and-right, and-true, all-also}
use Rattle.flat_base.specs.declared.ids.Actor.{Actor}
use Rattle.flat_base.specs.declared.ids.Actor.TheVariants.{Display, Session, Probe}
use Rattle.flat_base.specs.declared.ids.SessionNo.{SessionNo}
use Rattle.flat_base.specs.declared.limits.TheConstants.{SIDE_MAX, BUFFERS_PER_COLLECTION_MAX}
use Rattle.flat_scene.specs.declared.setup.BufferDecl.{BufferDecl}
use Rattle.flat_scene.specs.declared.setup.FenceDecl.{FenceDecl}
use Rattle.flat_scene.specs.declared.setup.PairDecl.{PairDecl}
use Rattle.flat_scene.specs.declared.setup.Setup.{Setup}
use Rattle.flat_scene.specs.Setups.{is_declared, is_within}
use Rattle.flat_scene.specs.Heads.{may_own, is_pair_declared, is_buffer_declared, is_fence_declared, owners_declared}

-- a sum with one more at its end, or at its head
sum_end : (xs : List ℕ) (x : ℕ) → sum (xs ++ x ∷ []) ≡ sum xs + x
sum_end xs x = let all : sum (xs ++ x ∷ []) ≡ sum xs + sum (x ∷ []) = sum_by-append (λ (n : ℕ). n) xs (x ∷ []) in let one : 0 + x ≡ x = omega arith in all
    ∙ ap (λ k. sum xs + k) one

pub sum_first : (x : ℕ) (xs : List ℕ) → sum (x ∷ xs) ≡ x + sum xs
sum_first x xs = let all : sum ((x ∷ []) ++ xs) ≡ sum (x ∷ []) + sum xs = sum_by-append (λ (n : ℕ). n) (x ∷ []) xs in let one : 0 + x ≡ x = omega arith in all
    ∙ ap (λ k. k + sum xs) one

-- a sum of shares with one more
pub shares-more : (first : ℕ) (f : ℕ → ℕ) (xs : List ℕ) (n : ℕ) → sum (first ∷ map f (xs ++ n ∷ [])) ≡ sum (first ∷ map f xs) + f n
shares-more first f xs n = ap (λ ys. sum (first ∷ ys)) (map-append f xs (n ∷ [])) ∙ sum_end (first ∷ map f xs) (f n)

-- each share is at most the sum
pub share-below : (f : ℕ → ℕ) (xs : List ℕ) (k : ℕ) → k < length xs → f (get_or xs k 0) ≤ sum (map f xs)
share-below f xs k within =
    let all : sum (map f xs) ≡ sum_by f xs = sum-map f xs in
    let one : f (get_or xs k 0) ≤ sum_by f xs = get_or-le-sum_by f xs k 0 within in
    omega (arith, all, one)

-- the setup with one session more
abbrev pub more : Setup → Setup
more setup = record setup { sessions = setup.sessions + 1 }

declared-more : (setup : Setup) (s : SessionNo) → is_declared setup s ≡ true → is_declared (more setup) s ≡ true
declared-more setup s declared =
    let low : nat_lt 0 s.0 ≡ true = and-left (nat_lt 0 s.0) (nat_le s.0 setup.sessions) declared in
    let high : nat_le s.0 setup.sessions ≡ true = and-right (nat_lt 0 s.0) (nat_le s.0 setup.sessions) declared in
    let higher : nat_le s.0 (setup.sessions + 1) ≡ true = grind (arith, nat_tests) in
    and-true low higher

own-more : (setup : Setup) (actor : Actor) → may_own setup actor ≡ true → may_own (more setup) actor ≡ true
own-more setup Display owns = refl
own-more setup (Session s) owns = declared-more setup s owns
own-more setup (Probe p) owns = owns

pair-more : (setup : Setup) (pair : PairDecl) → is_pair_declared setup pair ≡ true → is_pair_declared (more setup) pair ≡ true
pair-more setup pair declared =
    and-true
    (own-more setup pair.viewport (and-left (may_own setup pair.viewport) (is_declared setup pair.view) declared))
    (declared-more setup pair.view (and-right (may_own setup pair.viewport) (is_declared setup pair.view) declared))

module _ (setup : Setup) (buffers : BufferDecl) where
  buffers-more : is_buffer_declared setup buffers ≡ true → is_buffer_declared (more setup) buffers ≡ true
  buffers-more declared =
      let owner = is_declared setup buffers.owner in
      let count = is_within BUFFERS_PER_COLLECTION_MAX buffers.count in
      let wide = is_within SIDE_MAX buffers.w in
      let high = is_within SIDE_MAX buffers.h in
      let first = and-left (owner && count && wide) high declared in
      let second = and-left (owner && count) wide first in
      and-true (and-true (and-true (declared-more setup buffers.owner (and-left owner count second)) (and-right owner count second))
      (and-right (owner && count) wide first)) (and-right (owner && count && wide) high declared)

fence-more : (setup : Setup) (fence : FenceDecl) → is_fence_declared setup fence ≡ true → is_fence_declared (more setup) fence ≡ true
fence-more setup fence declared =
    let some = nat_lt 0 (length fence.owners) in
    let own = list_all (may_own setup) fence.owners in
    and-true (and-left some own declared) (all-also (may_own setup) (may_own (more setup)) (own-more setup) fence.owners (and-right some own declared))

-- what was declared stays declared where one session more is
pub owners-more : (setup : Setup) → owners_declared setup ≡ true → owners_declared (more setup) ≡ true
owners-more setup declared =
    let pairs = list_all (is_pair_declared setup) setup.pairs in
    let buffers = list_all (is_buffer_declared setup) setup.buffers in
    let fences = list_all (is_fence_declared setup) setup.fences in
    let first = and-left (pairs && buffers) fences declared in
    and-true
    (and-true
    (all-also (is_pair_declared setup) (is_pair_declared (more setup)) (pair-more setup) setup.pairs (and-left pairs buffers first))
    (all-also (is_buffer_declared setup) (is_buffer_declared (more setup)) (buffers-more setup) setup.buffers (and-right pairs buffers first)))
    (all-also (is_fence_declared setup) (is_fence_declared (more setup)) (fence-more setup) setup.fences (and-right (pairs && buffers) fences declared))
