-- The shares of a script's actors, with one line after another.
use Rattle.std.proofs.Common.{◌≡◌, ℕ, zero, suc, ◌+◌, ◌≤◌, Bool, true, false, cond, ◌==◌, List, [], ◌∷◌, ◌++◌, length, map, slice_index, refl, sym, ap, ◌∙◌}
use Rattle.std.proofs.Common.{subst, arith}
use Rattle.std.proofs.lemmas.Bool.Decides.{nat_tests}
use Rattle.std.proofs.lemmas.Grind.{common_steps}
use Rattle.std.proofs.lemmas.List.{map-append}
use Rattle.flat_base.specs.declared.ids.SessionNo.{SessionNo}
use Rattle.flat_scene.specs.declared.script.ScriptLine.{ScriptLine}
use Rattle.flat_scene.specs.Frames.{sessions_to}
use Rattle.flat_scene.specs.Journals.{seat_number}
use Rattle.flat_rules.proofs.lemmas.ShownList.{length-listed}
use Rattle.flat_play.specs.Playing.{lines_by, with_one_more}
use Rattle.flat_play.proofs.lemmas.Starting.{by_at_most, sessions_more}

-- ---- one more at a place

-- both one more are equal where the numbers are
both-more : (m n : ℕ) → (suc m == suc n) ≡ (m == n)
both-more m n = by (m == n) refl
  where
    by : (b : Bool) → (m == n) ≡ b → (suc m == suc n) ≡ b
    by true is = let same : m ≡ n = grind (arith, nat_tests) in grind (arith, nat_tests)
    by false is = by_other (suc m == suc n) refl
      where
        by_other : (c : Bool) → (suc m == suc n) ≡ c → c ≡ false
        by_other true same = absurd (let equal : m ≡ n = grind (arith, nat_tests) in let wrong : (m == n) ≡ true = grind (arith, nat_tests) in
            let both : true ≡ false = sym wrong ∙ is in cc)
        by_other false same = refl

-- of a list that has one item more
one-more-behind : (place : ℕ) (shares : List ℕ) (last : ℕ)
    → with_one_more place (shares ++ last ∷ []) ≡ with_one_more place shares ++ (last + cond (place == length shares) 1 0) ∷ []
one-more-behind zero [] last = refl
one-more-behind (suc place) [] last = let other : (suc place == 0) ≡ false = grind (arith, nat_tests) in let same : last ≡ last + cond (suc place == 0) 1 0 =
    rw other (omega arith) in ap (λ n. n ∷ []) same
one-more-behind zero (share ∷ shares) last =
    let other : (0 == suc (length shares)) ≡ false = grind (arith, nat_tests) in
    let same : last ≡ last + cond (0 == suc (length shares)) 1 0 = rw other (omega arith) in
    ap (λ n. (share + 1) ∷ (shares ++ n ∷ [])) same
one-more-behind (suc place) (share ∷ shares) last =
    ap (λ rest. share ∷ rest) (one-more-behind place shares last)
    ∙ ap (λ b. share ∷ (with_one_more place shares ++ (last + cond b 1 0) ∷ [])) (sym (both-more place (length shares)))

-- ---- the shares of the display and of the first sessions

abbrev pub shares_to : List ScriptLine → ℕ → List ℕ
shares_to lines n = lines_by 0 lines ∷ map (λ s. lines_by s.0 lines + 1) (sessions_to n)

pub shares_more : (lines : List ScriptLine) (n : ℕ) → shares_to lines n ++ (lines_by (n + 1) lines + 1) ∷ [] ≡ shares_to lines (n + 1)
shares_more lines n =
    let f : SessionNo → ℕ = λ s. lines_by s.0 lines + 1 in
    let s : SessionNo = record { 0 = n + 1 } in
    ap (λ t. lines_by 0 lines ∷ t) (sym (ap (map f) (sessions_more n) ∙ map-append f (sessions_to n) (s ∷ [])))

shares_long : (lines : List ScriptLine) (n : ℕ) → length (shares_to lines n) ≡ n + 1
shares_long lines n = let rest = length-listed (λ s. lines_by s.0 lines + 1) n in omega (arith, rest)

by_more : (seat : ℕ) (lines : List ScriptLine) (x : ScriptLine) → lines_by seat (lines ++ x ∷ []) ≡ lines_by seat lines + cond (seat_number x.actor == seat) 1 0
by_more seat lines x = grind (arith, common_steps)

first-more : (place : ℕ) (share : ℕ) → with_one_more place (share ∷ []) ≡ (share + cond (place == 0) 1 0) ∷ []
first-more place share = one-more-behind place [] share

-- one line more
pub line-counted : (lines : List ScriptLine) (x : ScriptLine) (n : ℕ) → with_one_more (seat_number x.actor) (shares_to lines n) ≡ shares_to (lines ++ x ∷ []) n
line-counted lines x zero = first-more (seat_number x.actor) (lines_by 0 lines) ∙ ap (λ k. k ∷ []) (sym (by_more 0 lines x))
line-counted lines x (suc n) =
    let seat : ℕ = seat_number x.actor in
    let long : length (shares_to lines n) ≡ suc n = let long = shares_long lines n in omega (arith, long) in
    let next : suc n ≡ n + 1 = omega arith in
    let by : lines_by (n + 1) (lines ++ x ∷ []) ≡ lines_by (n + 1) lines + cond (seat == (n + 1)) 1 0 = by_more (n + 1) lines x in
    let last : lines_by (n + 1) lines + 1 + cond (seat == length (shares_to lines n)) 1 0 ≡ lines_by (n + 1) (lines ++ x ∷ []) + 1 =
    ap (λ k. lines_by (n + 1) lines + 1 + cond (seat == k) 1 0) (long ∙ next) ∙ (omega (arith, by)) in
    ap (λ k. with_one_more seat (shares_to lines k)) next
    ∙ ap (with_one_more seat) (sym (shares_more lines n))
    ∙ one-more-behind seat (shares_to lines n) (lines_by (n + 1) lines + 1)
    ∙ (λ i. line-counted lines x n i ++ last i ∷ [])
    ∙ shares_more (lines ++ x ∷ []) n
    ∙ ap (shares_to (lines ++ x ∷ [])) (sym next)

-- none is more than the lines and an End
few-behind : (place bound : ℕ) (shares : List ℕ) (last : ℕ) → slice_index shares place ≤ bound → last ≤ bound → slice_index (shares ++ last ∷ []) place ≤ bound
few-behind zero bound [] last few one = one
few-behind (suc place) bound [] last few one = omega arith
few-behind zero bound (share ∷ shares) last few one = few
few-behind (suc place) bound (share ∷ shares) last few one = few-behind place bound shares last few one

pub shares_few : (lines : List ScriptLine) (n place : ℕ) → slice_index (shares_to lines n) place ≤ length lines + 1
shares_few lines zero zero = let by = by_at_most 0 lines in omega (arith, by)
shares_few lines zero (suc place) = omega arith
shares_few lines (suc n) place =
    let next : suc n ≡ n + 1 = omega arith in
    let by = by_at_most (n + 1) lines in
    let P : List ℕ → Type 0 = λ shares. slice_index shares place ≤ length lines + 1 in
    subst P (shares_more lines n ∙ ap (shares_to lines) (sym next))
    (few-behind place (length lines + 1) (shares_to lines n) (lines_by (n + 1) lines + 1) (shares_few lines n place) (omega (arith, by)))
