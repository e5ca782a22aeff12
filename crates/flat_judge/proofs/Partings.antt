-- Two texts, byte by byte.
use Rattle.std.proofs.Common.{◌≡◌, ℕ, zero, suc, ◌+◌, ◌<◌, ◌≤◌, ◌==◌, Bool, true, false, cond, List, [], ◌∷◌, ◌++◌, length, get_or, take, drop, refl, sym, ap}
use Rattle.std.proofs.Common.{◌∙◌, arith, append_assoc, Some, None}
use Rattle.std.proofs.Math.Seq.{drop-cons}
use Rattle.std.proofs.lemmas.List.{append-nil}
use Rattle.std.specs.List.{concat}
use Rattle.std.proofs.lemmas.Bool.{eq-eqb, eqb-true}
use Rattle.flat_judge.specs.Parting.{parts_from}

-- texts that don't part are one
pub parts-none : (line : ℕ) (text other : List ℕ) → parts_from line text other ≡ None → text ≡ other
parts-none line [] [] is = refl
parts-none line [] (b ∷ other) is = absurd (let wrong : Some line ≡ None = is in cc)
parts-none line (a ∷ text) [] is = absurd (let wrong : Some line ≡ None = is in cc)
parts-none line (a ∷ text) (b ∷ other) is = by (a == b) refl is (parts-none (line + cond (a == 10) 1 0) text other)
  where
    by : (t : Bool) → (a == b) ≡ t → cond t (parts_from (line + cond (a == 10) 1 0) text other) (Some line) ≡ None
        → (parts_from (line + cond (a == 10) 1 0) text other ≡ None → text ≡ other) → a ∷ text ≡ b ∷ other
    by true same none rest = let first : a ≡ b = eqb-true a b same in let later = rest none in λ i. first i ∷ later i
    by false same none rest = absurd (let wrong : Some line ≡ None = none in cc)

-- and a text doesn't part from itself
pub parts-same : (line : ℕ) (text : List ℕ) → parts_from line text text ≡ None
parts-same line [] = refl
parts-same line (a ∷ text) = let here : (a == a) ≡ true = eq-eqb a a refl in rw here (parts-same (line + cond (a == 10) 1 0) text)

-- ---- at a place of each

module _ (text piece later : List ℕ) (i j line : ℕ) (inside : j < length piece) where
  there : drop j piece ≡ get_or piece j 0 ∷ drop (suc j) piece
  there = drop-cons piece j 0 inside

  pub parts-on : i < length text → get_or text i 0 ≡ get_or piece j 0
      → parts_from line (drop i text) (drop j piece ++ later)
      ≡ parts_from (line + cond (get_or piece j 0 == 10) 1 0) (drop (suc i) text) (drop (suc j) piece ++ later)
  parts-on below same =
      let here : drop i text ≡ get_or piece j 0 ∷ drop (suc i) text = drop-cons text i 0 below ∙ ap (λ (c : ℕ). c ∷ drop (suc i) text) same in
      let yes : (get_or piece j 0 == get_or piece j 0) ≡ true = eq-eqb (get_or piece j 0) (get_or piece j 0) refl in
      (λ k. parts_from line (here k) (there k ++ later))
      ∙ ap (λ b. cond b (parts_from (line + cond (get_or piece j 0 == 10) 1 0) (drop (suc i) text) (drop (suc j) piece ++ later)) (Some line)) yes

  pub parts-here : i < length text → (get_or text i 0 == get_or piece j 0) ≡ false → parts_from line (drop i text) (drop j piece ++ later) ≡ Some line
  parts-here below other =
      (λ k. parts_from line (drop-cons text i 0 below k) (there k ++ later))
      ∙ ap (λ b. cond b (parts_from (line + cond (get_or text i 0 == 10) 1 0) (drop (suc i) text) (drop (suc j) piece ++ later)) (Some line)) other

  pub parts-end : drop i text ≡ [] → parts_from line (drop i text) (drop j piece ++ later) ≡ Some line
  parts-end none = λ k. parts_from line (none k) (there k ++ later)

-- past the end nothing is left
pub drop-past : (xs : List ℕ) (i : ℕ) → length xs ≤ i → drop i xs ≡ []
drop-past [] zero upto = refl
drop-past [] (suc i) upto = refl
drop-past (x ∷ xs) zero upto = absurd (omega (arith, upto))
drop-past (x ∷ xs) (suc i) upto = drop-past xs i (omega (arith, upto))

-- a text that goes on behind the other parts from it
pub parts-longer : (line i : ℕ) (text : List ℕ) → i < length text → parts_from line (drop i text) [] ≡ Some line
parts-longer line i text below = ap (λ t. parts_from line t []) (drop-cons text i 0 below)

pub all-past : {A : Type 0} (xs : List A) (i : ℕ) → length xs ≤ i → drop i xs ≡ []
all-past [] zero upto = refl
all-past [] (suc i) upto = refl
all-past (x ∷ xs) zero upto = absurd (omega (arith, upto))
all-past (x ∷ xs) (suc i) upto = all-past xs i (omega (arith, upto))

-- the pieces up to one more of them, one behind the other
pub concat-next : (pieces : List (List ℕ)) (k : ℕ) (d : List ℕ) → k < length pieces → concat (take (suc k) pieces) ≡ concat (take k pieces) ++ get_or pieces k d
concat-next [] k d inside = absurd (omega (arith, inside))
concat-next (p ∷ pieces) zero d inside = append-nil p
concat-next (p ∷ pieces) (suc k) d inside = ap (λ (t : List ℕ). p ++ t) (concat-next pieces k d (omega (arith, inside)))
    ∙ sym (append_assoc p (concat (take k pieces)) (get_or pieces k d))

-- the pieces before a place, the one at it, and those behind
pub concat-split : (pieces : List (List ℕ)) (k : ℕ) (d : List ℕ) → k < length pieces
    → concat pieces ≡ concat (take k pieces) ++ (get_or pieces k d ++ concat (drop (suc k) pieces))
concat-split [] k d inside = absurd (omega (arith, inside))
concat-split (p ∷ pieces) zero d inside = refl
concat-split (p ∷ pieces) (suc k) d inside =
    ap (λ (t : List ℕ). p ++ t) (concat-split pieces k d (omega (arith, inside)))
    ∙ sym (append_assoc p (concat (take k pieces)) (get_or pieces k d ++ concat (drop (suc k) pieces)))
