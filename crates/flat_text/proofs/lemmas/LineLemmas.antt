-- How many lines a text has.
use Rattle.std.proofs.Common.{ℕ, ◌+◌, ◌<◌, ◌≤◌, ◌==◌, Bool, true, false, cond, List, [], ◌∷◌, length, arith}
use Rattle.std.specs.List.{slice_split, onto_first}
use Rattle.std.proofs.lemmas.List.Splits.{length-slice_split}
use Rattle.flat_text.specs.Pieces.{is_feed, lines_of, without_empty_end}

one_few : (t : Bool) (x : List ℕ) → length (cond {A = List (List ℕ)} t [] (x ∷ [])) ≤ 1
one_few true x = omega arith
one_few false x = omega arith

few_of_one : (x : List ℕ) → length (without_empty_end (x ∷ [])) ≤ 1
few_of_one x = one_few (length x == 0) x

onto_few : (b : ℕ) (parts : List (List ℕ)) → length (without_empty_end (onto_first b parts)) ≤ length (without_empty_end parts) + 1
onto_few b [] = omega (arith, few_of_one (b ∷ []))
onto_few b (x ∷ []) = omega (arith, few_of_one (b ∷ x))
onto_few b (x ∷ y ∷ more) = omega arith

more_few : (parts : List (List ℕ)) → 0 < length parts → length (without_empty_end ([] ∷ parts)) ≤ length (without_empty_end parts) + 1
more_few [] some = absurd (omega arith)
more_few (x ∷ parts) some = omega arith

step_few : (b : Bool) (x n : ℕ) (parts : List (List ℕ)) → 0 < length parts → length (without_empty_end parts) ≤ n
    → length (without_empty_end (cond b ([] ∷ parts) (onto_first x parts))) ≤ n + 1
step_few true x n parts some few = omega (arith, more_few parts some)
step_few false x n parts some few = omega (arith, onto_few x parts)

-- no more than it has bytes
pub lines-few : (text : List ℕ) → length (lines_of text) ≤ length text
lines-few [] = omega arith
lines-few (x ∷ text) = omega (
  arith,
  step_few (is_feed x) x (length text) (slice_split is_feed text) (omega (arith, length-slice_split is_feed text))
      (lines-few text),
)
