-- The step that adds a frame keeps the rule of the book.
use Rattle.std.proofs.Common.{◌≡◌, ℕ, ◌<◌, ◌==◌, Bool, true, false, List, [], ◌∷◌, ◌++◌, refl, ap, sym, ◌∙◌, subst, arith, inl, None, length, MatchBool}
use Rattle.std.proofs.lemmas.List.{append-nil}
use Rattle.std.proofs.lemmas.Bool.Decides.{nat_tests}
use mathlib.Core.List.{IsPrefix}
use prog.Atomic.{either}
use Rattle.logbook.specs.Pages.{Cell, cell, keeps, no_nib, step, Moves, Goes}
use Rattle.flat_publish.specs.declared.frame.Frame.{Frame}
use Rattle.flat_publish.specs.Frames.{number_of, last_of, last_number, IsRising}
use Rattle.flat_publish.specs.Book.{IsKept, Adds}
use Rattle.flat_publish.proofs.lemmas.Beginnings.{same_last, last_snoc, rises_snoc}

abbrev pub shown : List Frame → List Frame
shown log = []

abbrev pub moved : List Frame → List Frame → ℕ → Type 0
moved xs ys n = Unit {0}

pub adds_goes : (log v : List Frame) (f : Frame) (old new : ℕ) → last_number v ≡ old → new ≡ f.number.0 → old < new → IsRising log → IsPrefix v log
    → (b : Bool) → (last_number log == old) ≡ b
    → Goes IsKept shown moved 0 (v, (no_nib, None)) (λ n. either (n == old) new n) (Adds (step 0 old new f) (v, (no_nib, None)))
    ((last_number log, true) ∷ (0, true) ∷ []) log
adds_goes log v f old new at to lt rising pre true is =
    let here : last_number log ≡ old = grind (arith, nat_tests) in
    let same : v ≡ log = same_last None v log pre rising (omega (arith, here, at)) in
    let rising' : IsRising (log ++ f ∷ []) = rises_snoc None log f rising (omega (arith, here, to, lt)) in
    let n : either (last_number log == old) new (last_number log) ≡ last_number (log ++ f ∷ []) = rw is (to ∙ sym (ap number_of (last_snoc None log f))) in (
      keeps,
      f ∷ [],
      None,
      tt,
      record { words = ap (λ (k : ℕ). (k, true) ∷ (0, true) ∷ []) n; rising = rising' },
      inl (refl, refl),
      rw is (ap (λ w. w ++ f ∷ []) (sym same), rising'),
    )
adds_goes log v f old new at to lt rising pre false is =
    let all : log ++ [] ≡ log = append-nil log in
    let n : either (last_number log == old) new (last_number log) ≡ last_number (log ++ []) = rw is (ap last_number (sym all)) in (
      keeps,
      [],
      None,
      tt,
      record { words = ap (λ (k : ℕ). (k, true) ∷ (0, true) ∷ []) n; rising = subst IsRising (sym all) rising },
      inl (refl, refl),
      rw is tt,
    )

pub adds_moves : (v : List Frame) (f : Frame) (old new : ℕ) → last_number v ≡ old → new ≡ f.number.0 → old < new
    → Moves IsKept shown moved 0 (v, (no_nib, None)) (λ n. either (n == old) new n) (Adds (step 0 old new f) (v, (no_nib, None)))
adds_moves v f old new at to lt cs log kept pre away =
    let P : List Cell → Type 0 = λ c. (0 < length c) × ((cell c 0).1 ≡ true)
    × Goes IsKept shown moved 0 (v, (no_nib, None)) (λ n. either (n == old) new n) (Adds (step 0 old new f) (v, (no_nib, None))) c log in
    subst P (sym kept.words) (omega arith, refl, adds_goes log v f old new at to lt kept.rising pre (last_number log == old) refl)

-- what is told where the number found is the one asked for
pub met : (found old : ℕ) (A B : Type 0) → found ≡ old → MatchBool (found == old) A B → A
met found old A B is told = let same : (found == old) ≡ true = grind (arith, nat_tests) in subst (λ (b : Bool). MatchBool b A B) same told
