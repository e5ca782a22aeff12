-- Whether a text has bytes at a place.
use Rattle.std.proofs.Common.{◌≡◌, ℕ, ◌+◌, ◌-◌, ◌<◌, ◌≤◌, Bool, true, false, List, ◌++◌, length, take, drop, Some, None, refl, sym, ap, ◌∙◌, subst, arith}
use Rattle.std.proofs.Common.{append_assoc, length-append, Decides, true≢false}
use Rattle.std.proofs.lemmas.Grind.{common_steps}
use Rattle.std.specs.Str.{bytes_eq}
use Rattle.std.proofs.Math.Seq.{take-append_seam}
use Rattle.std.proofs.lemmas.List.{append_cancel_left, take-append-drop}
use Rattle.std.proofs.lemmas.Slice.Eq.{bytes_eq-Decides}
use Rattle.flat_judge.specs.Following.{Passes}

drop-more : {A : Type 0} (m n : ℕ) (xs : List A) → drop n (drop m xs) ≡ drop (m + n) xs
drop-more m n xs = grind (arith, common_steps)

length-left : {A : Type 0} (n : ℕ) (xs : List A) → n ≤ length xs → n + length (drop n xs) ≡ length xs
length-left n xs within = grind (arith, common_steps)

same-bytes : (a b : List ℕ) → bytes_eq a b ≡ true → a ≡ b
same-bytes a b is = (subst (λ t. Decides t (a ≡ b)) is (bytes_eq-Decides a b)).0 refl

equal-bytes : (a : List ℕ) → bytes_eq a a ≡ true
equal-bytes a = by (bytes_eq a a) refl
  where
    by : (t : Bool) → bytes_eq a a ≡ t → bytes_eq a a ≡ true
    by true is = is
    by false is = let wrong : false ≡ true = (subst (λ t. Decides t (a ≡ a)) is (bytes_eq-Decides a a)).1 refl in absurd (true≢false (sym wrong))

-- what a slice from a place on has
pub rest-all : {A : Type 0} (xs : List A) (at : ℕ) → take (length xs - at) (drop at xs) ≡ drop at xs
rest-all xs at = grind (arith, common_steps)

module _ (text bytes : List ℕ) (at n : ℕ) (many : n ≡ length bytes) where
  pub pass-some : at + length bytes ≤ length text → bytes_eq (take n (drop at text)) bytes ≡ true → Passes text at bytes (Some (at + length bytes))
  pass-some within is = (
    within,
    λ before begins.
        (let found : take (length bytes) (drop at text) ≡ bytes = ap (λ (k : ℕ). take k (drop at text)) (sym many)
        ∙ same-bytes (take n (drop at text)) bytes is in
        let here : drop at text ≡ bytes ++ drop (length bytes) (drop at text) =
        sym (take-append-drop (length bytes) (drop at text)) ∙ ap (λ (t : List ℕ). t ++ drop (length bytes) (drop at text)) found in
        let long = begins.long in
        record {
          long = (let both : length (before ++ bytes) ≡ length before + length bytes = length-append before bytes in omega (arith, both, long));
          is = begins.is ∙ ap (λ (t : List ℕ). before ++ t) (here ∙ ap (λ (t : List ℕ). bytes ++ t) (drop-more at (length bytes) text))
              ∙ sym (append_assoc before bytes (drop (at + length bytes) text));
        }),
  )

  pub pass-other : bytes_eq (take n (drop at text)) bytes ≡ false → Passes text at bytes None
  pass-other other before rest begins is =
      let here : drop at text ≡ bytes ++ rest = append_cancel_left before (drop at text) (bytes ++ rest) (sym begins.is ∙ is) in
      let same : take n (drop at text) ≡ bytes = ap (λ (k : ℕ). take k (drop at text)) many ∙ ap (take (length bytes)) here ∙ take-append_seam bytes rest in
      true≢false (sym (equal-bytes bytes) ∙ ap (λ (t : List ℕ). bytes_eq t bytes) (sym same) ∙ other)

pub pass-short : (text bytes : List ℕ) (at : ℕ) → at ≤ length text → length text < at + length bytes → Passes text at bytes None
pass-short text bytes at within short before rest begins is =
    let here : drop at text ≡ bytes ++ rest = append_cancel_left before (drop at text) (bytes ++ rest) (sym begins.is ∙ is) in
    let left = length-left at text within in
    let long : length (drop at text) ≡ length bytes + length rest = ap length here ∙ length-append bytes rest in
    omega (arith, left, long, short)
