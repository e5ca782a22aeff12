-- Entries that are written in the order of their lines.
use Rattle.std.proofs.Common.{◌≡◌, ℕ, ◌+◌, ◌<◌, Bool, true, false, nat_lt, List, [], ◌∷◌, ◌++◌, length, reverse, map, get_or, refl, sym, ap, ◌∙◌, subst, arith}
use Rattle.std.proofs.Common.{length-append}
use Rattle.std.proofs.Math.Seq.{get_or-append_seam}
use Rattle.std.specs.List.{AllByRecursion}
use Rattle.std.specs.List.Sorted.{IsStrictlyIncreasing}
use Rattle.std.proofs.lemmas.Bool.Decides.{nat_tests}
use Rattle.std.proofs.lemmas.List.{reverse-append, map-append, get_or_append_left}
use Rattle.flat_scene.specs.declared.journal.Entry.{Entry}
use Rattle.flat_scene.specs.History.{◌▹◌, is_end}
use Rattle.flat_scene.specs.Interleave.{last_line}
use Rattle.flat_play.proofs.lemmas.Places.{all_end}

abbrev pub lines_of : List Entry → List ℕ
lines_of history = map (λ entry. entry.line) (reverse history)

reversed : (before : List Entry) (entry : Entry) → reverse (before ▹ entry) ≡ reverse before ++ entry ∷ []
reversed before entry = reverse-append (entry ∷ []) before

lines_more : (before : List Entry) (entry : Entry) → lines_of (before ▹ entry) ≡ lines_of before ++ entry.line ∷ []
lines_more before entry = ap (map (λ (e : Entry). e.line)) (reversed before entry) ∙ map-append (λ (e : Entry). e.line) (reverse before) (entry ∷ [])

-- the greatest of rising numbers is the last
abbrev EndsWith : List ℕ → ℕ → Type 0
EndsWith xs last = (k : ℕ) → k + 1 ≡ length xs → get_or xs k 0 ≡ last

ends_with : (xs : List ℕ) (last : ℕ) → EndsWith (xs ++ last ∷ []) last
ends_with xs last k is =
    let here : k ≡ length xs = omega (arith, length-append xs (last ∷ [])) in
    rw here (get_or-append_seam xs last [] 0)

lines_end : (before : List Entry) (entry : Entry) → EndsWith (lines_of (before ▹ entry)) entry.line
lines_end before entry = let P : List ℕ → Type 0 = λ xs. EndsWith xs entry.line in
    subst P (sym (lines_more before entry)) (ends_with (lines_of before) entry.line)

rising_more : (xs : List ℕ) (last y : ℕ) → IsStrictlyIncreasing xs → EndsWith xs last → last < y → IsStrictlyIncreasing (xs ++ y ∷ [])
rising_more xs last y rise ends less k within = by_place (nat_lt (k + 1) (length xs)) refl
  where
    by_place : (b : Bool) → nat_lt (k + 1) (length xs) ≡ b → get_or (xs ++ y ∷ []) k 0 < get_or (xs ++ y ∷ []) (k + 1) 0
    by_place true inside =
        let less_than : k + 1 < length xs = grind (arith, nat_tests) in
        let before : k < length xs = omega arith in
        rw (get_or_append_left xs (y ∷ []) 0 k before, get_or_append_left xs (y ∷ []) 0 (k + 1) less_than) (rise k less_than)
    by_place false outside =
        let at_end : k + 1 ≡ length xs = grind (arith, nat_tests, length-append xs (y ∷ [])) in
        let before : k < length xs = omega arith in
        let first : get_or (xs ++ y ∷ []) k 0 ≡ last = get_or_append_left xs (y ∷ []) 0 k before ∙ ends k at_end in
        let second : get_or (xs ++ y ∷ []) (k + 1) 0 ≡ y = ap (λ n. get_or (xs ++ y ∷ []) n 0) at_end ∙ get_or-append_seam xs y [] 0 in
        rw (first, second) less

-- an entry behind those that rise
pub lines_rise : (before : List Entry) (entry : Entry) → IsStrictlyIncreasing (lines_of before) → last_line before < entry.line
    → IsStrictlyIncreasing (lines_of (before ▹ entry))
lines_rise [] entry rise less = λ k within. absurd (omega arith)
lines_rise (older ▹ last) entry rise less =
    let P : List ℕ → Type 0 = IsStrictlyIncreasing in
    subst P (sym (lines_more (older ▹ last) entry)) (rising_more (lines_of (older ▹ last)) last.line entry.line rise (lines_end older last) less)

abbrev pub NoEnds : List Entry → Type 0
NoEnds = AllByRecursion (λ entry. is_end entry.kind ≡ false)

pub no_ends_more : (before : List Entry) (entry : Entry) → NoEnds (reverse before) → is_end entry.kind ≡ false → NoEnds (reverse (before ▹ entry))
no_ends_more before entry all one = let P : List Entry → Type 0 =
    NoEnds in subst P (sym (reversed before entry)) (all_end (λ (e : Entry). is_end e.kind ≡ false) (reverse before) entry all one)
