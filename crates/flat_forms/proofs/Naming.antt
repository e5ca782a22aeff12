-- The calls whose names are as long as a word are all that it may name.
use Rattle.std.proofs.Common.{◌≡◌, ℕ, Bool, true, false, ◌==◌, List, [], ◌∷◌, length, filter, find, Option, Some, cond, refl, sym, ap, ◌∙◌, arith}
use Rattle.std.proofs.lemmas.Bool.Decides.{nat_tests}
use Rattle.std.proofs.lemmas.Slice.Eq.{bytes_eq-Decides}
use Rattle.std.specs.Str.{bytes_eq}
use Rattle.flat_places.specs.Forms.{Word}
use Rattle.flat_forms.specs.declared.calls.CallName.{CallName}
use Rattle.flat_forms.specs.Calls.{text, call_names}

-- the call is as long as that
abbrev pub is_of_length : ℕ → CallName → Bool
is_of_length n name = n == length (text name)

-- the call that the word names, of some
abbrev pub named_of : Word → List CallName → Option CallName
named_of w names = find (λ n. bytes_eq w (text n)) names

same_length : (w : Word) (name : CallName) → bytes_eq w (text name) ≡ true → is_of_length (length w) name ≡ true
same_length w name same = let e : length w ≡ length (text name) = ap length ((bytes_eq-Decides w (text name)).0 same) in grind (arith, nat_tests)

named-of-length : (w : Word) (names : List CallName) → named_of w (filter (is_of_length (length w)) names) ≡ named_of w names
named-of-length w [] = refl
named-of-length w (name ∷ names) = by_tests (is_of_length (length w) name) refl (bytes_eq w (text name)) refl (named-of-length w names)
  where
    by_tests : (b : Bool) → is_of_length (length w) name ≡ b → (c : Bool) → bytes_eq w (text name) ≡ c
        → named_of w (filter (is_of_length (length w)) names) ≡ named_of w names
        → named_of w (cond b (name ∷ filter (is_of_length (length w)) names) (filter (is_of_length (length w)) names)) ≡ cond c (Some name) (named_of w names)
    by_tests true long c is rest = ap (λ d. cond d (Some name) (named_of w (filter (is_of_length (length w)) names))) is ∙ ap (cond c (Some name)) rest
    by_tests false long true is rest = absurd (let wrong : true ≡ false = sym (same_length w name is) ∙ long in cc)
    by_tests false long false is rest = rest

-- those of that length alone
pub named_by_length : (w : Word) (n : ℕ) → length w ≡ n → named_of w (filter (is_of_length n) call_names) ≡ named_of w call_names
named_by_length w n long = ap (λ k. named_of w (filter (is_of_length k) call_names)) (sym long) ∙ named-of-length w call_names
