-- What is left to be read of a script's lines.
use Rattle.std.proofs.Common.{◌≡◌, ℕ, ◌<◌, ◌≤◌, true, false, nat_lt, List, [], ◌∷◌, ◌++◌, filter, refl, ap, ◌∙◌, arith}
use Rattle.std.specs.List.{flat_map, AllByRecursion}
use Rattle.std.proofs.lemmas.Bool.Decides.{nat_tests}
use Rattle.std.proofs.lemmas.List.Elements.{filter-append}
use Rattle.flat_scene.specs.declared.script.ScriptLine.{ScriptLine}
use Rattle.flat_playable.specs.Playable.{rise_from}
use Rattle.flat_base.proofs.lemmas.Tests.{and-left, and-right}

-- the first line's number is above, and the later ones are above it
pub rise_first : (n : ℕ) (next : ScriptLine) (later : List ScriptLine) → rise_from n (next ∷ later) ≡ true → n < next.number
rise_first n next later rise = let first : nat_lt n next.number ≡ true = and-left _ _ rise in grind (arith, nat_tests)

pub rise_later : (n : ℕ) (next : ScriptLine) (later : List ScriptLine) → rise_from n (next ∷ later) ≡ true → rise_from next.number later ≡ true
rise_later n next later rise = and-right (nat_lt n next.number) _ rise

-- a line among others has a number above what they rise from
pub rise_to : (n : ℕ) (read : List ScriptLine) (next : ScriptLine) (later : List ScriptLine) → rise_from n (read ++ next ∷ later) ≡ true → n < next.number
rise_to n [] next later rise = rise_first n next later rise
rise_to n (one ∷ read) next later rise =
    let a : n < one.number = rise_first n one (read ++ next ∷ later) rise in
    let b : one.number < next.number = rise_to one.number read next later (rise_later n one (read ++ next ∷ later) rise) in
    omega arith

-- what a line gives has its number
abbrev pub Numbered : {A : Type 0} → ℕ → List (ℕ × A) → Type 0
Numbered n = AllByRecursion (λ given. given.0 ≡ n)

none_above : {A : Type 0} (n m : ℕ) (given : List (ℕ × A)) → m ≤ n → Numbered m given → filter (λ one. nat_lt n one.0) given ≡ []
none_above n m [] le numbered = refl
none_above n m (one ∷ given) le numbered =
    let below : nat_lt n one.0 ≡ false = grind (arith, nat_tests, numbered.0) in
    rw below (none_above n m given le numbered.1)

all_above : {A : Type 0} (n m : ℕ) (given : List (ℕ × A)) → n < m → Numbered m given → filter (λ one. nat_lt n one.0) given ≡ given
all_above n m [] less numbered = refl
all_above n m (one ∷ given) less numbered =
    let above : nat_lt n one.0 ≡ true = grind (arith, nat_tests, numbered.0) in
    rw above (ap (λ t. one ∷ t) (all_above n m given less numbered.1))

module _ {A : Type 0} (f : ScriptLine → List (ℕ × A)) (numbered : (next : ScriptLine) → Numbered next.number (f next)) where
  pub later_all : (n m : ℕ) (later : List ScriptLine) → n ≤ m → rise_from m later ≡ true → filter (λ one. nat_lt n one.0) (flat_map f later) ≡ flat_map f later
  later_all n m [] le rise = refl
  later_all n m (next ∷ later) le rise =
      let less : m < next.number = rise_first m next later rise in
      filter-append (λ one. nat_lt n one.0) (f next) (flat_map f later)
      ∙ ap (λ t. t ++ filter (λ one. nat_lt n one.0) (flat_map f later)) (all_above n next.number (f next) (omega arith) (numbered next))
      ∙ ap (λ t. f next ++ t) (later_all n next.number later (omega arith) (rise_later m next later rise))

  -- after the lines up to one, what is left is what the lines behind it give
  pub unread_after : (m : ℕ) (read : List ScriptLine) (next : ScriptLine) (later : List ScriptLine) → rise_from m (read ++ next ∷ later) ≡ true
      → filter (λ one. nat_lt next.number one.0) (flat_map f (read ++ next ∷ later)) ≡ flat_map f later
  unread_after m [] next later rise =
      filter-append (λ one. nat_lt next.number one.0) (f next) (flat_map f later)
      ∙ ap (λ t. t ++ filter (λ one. nat_lt next.number one.0) (flat_map f later)) (none_above next.number next.number (f next) (omega arith) (numbered next))
      ∙ later_all next.number next.number later (omega arith) (rise_later m next later rise)
  unread_after m (one ∷ read) next later rise =
      let rest : rise_from one.number (read ++ next ∷ later) ≡ true = rise_later m one (read ++ next ∷ later) rise in
      let less : one.number < next.number = rise_to one.number read next later rest in
      filter-append (λ given. nat_lt next.number given.0) (f one) (flat_map f (read ++ next ∷ later))
      ∙ ap (λ t. t ++ filter (λ given. nat_lt next.number given.0) (flat_map f (read ++ next ∷ later)))
      (none_above next.number one.number (f one) (omega arith) (numbered one))
      ∙ unread_after one.number read next later rest
