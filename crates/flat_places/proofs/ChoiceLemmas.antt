-- A choice among numbered values, and declared things with owners, case by case.
use Rattle.std.proofs.Common.{◌≡◌, ℕ, ◌<◌, ◌≤◌, ◌-◌, Bool, true, false, List, length, Option, Some, None, Ok, Err, sym, ◌∙◌, ap, arith, nat_le, nat_lt, refl}
use Rattle.std.proofs.Common.{if◌then◌else◌, option_and_then, slice_get, get_or}
use Rattle.std.specs.Option.{option_map_or}
use Rattle.std.proofs.lemmas.Bool.Decides.{nat_tests}
use Rattle.std.proofs.lemmas.Option.{slice_get-get_or, slice_get_past, slice_get_read}
use Rattle.flat_places.specs.declared.kinds.FaultKind.TheVariants.{BadNumber, NotOwner, UnknownName}
use Rattle.flat_places.specs.Forms.{Reading, Word, mapped, or_kind, unless_kind}
use Rattle.flat_places.specs.Names.{place_of}
use Rattle.flat_places.specs.Places.{owned}

-- the value of the number, where one was read
abbrev numbered : {A : Type 0} → ℕ → List A → Option ℕ → Reading A
numbered first values number = or_kind BadNumber (option_and_then (λ n. if nat_le first n then slice_get values (n - first) else None) number)

pub chosen_low : {A : Type 0} (first n : ℕ) (values : List A) (number : Option ℕ) → number ≡ Some n → n < first → numbered first values number ≡ Err BadNumber
chosen_low first n values number is low =
    let test : nat_le first n ≡ false = grind (arith, nat_tests) in
    ap (numbered first values) is ∙ ap (λ b. or_kind BadNumber (if b then slice_get values (n - first) else None)) test

pub chosen_within : {A : Type 0} (first n : ℕ) (values : List A) (number : Option ℕ) (r : Option A) → number ≡ Some n → first ≤ n
    → slice_get values (n - first) ≡ r → numbered first values number ≡ or_kind BadNumber r
chosen_within first n values number r is high got =
    let test : nat_le first n ≡ true = grind (arith, nat_tests) in
    ap (numbered first values) is ∙ ap (λ b. or_kind BadNumber (if b then slice_get values (n - first) else None)) test ∙ ap (or_kind BadNumber) got

pub chosen_past : {A : Type 0} (first n : ℕ) (values : List A) (number : Option ℕ) → number ≡ Some n → first ≤ n → length values ≤ n - first
    → numbered first values number ≡ Err BadNumber
chosen_past first n values number is high past = chosen_within first n values number None is high (slice_get_past values (n - first) past)

pub chosen_at : {A : Type 0} (first n : ℕ) (values : List A) (number : Option ℕ) (v d : A) → number ≡ Some n → first ≤ n → n - first < length values
    → v ≡ get_or values (n - first) d → numbered first values number ≡ Ok v
chosen_at first n values number v d is high within value =
    chosen_within first n values number (Some v) is high (rw value (slice_get-get_or values (n - first) d within))

-- what is declared, and who owns it

pub owned_none : {D B : Type 0} (make : ℕ → B) (names : List Word) (declared : List D) (owns : D → Bool) (w : Word) (place : Option ℕ)
    → place ≡ place_of names w → place ≡ None → mapped make (owned names declared owns w) ≡ Err UnknownName
owned_none make names declared owns w place found none =
    ap (λ p. mapped make (option_map_or (λ i. unless_kind NotOwner (option_map_or owns (slice_get declared i) false) (Ok i)) p (Err UnknownName)))
    (sym found ∙ none)

pub owned_by : {D B : Type 0} (make : ℕ → B) (names : List Word) (declared : List D) (owns : D → Bool) (w : Word) (place : Option ℕ) (i : ℕ) (thing : Option D)
    (b : Bool)
    → place ≡ place_of names w → place ≡ Some i → slice_get declared i ≡ thing → option_map_or owns thing false ≡ b
    → mapped make (owned names declared owns w) ≡ mapped make (unless_kind NotOwner b (Ok i))
owned_by make names declared owns w place i thing b found some got test =
    ap (λ p. mapped make (option_map_or (λ i. unless_kind NotOwner (option_map_or owns (slice_get declared i) false) (Ok i)) p (Err UnknownName)))
    (sym found ∙ some)
    ∙ ap (λ t. mapped make (unless_kind NotOwner t (Ok i))) (ap (λ o. option_map_or owns o false) got ∙ test)

-- the item that a look-up found
pub found_at : {D : Type 0} (xs ys : List D) (i : ℕ) (x : D) → ys ≡ xs → true ≡ nat_lt i (length ys) → x ≡ get_or ys i x → slice_get xs i ≡ Some x
found_at xs ys i x same within item =
    let below : i < length ys = grind (arith, nat_tests) in
    ap (λ zs. slice_get zs i) (sym same) ∙ slice_get_read ys (length ys) i x refl below item
