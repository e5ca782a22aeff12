-- texts that grow piece by piece
use Rattle.std.proofs.Common.{Result, Ok, Err, IsErr, OnOk, ◌≡◌, ℕ, suc, zero, ◌+◌, ◌-◌, ◌≤◌, List, [], ◌∷◌, ◌++◌, length, map, take, arith, sym, ◌∙◌, ap}
use Rattle.std.proofs.Common.{subst, append_assoc, add-one, add-zero}
use Rattle.std.specs.List.{flat_map, range_with_len}
use Rattle.std.proofs.lemmas.Grind.{flat_map-append}
use Rattle.std.proofs.lemmas.List.{map-append, append-nil, take_all}
use Rattle.std.proofs.lemmas.List.Folds.{flat_map-map}
use Rattle.flat_stress.specs.Words.{line_text, between}
use Rattle.flat_page.specs.Words.{text_of}
use Rattle.flat_places.specs.Forms.{Word}

-- one text after another
pub two : (a b : List (List Word)) (old mid new : List ℕ) → mid ≡ old ++ text_of a → new ≡ mid ++ text_of b → new ≡ old ++ text_of (a ++ b)
two a b old mid new is is' = rw (is', is, flat_map-append line_text a b) (append_assoc old (text_of a) (text_of b))

-- all items of a list
pub all_items : {X Y : Type 0} (f : Y → List ℕ) (v : X → Y) (old text : List ℕ) (xs : List X) (i : ℕ) → length xs ≤ i
    → text ≡ old ++ flat_map (λ x. f (v x)) (take i xs) → text ≡ old ++ flat_map f (map v xs)
all_items f v old text xs i end is = is ∙ ap (λ zs. old ++ flat_map (λ x. f (v x)) zs) (take_all i xs end) ∙ ap (λ zs. old ++ zs) (sym (flat_map-map f v xs))

range-more : (n a : ℕ) → range_with_len a (suc n) ≡ range_with_len a n ++ (a + n) ∷ []
range-more zero a = ap (λ b. b ∷ []) (sym (add-zero a))
range-more (suc n) a = ap (λ bs. a ∷ bs) (range-more n (a + 1) ∙ ap (λ b. range_with_len (a + 1) n ++ b ∷ []) (omega arith))

between_from : (first i m n : ℕ) → m ≡ n + 1 → first + n ≡ i → range_with_len first m ≡ range_with_len first n ++ i ∷ []
between_from first i m n e e' = rw (e, add-one, ← e') (range-more n first)

pub between-more : (first i : ℕ) → first ≤ i → between first (i + 1) ≡ between first i ++ i ∷ []
between-more first i h = between_from first i (i + 1 - first) (i - first) (omega arith) (omega arith)

-- the numbers are at their end
pub numbers_end : (f : ℕ → List (List Word)) (old text : List ℕ) (first i end : ℕ) → i ≡ end → text ≡ old ++ text_of (flat_map f (between first i))
    → text ≡ old ++ text_of (flat_map f (between first end))
numbers_end f old text first i end e is = let P : ℕ → Type 0 = λ k. text ≡ old ++ text_of (flat_map f (between first k)) in subst P e is

pub lines_end : (f : ℕ → List Word) (old text : List ℕ) (first i end : ℕ) → i ≡ end → text ≡ old ++ text_of (map f (between first i))
    → text ≡ old ++ text_of (map f (between first end))
lines_end f old text first i end e is = let P : ℕ → Type 0 = λ k. text ≡ old ++ text_of (map f (between first k)) in subst P e is

-- one number more
pub number_more : (f : ℕ → List (List Word)) (old text text' : List ℕ) (first i : ℕ) → first ≤ i → text ≡ old ++ text_of (flat_map f (between first i))
    → text' ≡ text ++ text_of (f i) → text' ≡ old ++ text_of (flat_map f (between first (i + 1)))
number_more f old text text' first i h so_far more = rw (between-more first i h, flat_map-append f (between first i) (i ∷ []), append-nil (f i))
    (two (flat_map f (between first i)) (f i) old text text' so_far more)

pub line_more : (f : ℕ → List Word) (old text text' : List ℕ) (first i : ℕ) → first ≤ i → text ≡ old ++ text_of (map f (between first i))
    → text' ≡ text ++ text_of (f i ∷ []) → text' ≡ old ++ text_of (map f (between first (i + 1)))
line_more f old text text' first i h so_far more = rw (between-more first i h, map-append f (between first i) (i ∷ []))
    (two (map f (between first i)) (f i ∷ []) old text text' so_far more)

-- of a refusal nothing is asked
pub on_ok_of_err : {A E : Type 0} (P : Type 0) (r : Result A E) → IsErr r → OnOk r P
on_ok_of_err P (Ok a) h = absurd (grind arith)
on_ok_of_err P (Err e) h = tt
