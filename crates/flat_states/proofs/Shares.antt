-- Where each actor made at most its share, and one made fewer, there are fewer entries than the shares allow.
use Rattle.std.proofs.Common.{◌≡◌, ℕ, zero, suc, ◌+◌, ◌<◌, ◌≤◌, List, [], ◌∷◌, length, refl, arith, ◌∙◌, sum, slice_index, zero-add}
use Rattle.std.specs.Prelude.{cond, ◌==◌}
use Rattle.std.proofs.lemmas.Grind.{common_steps}
use Rattle.std.proofs.lemmas.Bool.Decides.{nat_tests}
use Rattle.std.proofs.lemmas.List.Sums.{sum_by-cons}
use Rattle.flat_scene.specs.declared.journal.Entry.{Entry}
use Rattle.flat_scene.specs.History.{◌▹◌}
use Rattle.flat_scene.specs.Journals.{seat_number}
use Rattle.flat_states.specs.Machines.{made}

-- what is counted at each place of a list, added up
abbrev added : (ℕ → ℕ) → List ℕ → ℕ
added f [] = 0
added f (x ∷ xs) = f 0 + added (λ i. f (suc i)) xs

added-same : (f g : ℕ → ℕ) (xs : List ℕ) → ((i : ℕ) → f i ≡ g i) → added f xs ≡ added g xs
added-same f g [] same = refl
added-same f g (x ∷ xs) same = rw (same 0, added-same (λ i. f (suc i)) (λ i. g (suc i)) xs (λ i. same (suc i))) refl

-- one more at a place
added-more : (f g : ℕ → ℕ) (xs : List ℕ) (p : ℕ) → p < length xs → ((i : ℕ) → g i ≡ cond (p == i) 1 0 + f i) → added g xs ≡ suc (added f xs)
added-more f g [] p below more = absurd (omega arith)
added-more f g (x ∷ xs) zero below more =
    let rest : added (λ i. g (suc i)) xs ≡ added (λ i. f (suc i)) xs =
    added-same (λ i. g (suc i)) (λ i. f (suc i)) xs (λ i. rw (more (suc i)) (grind (arith, nat_tests))) in
    rw (more 0, rest) (omega arith)
added-more f g (x ∷ xs) (suc p) below more =
    let rest : added (λ i. g (suc i)) xs ≡ suc (added (λ i. f (suc i)) xs) =
    added-more (λ i. f (suc i)) (λ i. g (suc i)) xs p (grind (arith, common_steps)) (λ i. rw (more (suc i)) (grind (arith, nat_tests))) in
    rw (more 0, rest) (grind (arith, nat_tests))

made-more : (e : Entry) (h : List Entry) (place : ℕ) → made place (h ▹ e) ≡ cond (seat_number e.actor == place) 1 0 + made place h
made-more e h place = sum_by-cons (λ entry. cond (seat_number entry.actor == place) 1 0) e h

-- each entry is of one of the actors
abbrev pub AllPlaced : ℕ → List Entry → Type 0
AllPlaced n [] = Unit {0}
AllPlaced n (h ▹ e) = AllPlaced n h × (seat_number e.actor < n)

none-made : (xs : List ℕ) → added (λ place. made place []) xs ≡ 0
none-made [] = refl
none-made (x ∷ xs) = rw (zero-add _) (none-made xs)

length-made : (shares : List ℕ) (h : List Entry) → AllPlaced (length shares) h → added (λ place. made place h) shares ≡ length h
length-made shares [] placed = none-made shares
length-made shares (h ▹ e) placed =
    added-more (λ place. made place h) (λ place. made place (h ▹ e)) shares (seat_number e.actor) placed.1 (made-more e h)
    ∙ rw (length-made shares h placed.0) refl

added-le : (f : ℕ → ℕ) (xs : List ℕ) → ((i : ℕ) → i < length xs → f i ≤ slice_index xs i) → added f xs ≤ sum xs
added-le f [] le = omega arith
added-le f (x ∷ xs) le =
    let rest : added (λ i. f (suc i)) xs ≤ sum xs = added-le (λ i. f (suc i)) xs (λ i below. le (suc i) (grind (arith, common_steps))) in
    let first : f 0 ≤ x = le 0 (grind (arith, common_steps)) in
    rw (sum_by-cons (λ n. n) x xs) (omega arith)

added-lt : (f : ℕ → ℕ) (xs : List ℕ) (p : ℕ) → p < length xs → ((i : ℕ) → i < length xs → f i ≤ slice_index xs i) → f p < slice_index xs p → added f xs < sum xs
added-lt f [] p below le lt = absurd (omega arith)
added-lt f (x ∷ xs) zero below le lt =
    let rest : added (λ i. f (suc i)) xs ≤ sum xs = added-le (λ i. f (suc i)) xs (λ i b. le (suc i) (grind (arith, common_steps))) in
    rw (sum_by-cons (λ n. n) x xs) (omega arith)
added-lt f (x ∷ xs) (suc p) below le lt =
    let rest : added (λ i. f (suc i)) xs < sum xs = added-lt (λ i. f (suc i)) xs p (grind (arith, common_steps))
    (λ i b. le (suc i) (grind (arith, common_steps))) lt in
    let first : f 0 ≤ x = le 0 (grind (arith, common_steps)) in
    rw (sum_by-cons (λ n. n) x xs) (omega arith)

-- there is room
pub few-entries : (shares : List ℕ) (h : List Entry) (place : ℕ) → AllPlaced (length shares) h → place < length shares
    → ((p : ℕ) → p < length shares → made p h ≤ slice_index shares p) → made place h < slice_index shares place → length h < sum shares
few-entries shares h place placed below fair lt =
    rw (← length-made shares h placed) (added-lt (λ p. made p h) shares place below fair lt)

fair-at : (q p m n : ℕ) → m ≤ n → (q ≡ p → m < n) → (cond (q == p) 1 0 + m) ≤ n
fair-at q p m n le lt = grind (arith, nat_tests)

-- the shares stay fair
pub fair-more : (shares : List ℕ) (h : List Entry) (e : Entry) → ((p : ℕ) → p < length shares → made p h ≤ slice_index shares p)
    → made (seat_number e.actor) h < slice_index shares (seat_number e.actor)
    → (p : ℕ) → p < length shares → made p (h ▹ e) ≤ slice_index shares p
fair-more shares h e fair lt p below =
    rw (made-more e h p) (fair-at (seat_number e.actor) p (made p h) (slice_index shares p) (fair p below) (λ same. rw (← same) lt))
