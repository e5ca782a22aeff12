-- The shown states, session by session.
use Rattle.std.proofs.Common.{◌≡◌, ◌≢◌, ◌∙◌, sym, ℕ, true, false, zero, suc, ◌<◌, List, [], ◌∷◌, ◌++◌, length, map, get_or, subst, refl, arith, ap, All, None}
use Rattle.std.proofs.Common.{length-append, add-one, inl, inr, ◌⊎◌}
use Rattle.std.specs.Prelude.{◌==◌, slice_index_or, Option}
use Rattle.std.proofs.lemmas.Bool.Decides.{eqb_tells}
use Rattle.std.proofs.lemmas.List.{map-append, length-map, ext_get_or, get_or_append_left, get_or_push}
use Rattle.flat_base.specs.declared.ids.SessionNo.{SessionNo}
use Rattle.flat_scene.specs.declared.setup.Setup.{Setup}
use Rattle.flat_scene.specs.declared.trees.Tree.{Tree}
use Rattle.flat_scene.specs.Frames.{sessions_to}
use Rattle.flat_rules.specs.Numbers.{number, AllNumbered}
use Rattle.flat_rules.specs.Shown.{shown, shown_states}

pub length-sessions : (n : ℕ) → length (sessions_to n) ≡ n
length-sessions zero = refl
length-sessions (suc n) = let before : length (sessions_to n) ≡ n =
    length-sessions n in omega (arith, before, length-append (sessions_to n) ((let s : SessionNo = record { 0 = suc n } in s) ∷ []))

pub length-listed : {B : Type 0} (f : SessionNo → B) (n : ℕ) → length (map f (sessions_to n)) ≡ n
length-listed f n = rw length-map (length-sessions n)

at-snoc : {A : Type 0} (P : A → Type 0) (xs : List A) (y d : A) (k : ℕ) → P (get_or xs k d) → (k ≡ length xs → P y) → P (get_or (xs ++ y ∷ []) k d)
at-snoc P [] y d zero before last = last refl
at-snoc P [] y d (suc k) before last = before
at-snoc P (x ∷ xs) y d zero before last = before
at-snoc P (x ∷ xs) y d (suc k) before last = at-snoc P xs y d k before (λ is. last (ap suc is))

-- a place of such a list has what the function gives of its session, or is past the end
pub within-or-past : {A : Type 0} (P : A → Type 0) (f : SessionNo → A) (d : A) (n k : ℕ) → P d → P (f (record { 0 = suc k }))
    → P (get_or (map f (sessions_to n)) k d)
within-or-past P f d zero k past here = past
within-or-past {A = A} P f d (suc n) k past here =
    let Q : List A → Type 0 = λ xs. P (get_or xs k d) in
    subst Q (sym (map-append f (sessions_to n) ((record { 0 = suc n }) ∷ [])))
    (at-snoc P (map f (sessions_to n)) (f (record { 0 = suc n })) d k (within-or-past P f d n k past here)
    (λ is. let same : k ≡ n = is ∙ length-listed f n in let R : ℕ → Type 0 = λ m. P (f (record { 0 = suc m })) in subst R same here))

by-test : (i n : ℕ) → i < suc n → ((n == i) ≡ true) × (n ≡ i) ⊎ ((n == i) ≡ false) × (n ≢ i) → (i < n) ⊎ (n ≡ i)
by-test i n below (inl p) = inr p.1
by-test i n below (inr p) = let differ : n ≢ i = p.1 in inl (omega (arith, below))

last-or-before : (i n : ℕ) → i < suc n → (i < n) ⊎ (n ≡ i)
last-or-before i n below = by-test i n below (eqb_tells n i)

at-side : {B : Type 0} (f : SessionNo → B) (n i : ℕ) (d : B) (rest : B) → rest ≡ f (number n)
    → (i < n → slice_index_or (map f (sessions_to n)) i d ≡ f (number i)) → (i < n) ⊎ (n ≡ i)
    → slice_index_or (map f (sessions_to n) ++ rest ∷ []) i d ≡ f (number i)
at-side f n i d rest is before (inl less) =
    get_or_append_left (map f (sessions_to n)) (rest ∷ []) d i (rw (length-listed f n) less) ∙ before less
at-side f n i d rest is before (inr same) =
    get_or_push (map f (sessions_to n)) rest d i (length-listed f n ∙ same) ∙ is ∙ ap (λ (k : ℕ). f (number k)) same

number-next : (n : ℕ) → (let s : SessionNo = record { 0 = suc n } in s) ≡ number n
number-next n = ap (λ (k : ℕ). let s : SessionNo = record { 0 = k } in s) (sym (add-one n))

-- the item of a session in a list over all sessions
pub listed-at : {B : Type 0} (f : SessionNo → B) (n i : ℕ) (d : B) → i < n → slice_index_or (map f (sessions_to n)) i d ≡ f (number i)
listed-at f zero i d below = absurd (omega (arith, below))
listed-at {B} f (suc n) i d below =
    let last : SessionNo = record { 0 = suc n } in
    ap (λ (xs : List B). slice_index_or xs i d) (map-append f (sessions_to n) (last ∷ []))
    ∙ at-side f n i d (f last) (ap f (number-next n)) (λ less. listed-at f n i d less) (last-or-before i n below)

-- a list over all sessions, told by its length and its items
pub listed : {B : Type 0} (f : SessionNo → B) (xs : List B) (n : ℕ) (d : B) → length xs ≡ n → AllNumbered (λ i x. x ≡ f (number i)) xs
    → xs ≡ map f (sessions_to n)
listed f xs n d count each =
    ext_get_or d xs (map f (sessions_to n)) (count ∙ sym (length-listed f n)) (λ i below. each i d below ∙ sym (listed-at f n i d (rw count at below)))

pub each-listed : {B : Type 0} (f : SessionNo → B) (xs : List B) (n : ℕ) → xs ≡ map f (sessions_to n)
    → (length xs ≡ n) × AllNumbered (λ i x. x ≡ f (number i)) xs
each-listed {B} f xs n is = (
  ap length is ∙ length-listed f n,
  λ i d below. ap (λ (ys : List B). slice_index_or ys i d) is ∙ listed-at f n i d (rw (ap length is ∙ length-listed f n) at below),
)

-- before the first begin nothing is shown
pub nothing-shown : (setup : Setup) (states : List (Option Tree)) → length states ≡ setup.sessions → All (λ state. state ≡ None) states
    → states ≡ shown_states setup []
nothing-shown setup states count none = listed (shown setup []) states setup.sessions None count (λ i d below. none i d below)
