-- How many of some actors do something.
use Rattle.std.proofs.Common.{◌≡◌, ℕ, zero, suc, ◌+◌, ◌≤◌, Bool, true, false, List, [], ◌∷◌, ◌++◌, refl, ap, ◌∙◌, arith}
use Rattle.std.specs.Prelude.{◌==◌, ⊤, replicate}
use Rattle.std.specs.List.{All}
use Rattle.std.proofs.lemmas.List.Elements.{All-nil, All-cons, All-head, All-tail, All-append}
use Rattle.flat_waits.specs.Stuck.{Doing}
use Rattle.flat_waits.specs.Stuck.Doing.{Acts, Counts, Reads, Finds, Waits, Gone}

-- one more, or not
abbrev pub also : Bool → ℕ → ℕ
also true n = suc n
also false n = n

-- how many of some actors do something
abbrev pub count : (Doing → Bool) → List Doing → ℕ
count p [] = 0
count p (d ∷ ds) = also (p d) (count p ds)

pub also-append : (b : Bool) (n m k : ℕ) → n ≡ m + k → also b n ≡ also b m + k
also-append true n m k e = omega (arith, e)
also-append false n m k e = e

pub count-append : (p : Doing → Bool) (xs ys : List Doing) → count p (xs ++ ys) ≡ count p xs + count p ys
count-append p [] ys = omega arith
count-append p (x ∷ xs) ys = also-append (p x) _ _ _ (count-append p xs ys)

pub count-none : (p : Doing → Bool) (n : ℕ) (d : Doing) → p d ≡ false → count p (replicate n d) ≡ 0
count-none p zero d e = refl
count-none p (suc n) d e = ap (λ b. also b (count p (replicate n d))) e ∙ count-none p n d e

pub count-all : (p : Doing → Bool) (n : ℕ) (d : Doing) → p d ≡ true → count p (replicate n d) ≡ n
count-all p zero d e = refl
count-all p (suc n) d e = ap (λ b. also b (count p (replicate n d))) e ∙ ap (λ m. suc m) (count-all p n d e)

module _ (P : Doing → Type 0) where
  pub front : (xs ys : List Doing) → All P (xs ++ ys) → All P xs
  front [] ys h = All-nil P
  front (x ∷ xs) ys h = All-cons P x xs (All-head P x (xs ++ ys) h) (front xs ys (All-tail P x (xs ++ ys) h))

  pub back : (xs ys : List Doing) → All P (xs ++ ys) → All P ys
  back [] ys h = h
  back (x ∷ xs) ys h = back xs ys (All-tail P x (xs ++ ys) h)

-- whether an actor may still enter something
abbrev pub acts : Doing → Bool
acts Gone = false
acts doing = true

-- whether it made an entry that it hasn't counted
abbrev pub owes : Doing → Bool
owes Counts = true
owes doing = false

-- whether it counted itself at this news
abbrev pub waits_at : ℕ → Doing → Bool
waits_at now (Waits news seen) = news == now
waits_at now doing = false

-- whether it may still enter something, and hasn't counted itself at this news
abbrev pub IsStill : ℕ → Doing → Type 0
IsStill now (Waits news seen) = (news == now) ≡ true
IsStill now Gone = ⊤
IsStill now doing = false ≡ true

pub fewer : (now : ℕ) (ds : List Doing) → count (waits_at now) ds ≤ count acts ds
fewer now [] = omega arith
fewer now (Acts ∷ ds) = let later = fewer now ds in omega (arith, later)
fewer now (Counts ∷ ds) = let later = fewer now ds in omega (arith, later)
fewer now (Reads news ∷ ds) = let later = fewer now ds in omega (arith, later)
fewer now (Finds news seen ∷ ds) = let later = fewer now ds in omega (arith, later)
fewer now (Gone ∷ ds) = fewer now ds
fewer now (Waits news seen ∷ ds) = by (news == now) (fewer now ds)
  where
    by : (b : Bool) → count (waits_at now) ds ≤ count acts ds → also b (count (waits_at now) ds) ≤ suc (count acts ds)
    by true later = omega (arith, later)
    by false later = omega (arith, later)

-- where all who may enter something have counted themselves at this news, each of them has
pub all-still : (now : ℕ) (ds : List Doing) → count acts ds ≤ count (waits_at now) ds → All (IsStill now) ds
all-still now [] h = All-nil (IsStill now)
all-still now (Acts ∷ ds) h = let few = fewer now ds in absurd (omega (arith, h, few))
all-still now (Counts ∷ ds) h = let few = fewer now ds in absurd (omega (arith, h, few))
all-still now (Reads news ∷ ds) h = let few = fewer now ds in absurd (omega (arith, h, few))
all-still now (Finds news seen ∷ ds) h = let few = fewer now ds in absurd (omega (arith, h, few))
all-still now (Gone ∷ ds) h = All-cons (IsStill now) Gone ds tt (all-still now ds h)
all-still now (Waits news seen ∷ ds) h =
    let parts = by (news == now) refl h (fewer now ds) in
    All-cons (IsStill now) (Waits news seen) ds parts.0 (all-still now ds parts.1)
  where
    by : (b : Bool) → (news == now) ≡ b → suc (count acts ds) ≤ also b (count (waits_at now) ds) → count (waits_at now) ds ≤ count acts ds
        → ((news == now) ≡ true) × (count acts ds ≤ count (waits_at now) ds)
    by true e h few = (e, omega (arith, h))
    by false e h few = absurd (omega (arith, h, few))

-- then none owes an entry
pub none-owes : (now : ℕ) (ds : List Doing) → All (IsStill now) ds → count owes ds ≡ 0
none-owes now [] h = refl
none-owes now (Counts ∷ ds) h = absurd (let no = All-head (IsStill now) Counts ds h in cc)
none-owes now (Acts ∷ ds) h = none-owes now ds (All-tail (IsStill now) Acts ds h)
none-owes now (Reads news ∷ ds) h = none-owes now ds (All-tail (IsStill now) (Reads news) ds h)
none-owes now (Finds news seen ∷ ds) h = none-owes now ds (All-tail (IsStill now) (Finds news seen) ds h)
none-owes now (Waits news seen ∷ ds) h = none-owes now ds (All-tail (IsStill now) (Waits news seen) ds h)
none-owes now (Gone ∷ ds) h = none-owes now ds (All-tail (IsStill now) Gone ds h)
