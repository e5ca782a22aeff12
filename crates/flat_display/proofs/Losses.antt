-- losses: each display once, so there are no more losses than displays
use Rattle.std.proofs.Common.{◌≡◌, ◌≢◌, ℕ, ◌+◌, ◌<◌, ◌≤◌, ◌==◌, ◌||◌, List, [], ◌∷◌, ◌++◌, length, map, true, false, arith, refl, eqb}
use Rattle.std.specs.List.{list_any, IsDistinct, AllByRecursion}
use Rattle.std.proofs.lemmas.List.Folds.{list_any-append}
use Rattle.std.proofs.lemmas.Map.Steps.{length-le_from_distinct_below}
use Rattle.flat_scene.specs.declared.frames.LostDisplay.{LostDisplay}
use Rattle.flat_display.specs.Lost.{is_lost, AreWithin}
use Rattle.flat_display.specs.Shows.{IsOnce}
use Rattle.std.proofs.lemmas.Bool.{or_from}

pub within-more : (n : ℕ) (ls : List LostDisplay) (l : LostDisplay) → AreWithin n ls → 1 ≤ l.display → l.display ≤ n → AreWithin n (ls ++ l ∷ [])
within-more n [] l w low high = (low, high, tt)
within-more n (x ∷ xs) l (low', high', w) low high = (low', high', within-more n xs l w low high)

pub within-append : (n : ℕ) (ls more : List LostDisplay) → AreWithin n ls → AreWithin n more → AreWithin n (ls ++ more)
within-append n [] more w w' = w'
within-append n (x ∷ xs) more (low, high, w) w' = (low, high, within-append n xs more w w')

pub lost-append : (ls more : List LostDisplay) (n : ℕ) → is_lost (ls ++ more) n ≡ (is_lost ls n || is_lost more n)
lost-append ls more n = list_any-append (λ l. l.display == n) ls more

pub not_first : (x : LostDisplay) (xs : List LostDisplay) (n : ℕ) → is_lost (x ∷ xs) n ≡ false → x.display ≢ n
not_first x xs n h = grind arith

pub not_later : (x : LostDisplay) (xs : List LostDisplay) (n : ℕ) → is_lost (x ∷ xs) n ≡ false → is_lost xs n ≡ false
not_later x xs n h = grind arith

not_alone : (l : LostDisplay) (n : ℕ) → n ≢ l.display → is_lost (l ∷ []) n ≡ false
not_alone l n h = grind arith

pub once-more : (ls : List LostDisplay) (l : LostDisplay) → IsOnce ls → is_lost ls l.display ≡ false → IsOnce (ls ++ l ∷ [])
once-more [] l o new = (refl, tt)
once-more (x ∷ xs) l (first, o) new = (
  rw (lost-append xs (l ∷ []) x.display) (or_from _ _ first (not_alone l x.display (not_first x xs l.display new))),
  once-more xs l o (not_later x xs l.display new),
)

-- the numbers of those that are lost
abbrev numbers : List LostDisplay → List ℕ
numbers ls = map (λ l. l.display) ls

all_others : (ls : List LostDisplay) (n : ℕ) → is_lost ls n ≡ false → AllByRecursion (λ m. (n == m) ≡ false) (numbers ls)
all_others [] n h = tt
all_others (x ∷ xs) n h = (grind (arith, not_first x xs n h), all_others xs n (not_later x xs n h))

distinct : (ls : List LostDisplay) → IsOnce ls → IsDistinct eqb (numbers ls)
unfolding IsDistinct
distinct [] o = tt
distinct (x ∷ xs) (first, o) = (all_others xs x.display first, distinct xs o)

no_zero : (d : ℕ) (ls : List LostDisplay) → AreWithin d ls → is_lost ls 0 ≡ false
no_zero d [] w = refl
no_zero d (x ∷ xs) (low, high, w) = grind (arith, no_zero d xs w)

all_below : (d : ℕ) (ls : List LostDisplay) → AreWithin d ls → (q : ℕ) → list_any (eqb q) (numbers ls) ≡ true → q < d + 1
all_below d [] w q h = absurd (grind arith)
all_below d (x ∷ xs) (low, high, w) q h = grind (arith, all_below d xs w q)

all_apart : (d : ℕ) (ls : List LostDisplay) (n : ℕ) → IsOnce ls → AreWithin d ls → is_lost ls n ≡ false → 1 ≤ n → IsDistinct eqb (0 ∷ n ∷ numbers ls)
unfolding IsDistinct
all_apart d ls n o w new low = ((grind arith, all_others ls 0 (no_zero d ls w)), (all_others ls n new, distinct ls o))

all_below_too : (d : ℕ) (ls : List LostDisplay) (n : ℕ) → AreWithin d ls → n ≤ d → (q : ℕ) → list_any (eqb q) (0 ∷ n ∷ numbers ls) ≡ true → q < d + 1
all_below_too d ls n w high q h = grind (arith, all_below d ls w q)

length-map_numbers : (ls : List LostDisplay) → length (numbers ls) ≡ length ls
length-map_numbers [] = refl
length-map_numbers (x ∷ xs) = grind (arith, length-map_numbers xs)

-- While a display isn't lost, there are fewer losses than displays.
pub fewer : (d : ℕ) (ls : List LostDisplay) (n : ℕ) → IsOnce ls → AreWithin d ls → is_lost ls n ≡ false → 1 ≤ n → n ≤ d → length ls < d
fewer d ls n o w new low high = omega (
  arith,
  length-map_numbers ls,
  length-le_from_distinct_below (0 ∷ n ∷ numbers ls) (d + 1) (all_apart d ls n o w new low) (all_below_too d ls n w high),
)
