-- Seats at home.
use Rattle.std.proofs.Common.{◌≡◌, ℕ, ◌<◌, List, [], ◌∷◌, get_or, set, drop, length, sym, refl, ap, ◌∙◌, subst, ⊎_elim, ◌⊎◌, inl, inr, Option, Some, None, true}
use Rattle.std.proofs.Common.{false, length-set, zero, suc, arith}
use Rattle.std.specs.Prelude.{slice_get, IfSome, IfNone}
use Rattle.std.proofs.lemmas.List.{set-get_or}
use Rattle.flat_lock.specs.Seats.{LockView, SeatView, SeatsView, BelongsAt, AreInOrder, all_home}

module _ {X : Type 0} where
  pub some-injective : (x y : X) → Some x ≡ Some y → x ≡ y
  some-injective x y e = cc

  -- what stands at j after a write at i
  got_set : (l : List X) (i j : ℕ) (a b : X) → slice_get (set l i a) j ≡ Some b → ((j ≡ i) × (a ≡ b)) ⊎ (slice_get l j ≡ Some b)
  got_set [] i j a b e = inr e
  got_set (x ∷ xs) zero zero a b e = inl (refl, some-injective a b e)
  got_set (x ∷ xs) zero (suc j) a b e = inr e
  got_set (x ∷ xs) (suc i) zero a b e = inr e
  got_set (x ∷ xs) (suc i) (suc j) a b e = ⊎_elim (λ t. inl (ap suc t.0, t.1)) (λ t. inr t) (got_set xs i j a b e)

  -- what is found with a default is there
  got_found : (l : List (Option X)) (i : ℕ) (x : X) → get_or l i None ≡ Some x → slice_get l i ≡ Some (Some x)
  got_found [] i x e = absurd (let f : None ≡ Some x = e in cc)
  got_found (y ∷ ys) zero x e = ap Some e
  got_found (y ∷ ys) (suc i) x e = got_found ys i x e

module _ {E F : Type 0} where
  abbrev with_seats : LockView F → List (Option (SeatView E F)) → SeatsView E F
  with_seats lock seats = record { lock = lock; seats = seats }

  -- the seats after a change at one place
  pub seats_with : (lock : LockView F) (seats : List (Option (SeatView E F))) (i : ℕ) (after home : Option (SeatView E F)) → after ≡ home
      → with_seats lock (set seats i after) ≡ with_seats lock (set seats i home)
  seats_with lock seats i after home e = ap (λ (o : Option (SeatView E F)). with_seats lock (set seats i o)) e

  -- where no seat was at home, nothing changes
  pub none_taken : (lock : LockView F) (seats : List (Option (SeatView E F))) (i : ℕ) (home result after : Option (SeatView E F)) → result ≡ home
      → home ≡ get_or seats i None → after ≡ None
      → IfNone result (with_seats lock (set seats i after) ≡ with_seats lock seats)
  none_taken lock seats i home None after same there away = ap (with_seats lock) (ap (set seats i) (away ∙ same ∙ there) ∙ set-get_or seats i None)
  none_taken lock seats i home (Some s) after same there away = tt

  in_order_set : (lock : LockView F) (seats : List (Option (SeatView E F))) (i : ℕ) (o : Option (SeatView E F)) → AreInOrder lock seats
      → ((s : SeatView E F) → o ≡ Some s → BelongsAt lock i s) → AreInOrder lock (set seats i o)
  in_order_set lock seats i o order new = record {
    wide = length-set seats i o ∙ order.wide;
    some_seat = order.some_seat;
    each = λ j s e. ⊎_elim (λ (t : (j ≡ i) × (o ≡ Some s)). subst (λ (k : ℕ). BelongsAt lock k s) (sym t.0) (new s t.1)) (λ t. order.each j s t)
        (got_set seats i j o (Some s) e);
  }

  -- a seat is taken
  pub in_order_taken : (lock : LockView F) (seats : List (Option (SeatView E F))) (i : ℕ) (o : Option (SeatView E F)) → AreInOrder lock seats → o ≡ None
      → AreInOrder lock (set seats i o)
  in_order_taken lock seats i o order away = in_order_set lock seats i o order (λ s e. absurd (let f : None ≡ Some s = sym away ∙ e in cc))

  -- a seat is put back
  pub in_order_put : (lock : LockView F) (seats : List (Option (SeatView E F))) (i : ℕ) (s : SeatView E F) → AreInOrder lock seats → s.lock ≡ lock
      → s.has_turn ≡ false → i ≡ s.actor
      → AreInOrder lock (set seats i (Some s))
  in_order_put lock seats i s order own resting at =
      in_order_set lock seats i (Some s) order (λ t e. subst (BelongsAt lock i) (some-injective s t e)
      record { of_lock = own; numbered = sym at; resting = resting })

  -- the seat that is found at a place belongs there
  pub belongs_found : (lock : LockView F) (seats : List (Option (SeatView E F))) (i : ℕ) (o : Option (SeatView E F)) → AreInOrder lock seats
      → o ≡ get_or seats i None → IfSome o (BelongsAt lock i)
  belongs_found lock seats i None order e = tt
  belongs_found lock seats i (Some s) order e = order.each i s (got_found seats i s (sym e))

  -- where no seat is away, each place has its seat
  pub home_at : (seats : List (Option (SeatView E F))) → all_home seats ≡ true → (i : ℕ) → i < length seats
      → (s : SeatView E F) × (slice_get seats i ≡ Some (Some s))
  home_at [] home i less = absurd (omega arith)
  home_at (None ∷ xs) home i less = absurd (let f : false ≡ true = home in cc)
  home_at (Some x ∷ xs) home zero less = (x, refl)
  home_at (Some x ∷ xs) home (suc i) less = home_at xs home i (omega arith)

  -- the same from the second seat on
  pub home_after : (seats : List (Option (SeatView E F))) → all_home (drop 1 seats) ≡ true → (i : ℕ) → 0 < i → i < length seats
      → (s : SeatView E F) × (slice_get seats i ≡ Some (Some s))
  home_after [] home i after less = absurd (omega arith)
  home_after (x ∷ xs) home zero after less = absurd (omega arith)
  home_after (x ∷ xs) home (suc i) after less = home_at xs home i (omega arith)

  -- and where the first is away
  pub others_home : (seats : List (Option (SeatView E F))) → all_home seats ≡ true → all_home (drop 1 (set seats 0 None)) ≡ true
  others_home [] home = refl
  others_home (None ∷ xs) home = absurd (let f : false ≡ true = home in cc)
  others_home (Some x ∷ xs) home = home
