-- The seats of a new lock, and the seats that are put together.
use Rattle.std.proofs.Common.{◌≡◌, ◌≢◌, ℕ, ◌+◌, ◌<◌, List, [], ◌∷◌, ◌++◌, length, set, map, drop, sym, refl, ap, subst, ◌∙◌, arith, Option, Some, None, true}
use Rattle.std.proofs.Common.{length-set, length-append, zero, suc, append_assoc, append-nil, le_refl}
use Rattle.std.proofs.lemmas.List.{drop_all}
use Rattle.std.specs.Prelude.{slice_get}
use Rattle.std.proofs.Math.Seq.{drop-append_seam}
use mathlib.Core.Logic.{dite}
use native.Mathlib.Decide.{ℕ_discrete}
use Rattle.atomic_table.specs.Table.{Me}
use Rattle.atomic_table.specs.Seated.{TableId}
use Rattle.flat_lock.specs.declared.view.View.{View}
use Rattle.flat_lock.specs.Seats.{LockView, SeatView, new_seat, AreNew, AreInOrder, BelongsAt, all_home}
use Rattle.flat_lock.specs.Steps.{joining}
use Rattle.flat_lock.specs.Places.{left_by, seat_view}
use Rattle.flat_lock.proofs.AtHome.{some-injective, home_after}

module _ {X : Type 0} where
  got_at : (l : List X) (x : X) (r : List X) → slice_get (l ++ x ∷ r) (length l) ≡ Some x
  got_at [] x r = refl
  got_at (y ∷ l) x r = got_at l x r

  got_before : (l : List X) (r : List X) (i : ℕ) → i < length l → slice_get (l ++ r) i ≡ slice_get l i
  got_before [] r i less = absurd (omega arith)
  got_before (y ∷ l) r zero less = refl
  got_before (y ∷ l) r (suc i) less = got_before l r i (omega arith)

  got_else : (l : List X) (i j : ℕ) (a : X) → j ≢ i → slice_get (set l i a) j ≡ slice_get l j
  got_else [] i j a apart = refl
  got_else (x ∷ xs) zero zero a apart = absurd (apart refl)
  got_else (x ∷ xs) zero (suc j) a apart = refl
  got_else (x ∷ xs) (suc i) zero a apart = refl
  got_else (x ∷ xs) (suc i) (suc j) a apart = got_else xs i j a (λ e. apart (ap suc e))

  got_first : (l : List X) (a : X) → 0 < length l → slice_get (set l 0 a) 0 ≡ Some a
  got_first [] a some = absurd (omega arith)
  got_first (x ∷ xs) a some = refl

  -- nothing was popped yet
  pub whole_left : (l : List X) → l ≡ l ++ drop (length l) l
  whole_left l = sym (ap (λ (z : List X). l ++ z) (drop_all (length l) l (le_refl (length l))) ∙ append-nil l)

  -- the last one of what is left is the next one of what was popped
  pub popped : (all left front : List X) (x : X) → all ≡ left ++ drop (length left) all → left ≡ front ++ x ∷ []
      → (all ≡ front ++ drop (length front) all) × (drop (length front) all ≡ x ∷ drop (length left) all) × (slice_get all (length front) ≡ Some x)
      × (length front < length all) × (length left ≡ length front + 1)
  popped all left front x e is =
      let rest : List X = drop (length left) all in
      let whole : all ≡ front ++ (x ∷ rest) = e ∙ (ap (λ (z : List X). z ++ rest) is ∙ append_assoc front (x ∷ []) rest) in
      let cut : drop (length front) all ≡ x ∷ rest = ap (λ (z : List X). drop (length front) z) whole ∙ drop-append_seam front (x ∷ rest) in
      let wide : length all ≡ length front + suc (length rest) = ap (λ (z : List X). length z) whole ∙ length-append front (x ∷ rest) in (
        whole ∙ ap (λ (z : List X). front ++ z) (sym cut),
        cut,
        ap (λ (z : List X). slice_get z (length front)) whole
            ∙ got_at front x rest,
        omega arith,
        ap (λ (z : List X). length z) is ∙ length-append front (x ∷ []),
      )

abbrev Homes : Type 0 → Type 0 → Type 0
Homes E F = List (Option (SeatView E F))

abbrev M : Type 0 → Type 0 → Type 0 → Type 0
M T E F = Me (Option T) (View E F)

module _ {E F : Type 0} where
  -- one more seat was made
  pub made_longer : (seats seats' : Homes E F) (n : ℕ) (lock : LockView F) (seat : Option (SeatView E F)) → seats' ≡ seats ++ seat ∷ [] → length seats ≡ n
      → ((i : ℕ) → 0 < i → i < n → slice_get seats i ≡ Some (Some (new_seat lock i))) → seat ≡ Some (new_seat lock n)
      → (i : ℕ) → 0 < i → i < n + 1 → slice_get seats' i ≡ Some (Some (new_seat lock i))
  made_longer seats seats' n lock seat e long made is i after less = ap (λ (l : Homes E F). slice_get l i) e ∙ dite (ℕ_discrete i n)
      (λ same. ap (λ (k : ℕ). slice_get (seats ++ seat ∷ []) k) (same ∙ sym long)
      ∙ (got_at seats seat [] ∙ (ap Some is ∙ ap (λ (k : ℕ). Some (Some (new_seat lock k))) (sym same))))
      (λ other. got_before seats (seat ∷ []) i (omega arith) ∙ made i after (omega arith))

  -- all were made, and the first one last
  pub all_made : (seats : Homes E F) (lock : LockView F) (seat : Option (SeatView E F)) → length seats ≡ lock.seats → 0 < lock.seats
      → ((i : ℕ) → 0 < i → i < lock.seats → slice_get seats i ≡ Some (Some (new_seat lock i))) → seat ≡ Some (new_seat lock 0) → AreNew lock (set seats 0 seat)
  all_made seats lock seat long some_seat made is = record {
    wide = length-set seats 0 seat ∙ long;
    each = elim [
      | zero ↦ λ less. got_first seats seat (omega arith) ∙ ap Some is
      | suc i ↦ λ less. got_else seats 0 (suc i) seat (λ e. omega arith) ∙ made (suc i) (omega arith) less
    ];
  }

  -- the last seat but the first is at home
  last_home : (lock : LockView F) (all left front : Homes E F) (home : Option (SeatView E F)) → AreInOrder lock all → all_home (drop 1 all) ≡ true
      → all ≡ left ++ drop (length left) all → left ≡ front ++ home ∷ []
      → 1 < length left → (s : SeatView E F) × (home ≡ Some s) × BelongsAt lock (length front) s
  last_home lock all left front home order here e is more =
      let cut = popped all left front home e is in
      let wide : length left ≡ length front + 1 = cut.4 in
      let found = home_after all here (length front) (omega arith) cut.3 in
      (found.0, some-injective home (Some found.0) (sym cut.2 ∙ found.1), order.each (length front) found.0 found.1)

  pub last_belongs : (lock : LockView F) (all left front : Homes E F) (home : Option (SeatView E F)) (last : SeatView E F) → AreInOrder lock all
      → all_home (drop 1 all) ≡ true → all ≡ left ++ drop (length left) all → left ≡ front ++ home ∷ []
      → 1 < length left → home ≡ Some last → BelongsAt lock (length front) last
  last_belongs lock all left front home last order here e is more found =
      let h = last_home lock all left front home order here e is more in
      subst (BelongsAt lock (length front)) (some-injective h.0 last (sym h.1 ∙ found)) h.2

  pub last_missing : (lock : LockView F) (all left front : Homes E F) (home : Option (SeatView E F)) → AreInOrder lock all → all_home (drop 1 all) ≡ true
      → all ≡ left ++ drop (length left) all → left ≡ front ++ home ∷ []
      → 1 < length left → home ≡ None → ⊥
  last_missing lock all left front home order here e is more away =
      let h = last_home lock all left front home order here e is more in let both : None ≡ Some h.0 = sym away ∙ h.1 in cc

module _ {T E F : Type 0} where
  -- the view of the keeper that has these seats joined
  abbrev pub keeping : M T E F → Homes E F → M T E F
  keeping was gone = (record was.0 { ended = map left_by gone }, [])

  -- none was joined yet
  pub keeps_none : (m : M T E F) (gone : Homes E F) → m.1 ≡ [] → m.0.ended ≡ [] → gone ≡ [] → m ≡ keeping m gone
  keeps_none m gone carried ended none = λ i. (record m.0 { ended = (ended ∙ ap (λ (z : Homes E F). map left_by z) (sym none)) i }, carried i)

  -- one more was joined
  pub keeps_more : (m was m' w : M T E F) (table : TableId) (s : SeatView E F) (gone gone' : Homes E F) → m ≡ keeping was gone → m' ≡ (joining m.0 w.0, m.1)
      → seat_view table w.0 ≡ s → gone' ≡ Some s ∷ gone → m' ≡ keeping was gone'
  keeps_more m was m' w table s gone gone' kept joined view more =
      joined ∙ (ap (λ (z : M T E F). let r : M T E F = (joining z.0 w.0, z.1) in r) kept
      ∙ (ap (λ (z : SeatView E F). let r : M T E F = (record was.0 { ended = left_by (Some z) ∷ map left_by gone }, []) in r) view
      ∙ ap (λ (z : Homes E F). keeping was z) (sym more)))
