-- Seats in a line.
use Rattle.std.proofs.Common.{◌≡◌, ◌≢◌, ℕ, ◌+◌, ◌%◌, ◌^◌, ◌<◌, ◌≤◌, eqb, cond, List, [], ◌∷◌, ◌++◌, set, sym, refl, ap, ◌∙◌, subst, ⊎_elim, arith, eq-eqb}
use Rattle.std.proofs.Common.{ne_eqb, zero, suc}
use mathlib.Core.Option.{some, some-ne-none, some-injective}
use lib.ListN.{get_elem?}
use Rattle.atomic_table.proofs.Lists.{at_set, one_turn}
use Rattle.flat_lock.specs.declared.view.View.{View}
use Rattle.flat_lock.specs.declared.view_parts.SeatAction.{SeatAction}
use Rattle.flat_lock.specs.declared.view_parts.SeatAction.TheVariants.{Idle, Waits, Holds, Note}
use Rattle.flat_lock.specs.Rule.{tickets_in, seats_in, total, HasTicket, HasSeenAll}

-- f, which is x at k
abbrev pub updated : (ℕ → ℕ) → ℕ → ℕ → ℕ → ℕ
updated f k x n = cond (eqb n k) x (f n)

pub updated-same : (f : ℕ → ℕ) (k x : ℕ) → updated f k x k ≡ x
updated-same f k x = ap (λ b. cond b x (f k)) (eq-eqb k k refl)

pub updated-other : (f : ℕ → ℕ) (k x n : ℕ) → n ≢ k → updated f k x n ≡ f n
updated-other f k x n h = ap (λ b. cond b x (f n)) (ne_eqb n k h)

-- a ticket that another draws changes nothing for a seat
pub others_wait : (drawn served id j : ℕ) (ticket : ℕ → ℕ) (t : SeatAction) → HasTicket drawn served ticket j t
    → HasTicket (drawn + 1) served (updated ticket drawn id) j t
others_wait drawn served id j ticket Idle h = tt
others_wait drawn served id j ticket (Waits n) h = let l : n < drawn = h.1 in (h.0, omega arith, updated-other ticket drawn id n (λ e. omega arith) ∙ h.2)
others_wait drawn served id j ticket (Holds n) h = let l : n < drawn = h.1 in (h.0, omega arith, updated-other ticket drawn id n (λ e. omega arith) ∙ h.2)
others_wait drawn served id j ticket Note h = tt

-- nor does the end of another's turn
pub others_served : {E : Type 0} (drawn served id j : ℕ) (ticket : ℕ → ℕ) (log log' seen : List E) (t : SeatAction) → j ≢ id → ticket served ≡ id
    → HasTicket drawn served ticket j t
    → HasTicket drawn (served + 1) ticket j t × HasSeenAll log' seen t
others_served drawn served id j ticket log log' seen Idle other at h = (tt, tt)
others_served drawn served id j ticket log log' seen (Waits n) other at h = let l : served ≤ n = h.0 in let not : n ≢ served =
    λ e. other (sym h.2 ∙ (ap ticket e ∙ at)) in ((omega arith, h.1, h.2), tt)
others_served drawn served id j ticket log log' seen (Holds n) other at h = absurd (other (sym h.2 ∙ (ap ticket h.0 ∙ at)))
others_served drawn served id j ticket log log' seen Note other at h = (tt, tt)

-- what has a ticket is a seat
with_ticket : (t : SeatAction) → tickets_in t ≤ seats_in t
with_ticket Idle = omega arith
with_ticket (Waits n) = omega arith
with_ticket (Holds n) = omega arith
with_ticket Note = omega arith

module _ {E F : Type 0} where
  -- one view is counted anew
  pub total-set : (count : SeatAction → ℕ) (vs : List (View E F)) (i : ℕ) (v w : View E F) → get_elem? vs i ≡ some v
      → total count (set vs i w) + count v.turn ≡ total count vs + count w.turn
  total-set count [] i v w e = absurd (some-ne-none v (sym e))
  total-set count (x ∷ xs) zero v w e = let a : ℕ = count x.turn in let b : ℕ = count v.turn in let c : ℕ = count w.turn in let d : ℕ = total count xs in
      let same : a ≡ b = ap (λ (z : View E F). count z.turn) (some-injective x v e) in
      let goal : (c + d) + b ≡ (a + d) + c = omega arith in goal
  total-set count (x ∷ xs) (suc i) v w e = let a : ℕ = count x.turn in let b : ℕ = count v.turn in let c : ℕ = count w.turn in let d : ℕ =
      total count xs in let f : ℕ = total count (set xs i w) in
      let h : f + b ≡ d + c = total-set count xs i v w e in let goal : (a + f) + b ≡ (a + d) + c = omega arith in goal

  -- nothing changes where its turn stays
  pub total-same : (count : SeatAction → ℕ) (vs : List (View E F)) (i : ℕ) (v w : View E F) → get_elem? vs i ≡ some v → count w.turn ≡ count v.turn
      → total count (set vs i w) ≡ total count vs
  total-same count vs i v w e same = let a : ℕ = count v.turn in let b : ℕ = count w.turn in let c : ℕ = total count vs in let d : ℕ =
      total count (set vs i w) in
      let h : d + a ≡ c + b = total-set count vs i v w e in let s : b ≡ a = same in let goal : d ≡ c = omega arith in goal

  -- one more view is counted
  pub total-snoc : (count : SeatAction → ℕ) (vs : List (View E F)) (w : View E F) → total count (vs ++ w ∷ []) ≡ total count vs + count w.turn
  total-snoc count [] w = let a : ℕ = count w.turn in let goal : a + 0 ≡ 0 + a = omega arith in goal
  total-snoc count (x ∷ xs) w = let a : ℕ = count x.turn in let b : ℕ = total count xs in let c : ℕ = count w.turn in let d : ℕ = total count (xs ++ w ∷ []) in
      let h : d ≡ b + c = total-snoc count xs w in let goal : a + d ≡ (a + b) + c = omega arith in goal

  -- no more tickets are out than there are seats
  pub tickets-le : (vs : List (View E F)) → total tickets_in vs ≤ total seats_in vs
  tickets-le [] = omega arith
  tickets-le (x ∷ xs) = let a : ℕ = tickets_in x.turn in let b : ℕ = seats_in x.turn in let c : ℕ = total tickets_in xs in let d : ℕ = total seats_in xs in
      let h : a ≤ b = with_ticket x.turn in let l : c ≤ d = tickets-le xs in
      let goal : a + c ≤ b + d = omega arith in goal

  pub set_there : (vs : List (View E F)) (i : ℕ) (v w : View E F) → get_elem? vs i ≡ some v → get_elem? (set vs i w) i ≡ some w
  set_there [] i v w e = absurd (some-ne-none v (sym e))
  set_there (x ∷ xs) zero v w e = refl
  set_there (x ∷ xs) (suc i) v w e = set_there xs i v w e

  pub seats_stay : (K : ℕ → View E F → Type 0) (vs : List (View E F)) (me : ℕ) (w : View E F) → K me w
      → ((j : ℕ) (v : View E F) → j ≢ me → get_elem? vs j ≡ some v → K j v)
      → (j : ℕ) (v : View E F) → get_elem? (set vs me w) j ≡ some v → K j v
  seats_stay K vs me w mine others j v e = ⊎_elim (λ (t : (j ≡ me) × (w ≡ v)). subst (λ (x : ℕ × View E F). K x.0 x.1) (λ i. (sym t.0 i, t.1 i)) mine)
      (λ (t : (j ≢ me) × (get_elem? vs j ≡ some v)). others j v t.0 t.1) (at_set vs me j w v e)

-- the ticket that is served, by its remainder
pub is_served : (drawn served n : ℕ) → served ≤ n → n < drawn → drawn < served + 2 ^ 64 → served % 2 ^ 64 ≡ n % 2 ^ 64 → n ≡ served
is_served drawn served n le lt few e = sym (one_turn served n (2 ^ 64) le (omega arith) e)
