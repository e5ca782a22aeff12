-- A lock that is made, and a lock that ends.
use Rattle.std.proofs.Common.{◌≡◌, ℕ, ◌<◌, ◌^◌, List, [], ◌∷◌, length, set, map, drop, sym, ap, ◌∙◌, subst, inl, inr, Option, Some, None, true, zero, suc}
use Rattle.std.proofs.Common.{arith}
use Rattle.std.specs.Prelude.{slice_get}
use Rattle.std.specs.List.{All}
use mathlib.Core.Option.{some}
use mathlib.Core.Option as maybe
use lib.ListN.{get_elem?}
use Rattle.atomic_table.specs.Table.{State, Me, Final, Seen, opening}
use Rattle.atomic_table.specs.Seated.{TableId}
use Rattle.flat_lock.specs.declared.view.View.{View}
use Rattle.flat_lock.specs.History.{StartsWith, entries_of}
use Rattle.flat_lock.specs.Seats.{LockView, SeatView, SeatsView, AreNew, AreInOrder, all_home}
use Rattle.flat_lock.specs.Rule.{LockRule}
use Rattle.flat_lock.specs.Steps.{first_view}
use Rattle.flat_lock.specs.Places.{IsSeat, lock_seen, seat_view, left_by}
use Rattle.flat_lock.proofs.AtHome.{some-injective, home_at}
use Rattle.flat_lock.proofs.Held.{at_home}
use Rattle.flat_lock.proofs.Seating.{IsLast, closes, opens}

module _ {E F : Type 0} where
  within : (l : List (Option (SeatView E F))) (i : ℕ) (a : Option (SeatView E F)) → slice_get l i ≡ Some a → i < length l
  within [] i a e = absurd (let f : None ≡ Some a = e in cc)
  within (x ∷ xs) zero a e = omega arith
  within (x ∷ xs) (suc i) a e = let less = within xs i a e in omega arith

  -- new seats are in order
  pub in_order_new : (lock : LockView F) (seats : List (Option (SeatView E F))) → AreNew lock seats → 0 < lock.seats → AreInOrder lock seats
  in_order_new lock seats new some_seat = record {
    wide = new.wide;
    some_seat = some_seat;
    each = λ i s e.
        let wide : length seats ≡ lock.seats = new.wide in
        let less : i < length seats = within seats i (Some s) e in
        let both = sym (new.each i (omega arith)) ∙ e in
        let is = some-injective _ s (some-injective _ (Some s) both) in
        record { of_lock = sym (ap (λ z. z.lock) is); numbered = sym (ap (λ z. z.actor) is); resting = sym (ap (λ z. z.has_turn) is) };
  }

  mapped_at : (xs : List (Option (SeatView E F))) (k : ℕ) (s : SeatView E F) → slice_get xs k ≡ Some (Some s)
      → get_elem? (map left_by xs) k ≡ some (left_by (Some s))
  mapped_at [] k s e = absurd (let f : None ≡ Some (Some s) = e in cc)
  mapped_at (x ∷ xs) zero s e = ap (λ (z : Option (SeatView E F)). some (left_by z)) (some-injective x (Some s) e)
  mapped_at (x ∷ xs) (suc k) s e = mapped_at xs k s e

  -- what the seats but the first have left
  left_at : (seats : List (Option (SeatView E F))) (k : ℕ) (s : SeatView E F) → slice_get seats (suc k) ≡ Some (Some s)
      → get_elem? (map left_by (drop 1 (set seats 0 None))) k ≡ some (left_by (Some s))
  left_at [] k s e = absurd (let f : None ≡ Some (Some s) = e in cc)
  left_at (x ∷ xs) k s e = mapped_at xs k s e

module _ {T E F : Type 0} (history : T → List E) (actor : E → ℕ) (fixed : T → F) where
  abbrev Rule : State (Option T) (View E F) → Type 0
  Rule = LockRule history actor fixed

  -- what a new lock's slot has
  pub opens_with : (x y : T) (n : ℕ) (items : List (Option T)) → items ≡ Some x ∷ [] → y ≡ x → history x ≡ [] → 0 < n → n < 2 ^ 32
      → Rule (opening (0 ∷ 0 ∷ []) items (first_view (Some (fixed y)) n))
  opens_with x y n items e same empty some_seat few =
      subst (λ (z : List (Option T) × T). Rule (opening (0 ∷ 0 ∷ []) z.0 (first_view (Some (fixed z.1)) n))) (λ i. (sym e i, sym same i))
      (opens history actor fixed x n empty some_seat few)

  -- what the value of a lock is whose seats were all at home
  pub record IsWhole (lock : LockView F) (seats : List (Option (SeatView E F))) (x : T) : Type 0 where
    pub each : (i : ℕ) (s : SeatView E F) → slice_get seats i ≡ Some (Some s) → StartsWith (history x) s.seen × (s.mine ≡ entries_of actor i (history x))
    pub others : All (λ e. actor e < lock.seats) (history x)
    pub fixed_is : Some (fixed x) ≡ lock.fixed

  -- The value that the first seat finds, when it has joined the others.
  pub closing : {place : ℕ} {m : Me (Option T) (View E F)} (table : TableId) (id : ℕ) (v : View E F) (first : SeatView E F) (lock : LockView F)
      (seats : List (Option (SeatView E F))) (ws : List ℕ) (xs : List (Option T))
      → AreInOrder lock seats → all_home seats ≡ true → slice_get seats 0 ≡ Some (Some first) → IsSeat place m → seat_view table m.0 ≡ first
      → v ≡ record m.0 { ended = map left_by (drop 1 (set seats 0 None)) } → Final (Seen Rule id v) ws xs
      → (x : T) × (get_elem? xs 0 ≡ some (Some x)) × IsWhole lock seats x
  closing {place} {m} table id v first lock seats ws xs order home found seat view is final =
      let belongs = order.each 0 first found in
      let number : v.actor ≡ 0 = ap (λ (z : View E F). z.actor) is ∙ (ap (λ (z : SeatView E F). z.actor) view ∙ belongs.numbered) in
      let rests = at_home table lock 0 first seat view belongs in
      let of_lock : lock_seen table m.0 ≡ lock = rests.0 in
      let counted : v.seats ≡ lock.seats = ap (λ (z : View E F). z.seats) is ∙ ap (λ (z : LockView F). z.seats) of_lock in
      let wide : length seats ≡ lock.seats = order.wide in
      let ended : (k : ℕ) (s : SeatView E F) → slice_get seats (suc k) ≡ Some (Some s) → get_elem? v.ended k ≡ some (left_by (Some s)) =
      λ k s e. ap (λ (z : View E F). get_elem? z.ended k) is ∙ left_at seats k s e in
      let last : IsLast history actor fixed v = elim [
        | zero ↦ λ less. inl (sym number)
        | suc k ↦ λ less. let t = home_at seats home (suc k) (omega arith) in
            inr (k, left_by (Some t.0), ended k t.0 t.1, (order.each (suc k) t.0 t.1).numbered)
      ] in
      let c = closes history actor fixed id v ws xs (ap (λ (z : View E F). z.turn) is ∙ rests.1.0) last final in
      let x : T = c.0 in
      let learns = c.2 in
      let Of : ℕ → SeatView E F → Type 0 = λ i s. StartsWith (history x) s.seen × (s.mine ≡ entries_of actor i (history x)) in
      let mine : v.mine ≡ first.mine = ap (λ (z : View E F). z.mine) is ∙ ap (λ (z : SeatView E F). z.mine) view in
      let seen : v.seen ≡ first.seen = ap (λ (z : View E F). z.seen) is ∙ ap (λ (z : SeatView E F). z.seen) view in
      let constant : v.fixed ≡ lock.fixed = ap (λ (z : View E F). z.fixed) is ∙ ap (λ (z : LockView F). z.fixed) of_lock in (
        x,
        c.1,
        record {
          each = elim [
            | zero ↦ λ s e. subst (Of 0) (some-injective first s (some-injective (Some first) (Some s) (sym found ∙ e))) (
              subst (λ (l : List E). StartsWith (history x) l) seen learns.longer,
              sym mine
                  ∙ (learns.own ∙ ap (λ (k : ℕ). entries_of actor k (history x)) number),
            )
            | suc k ↦ λ s e. let left = c.3 k (left_by (Some s)) (ended k s e) in
                (left.0, left.1 ∙ ap (λ (z : ℕ). entries_of actor z (history x)) (order.each (suc k) s e).numbered)
          ];
          others = subst (λ (n : ℕ). All (λ e. actor e < n) (history x)) counted learns.others;
          fixed_is = sym learns.fixed ∙ constant;
        },
      )

  -- The same for what is found in the slot, and the seats as the lock's caller sees them.
  pub closed : {place : ℕ} {m : Me (Option T) (View E F)} (table : TableId) (id : ℕ) (keeper : Me (Option T) (View E F)) (first : SeatView E F)
      (lock : LockView F) (seats others : SeatsView E F) (ws : List ℕ) (xs : List (Option T)) (found : Option T)
      → seats.lock ≡ lock → AreInOrder seats.lock seats.seats → all_home seats.seats ≡ true → slice_get seats.seats 0 ≡ Some (Some first)
      → others ≡ record seats { seats = set seats.seats 0 None }
      → IsSeat place m → seat_view table m.0 ≡ first → keeper ≡ (record m.0 { ended = map left_by (drop 1 others.seats) }, [])
      → Final (Seen Rule id keeper.0) ws xs → get_elem? xs 0 ≡ some found
      → (x : T) × (found ≡ Some x) × IsWhole lock seats.seats x
  closed {place} {m} table id keeper first lock seats others ws xs found own order home first_is away seat view joined final at =
      let is : keeper.0 ≡ record m.0 { ended = map left_by (drop 1 (set seats.seats 0 None)) } = ap (λ (z : Me (Option T) (View E F)). z.0) joined
      ∙ ap (λ (z : SeatsView E F). let w : View E F = record m.0 { ended = map left_by (drop 1 z.seats) } in w) away in
      let c = closing table id keeper.0 first lock seats.seats ws xs (subst (λ (z : LockView F). AreInOrder z seats.seats) own order) home first_is seat view is
      final in
      (c.0, maybe.some-injective found (Some c.0) (sym at ∙ c.1), c.2)

  -- what is found is whole
  pub some_whole : (lock : LockView F) (seats : List (Option (SeatView E F))) (found : Option T) (value : T) → found ≡ Some value
      → (x : T) × (found ≡ Some x) × IsWhole lock seats x → IsWhole lock seats value
  some_whole lock seats found value is whole = subst (IsWhole lock seats) (some-injective whole.0 value (sym whole.1 ∙ is)) whole.2

  -- and something is found
  pub none_whole : (lock : LockView F) (seats : List (Option (SeatView E F))) (found : Option T) → found ≡ None
      → (x : T) × (found ≡ Some x) × IsWhole lock seats x → ⊥
  none_whole lock seats found none whole = let both : None ≡ Some whole.0 = sym none ∙ whole.1 in cc
