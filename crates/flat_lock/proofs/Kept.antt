-- Each step of a turn keeps the rule.
use Rattle.std.proofs.Common.{◌≡◌, ◌≢◌, ℕ, ◌+◌, ◌%◌, ◌^◌, ◌≤◌, List, [], ◌∷◌, ◌++◌, length, get_or, set, drop, eqb, sym, refl, ap, ◌∙◌, subst, ⊎_elim, inl, inr}
use Rattle.std.proofs.Common.{arith, Option, Some, None}
use Rattle.std.proofs.Math.Nat.{mod-add-mod}
use mathlib.Core.Logic.{dite}
use mathlib.Core.Option.{none, some, some-injective}
use mathlib.Core.Option as maybe
use native.Mathlib.Decide.{ℕ_discrete}
use lib.ListN.{get_elem?}
use lib.Seq.{set-get_or}
use Rattle.atomic_table.specs.Table.{State, Me, Act, step, keeps, takes, gives, stepped, put_back, rest, Valid, carried_after, Allows}
use Rattle.atomic_table.proofs.Lists.{set_else, set_again, exchanged}
use prog.Atomic.{either}
use Rattle.flat_lock.specs.declared.view.View.{View}
use Rattle.flat_lock.specs.declared.view_parts.SeatAction.TheVariants.{Idle, Waits, Holds}
use Rattle.flat_lock.specs.History.{StartsWith, entries_of, GoesOn}
use Rattle.flat_lock.specs.Rule.{tickets_in, seats_in, total, HasTicket, HasSeenAll, IsLive, IsSound, IsHomeOrHeld, LockRule}
use Rattle.flat_lock.specs.Steps.{Learns, HasEntered, HasTurn, HasLeft, waiting, entering, giving, DrawsTicket, ReadsServing, ServesNext}
use Rattle.flat_lock.proofs.Histories.{begins_itself, entries_of-goes_on, entries_of-others, begins_after, owns-others, all_below}
use Rattle.flat_lock.proofs.Tickets.{updated, updated-same, others_wait, others_served, total-set, total-same, tickets-le, seats_stay, set_there, is_served}

module _ {T E F : Type 0} (history : T → List E) (actor : E → ℕ) (fixed : T → F) where
  abbrev V : Type 0
  V = View E F

  abbrev St : Type 0
  St = State (Option T) V

  abbrev M : Type 0
  M = Me (Option T) V

  abbrev Homes : Type 0
  Homes = List (maybe.Option (Option T))

  abbrev Rule : St → Type 0
  Rule = LockRule history actor fixed

  -- the value in the first slot, or d
  abbrev value_or : T → List (ℕ × Option T) → T
  value_or d [] = d
  value_or d ((k, None) ∷ c) = d
  value_or d ((k, Some x) ∷ c) = x

  -- where the seat that steps hasn't the turn, the value stays where it is
  pub home_stays : (constant : F) (log : List E) (served : ℕ) (vs : List V) (homes : Homes) (id : ℕ) (v w : V) → get_elem? vs id ≡ some v
      → v.turn ≢ Holds served
      → IsHomeOrHeld history actor fixed constant log served vs homes → IsHomeOrHeld history actor fixed constant log served (set vs id w) homes
  home_stays constant log served vs homes id v w at not home = ⊎_elim (λ t. inl t)
      (λ held. let holder : ℕ = held.1.0 in let u : V = held.1.1 in
      let same : holder ≡ id → v ≡ u = λ e. some-injective v u (sym at ∙ (ap (λ (k : ℕ). get_elem? vs k) (sym e) ∙ held.1.2)) in
      let apart : holder ≢ id = λ e. not (ap (λ (z : V). z.turn) (same e) ∙ held.1.3) in
      inr (held.0, (holder, u, set_else vs id holder w apart ∙ held.1.2, held.1.3))) home

  -- a step of the seat id, after which its view is w
  moved : (s : St) (r : Rule s) (log' : List E) (drawn' served' : ℕ) (drawn_by' : ℕ → ℕ) (words' : List ℕ) (homes' : Homes) (id : ℕ) (v w : V)
      → get_elem? s.views id ≡ some v → seats_in w.turn ≡ seats_in v.turn
      → words' ≡ drawn' % 2 ^ 64 ∷ served' % 2 ^ 64 ∷ []
      → total tickets_in (set s.views id w) + served' ≡ drawn'
      → IsHomeOrHeld history actor fixed r.constant log' served' (set s.views id w) homes'
      → IsSound actor r.constant r.seats log' drawn' served' r.handed_out drawn_by' r.owner id w
      → ((j : ℕ) (v : V) → j ≢ id → get_elem? s.views j ≡ some v → IsSound actor r.constant r.seats log' drawn' served' r.handed_out drawn_by' r.owner j v)
      → ((a : ℕ) → r.handed_out ≤ a → entries_of actor a log' ≡ [])
      → Rule record { words = words'; homes = homes'; views = set s.views id w }
  moved s r log' drawn' served' drawn_by' words' homes' id v w at seat words_are queue home own others absent = record {
    constant = r.constant;
    seats = r.seats;
    log = log';
    drawn = drawn';
    served = served';
    handed_out = r.handed_out;
    drawn_by = drawn_by';
    owner = r.owner;
    words_are = words_are;
    queue = queue;
    few_live = subst (λ (n : ℕ). n ≤ r.handed_out) (sym (total-same seats_in s.views id v w at seat)) r.few_live;
    few_handed_out = r.few_handed_out;
    few_seats = r.few_seats;
    home = home;
    each_seat = seats_stay (IsSound actor r.constant r.seats log' drawn' served' r.handed_out drawn_by' r.owner) s.views id w own others;
    others = absent;
  }

  -- a seat that hasn't the turn comes to know something else
  pub settled : (s : St) (r : Rule s) (words' : List ℕ) (id : ℕ) (v w : V) → get_elem? s.views id ≡ some v → w.turn ≡ v.turn → v.turn ≢ Holds r.served
      → words' ≡ s.words
      → IsSound actor r.constant r.seats r.log r.drawn r.served r.handed_out r.drawn_by r.owner id w
      → Rule record { words = words'; homes = s.homes; views = set s.views id w }
  settled s r words' id v w at same not words_stay own =
      let as_many : total tickets_in (set s.views id w) ≡ total tickets_in s.views = total-same tickets_in s.views id v w at (ap tickets_in same) in
      moved s r r.log r.drawn r.served r.drawn_by words' s.homes id v w at (ap seats_in same) (words_stay ∙ r.words_are)
      (ap (λ (n : ℕ). n + r.served) as_many ∙ r.queue)
      (home_stays r.constant r.log r.served s.views s.homes id v w at not r.home) own (λ j u other e. r.each_seat j u e) r.others

  -- a step that changes nothing
  unmoved : (s : St) (r : Rule s) (i id : ℕ) (cs : List (ℕ × Option T)) (v : V) → get_elem? s.views id ≡ some v
      → Rule (stepped s i (get_or s.words i 0) id cs v keeps)
  unmoved s r i id cs v at = subst (λ (x : List ℕ × List V). Rule record { words = x.0; homes = s.homes; views = x.1 })
      (λ k. (sym (set-get_or s.words i 0) k, sym (set_again s.views id v at) k)) r

  module _ (slots id : ℕ) (me : M) where
    -- what a step of the seat comes to, where the word i becomes n
    abbrev Goes : St → ℕ → ℕ → (M → Type 0) → Type 0
    Goes s i n then = (w : V) × (a : Act (Option T)) × Valid s.homes me.1 a × Rule (stepped s i n id me.1 w a) × then (w, carried_after me.1 a)

    pub draws : (k next : ℕ) → next ≡ (k + 1) % 2 ^ 64 → me.0.turn ≡ Idle
        → Allows Rule slots id me 0 (λ n. either (eqb n k) next n) (DrawsTicket (step slots 0 k next none) me)
    draws k next is idle s r _ at small = exchanged (get_or s.words 0 0) k next
        (λ n. Goes s 0 n (DrawsTicket (step slots 0 k next none) me (get_or s.words 0 0)))
        (λ (hit : get_or s.words 0 0 ≡ k).
        let w : V = waiting r.drawn me.0 in
        let found : get_or s.words 0 0 ≡ r.drawn % 2 ^ 64 = ap (λ (l : List ℕ). get_or l 0 0) r.words_are in
        let was = r.each_seat id me.0 at in
        let live : IsLive me.0.turn = subst IsLive (sym idle) tt in
        let before : ℕ = total tickets_in s.views in let after : ℕ = total tickets_in (set s.views id w) in let own : ℕ = tickets_in me.0.turn in
        let queue : before + r.served ≡ r.drawn = r.queue in
        let one_more : after + own ≡ before + 1 = total-set tickets_in s.views id me.0 w at in let no_ticket : own ≡ 0 = ap tickets_in idle in
        let queue' : after + r.served ≡ r.drawn + 1 = omega arith in
        let next_is : next ≡ (get_or s.words 0 0 + 1) % 2 ^ 64 = is ∙ ap (λ (n : ℕ). (n + 1) % 2 ^ 64) (sym hit) in (
          w,
          keeps,
          tt,
          moved s r r.log (r.drawn + 1) r.served (updated r.drawn_by r.drawn id) (set s.words 0 next) s.homes id me.0 w at (sym (ap seats_in idle))
              (ap (λ (n : ℕ). set s.words 0 n) next_is
              ∙ (ap (λ (l : List ℕ). set l 0 ((get_or l 0 0 + 1) % 2 ^ 64)) r.words_are
              ∙ ap (λ (x : ℕ). x ∷ r.served % 2 ^ 64 ∷ []) (mod-add-mod r.drawn (2 ^ 64) 1)))
              queue'
              (home_stays r.constant r.log r.served s.views s.homes id me.0 w at (λ holds. let e : Idle ≡ Holds r.served = sym idle ∙ holds in cc) r.home)
              record {
                seen = was.seen;
                noted = was.noted;
                turn = (omega arith, omega arith, updated-same r.drawn_by r.drawn id);
                seen_all = tt;
                own = λ _. was.own live;
                lock = λ _. was.lock live;
                first = was.first;
                ended = was.ended;
              }
              (λ j v other e. let of = r.each_seat j v e in record {
                seen = of.seen;
                noted = of.noted;
                turn = others_wait r.drawn r.served id j r.drawn_by v.turn of.turn;
                seen_all = of.seen_all;
                own = of.own;
                lock = of.lock;
                first = of.first;
                ended = of.ended;
              })
              r.others,
          ((λ _. (r.drawn, sym found, refl)), λ miss. absurd (miss hit)),
        ))
        (λ miss. (me.0, keeps, tt, unmoved s r 0 id me.1 me.0 at, ((λ hit. absurd (miss hit)), λ _. refl)))

    -- the seat of the ticket that is served, while another hasn't the turn
    value_there : (s : St) (r : Rule s) (n : ℕ) → get_elem? s.views id ≡ some me.0 → me.0.turn ≡ Waits n → n ≡ r.served
        → (x : T) × (s.homes ≡ some (Some x) ∷ []) × (history x ≡ r.log) × (fixed x ≡ r.constant)
    value_there s r n at waits is = ⊎_elim (λ t. t) (λ t.
        let holder : ℕ = t.1.0 in let v : V = t.1.1 in
        let there : get_elem? s.views holder ≡ some v = t.1.2 in
        let waiter = subst (HasTicket r.drawn r.served r.drawn_by id) waits (r.each_seat id me.0 at).turn in
        let other = subst (HasTicket r.drawn r.served r.drawn_by holder) t.1.3 (r.each_seat holder v there).turn in
        let same : holder ≡ id = sym other.2 ∙ (ap r.drawn_by (sym is) ∙ waiter.2) in
        let one : me.0 ≡ v = some-injective me.0 v (sym at ∙ (ap (λ (k : ℕ). get_elem? s.views k) (sym same) ∙ there)) in
        let both : Waits n ≡ Holds r.served = sym waits ∙ (ap (λ (z : V). z.turn) one ∙ t.1.3) in
        absurd (cc)) r.home

    pub looks : (n : ℕ) → me.0.turn ≡ Waits n → Allows Rule slots id me 1 (λ k. k) (ReadsServing history actor fixed (step slots 1 0 0 none) me)
    looks n waits s r _ at small =
        let was = r.each_seat id me.0 at in
        let live : IsLive me.0.turn = subst IsLive (sym waits) tt in
        let found : get_or s.words 1 0 ≡ r.served % 2 ^ 64 = ap (λ (l : List ℕ). get_or l 1 0) r.words_are in
        let has = subst (HasTicket r.drawn r.served r.drawn_by id) waits was.turn in
        let before : ℕ = total tickets_in s.views in let queue : before + r.served ≡ r.drawn = r.queue in
        let live_seats : ℕ = total seats_in s.views in let short : before ≤ live_seats = tickets-le s.views in let few_live : live_seats ≤ r.handed_out =
        r.few_live in let few_handed_out = r.few_handed_out in let few_seats = r.few_seats in
        let again : (k : ℕ) → me.0.turn ≡ Waits k → n ≡ k = λ k e. let both : Waits n ≡ Waits k = sym waits ∙ e in cc in
        dite (ℕ_discrete (get_or s.words 1 0) (n % 2 ^ 64))
        (λ (hit : get_or s.words 1 0 ≡ n % 2 ^ 64).
        let is : n ≡ r.served = is_served r.drawn r.served n has.0 has.1 (omega arith) (sym found ∙ hit) in
        let v = value_there s r n at waits is in
        let x : T = v.0 in
        let w : V = entering n (history x) me.0 in
        let after : ℕ = total tickets_in (set s.views id w) in let own : ℕ = tickets_in me.0.turn in
        let as_many : after + own ≡ before + 1 = total-set tickets_in s.views id me.0 w at in let one : own ≡ 1 = ap tickets_in waits in
        let queue' : after + r.served ≡ r.drawn = omega arith in
        let wide : me.0.seats ≡ r.seats = (was.lock live).1 in
        let learns : Learns actor me.0 (history x) (fixed x) = record {
          longer = subst (λ (l : List E). StartsWith l me.0.seen) (sym v.2) was.seen;
          own = (was.own live).made ∙ ap (entries_of actor me.0.actor) (sym v.2);
          others = all_below actor me.0.seats (history x) (λ a from. ap (entries_of actor a) v.2 ∙ r.others a (omega arith));
          fixed = (was.lock live).0 ∙ ap Some (sym v.3);
        } in (
          w,
          takes 0 (Some x),
          ap (λ (l : Homes). get_elem? l 0) v.1,
          moved s r r.log r.drawn r.served r.drawn_by (set s.words 1 (get_or s.words 1 0)) (set s.homes 0 none) id me.0 w at (sym (ap seats_in waits))
              (set-get_or s.words 1 0 ∙ r.words_are)
              queue'
              (inr (ap (λ (l : Homes). set l 0 none) v.1, (id, w, set_there s.views id me.0 w at, ap Holds is)))
              record {
                seen = subst (λ (l : List E). StartsWith r.log l) (sym v.2) (begins_itself r.log);
                noted = was.noted;
                turn = (is, has.1, has.2);
                seen_all = v.2;
                own = λ _. was.own live;
                lock = λ _. was.lock live;
                first = was.first;
                ended = was.ended;
              }
              (λ j u other e. r.each_seat j u e)
              r.others,
          λ k e. (
            λ _. (x, ap (λ (z : ℕ). let m : M = (entering z (history x) me.0, (0, Some x) ∷ me.1) in m) (again k e), learns),
            λ miss. absurd (miss (hit ∙ ap (λ (z : ℕ). z % 2 ^ 64) (again k e))),
          ),
        ))
        (λ miss. (
          me.0,
          keeps,
          tt,
          unmoved s r 1 id me.1 me.0 at,
          λ k e. (λ hit. absurd (miss (hit ∙ ap (λ (z : ℕ). z % 2 ^ 64) (sym (again k e)))), λ _. refl),
        ))

    pub serves : (n : ℕ) (x : T) → me.0.turn ≡ Holds n → me.1 ≡ (0, Some x) ∷ [] → GoesOn actor me.0.actor me.0.seen (history x) → me.0.fixed ≡ Some (fixed x)
        → Allows Rule slots id me 1 (λ k. (k + 1) % 2 ^ 64) (ServesNext history actor (step slots 1 1 0 none) me)
    serves n x holds carried goes constant s r _ at small =
        let was = r.each_seat id me.0 at in
        let has = subst (HasTicket r.drawn r.served r.drawn_by id) holds was.turn in
        let seen : me.0.seen ≡ r.log = subst (HasSeenAll r.log me.0.seen) holds was.seen_all in
        let live : IsLive me.0.turn = subst IsLive (sym holds) tt in
        let owns = was.own live in
        let own : ℕ = me.0.actor in
        let log' : List E = history x in
        let goes' : GoesOn actor own r.log log' = subst (λ (l : List E). GoesOn actor own l log') seen goes in
        let w : V = giving log' me.0 in
        let before : ℕ = total tickets_in s.views in let after : ℕ = total tickets_in (set s.views id w) in let ticket : ℕ = tickets_in me.0.turn in
        let queue : before + r.served ≡ r.drawn = r.queue in
        let one_less : after + ticket ≡ before + 0 = total-set tickets_in s.views id me.0 w at in let one : ticket ≡ 1 = ap tickets_in holds in
        let queue' : after + (r.served + 1) ≡ r.drawn = omega arith in
        let constant' : fixed x ≡ r.constant = let both : Some r.constant ≡ Some (fixed x) = sym (was.lock live).0 ∙ constant in cc in
        let made : w.mine ≡ entries_of actor own log' = ap (λ (l : List E). l ++ drop (length me.0.seen) log') owns.made
        ∙ (ap (λ (l : List E). entries_of actor own r.log ++ drop (length l) log') seen ∙ sym (entries_of-goes_on actor own r.log log' goes')) in
        let apart : (j c : ℕ) → j ≢ id → r.owner c ≡ j → c ≢ own = λ j c other o e. other (sym o ∙ (ap r.owner e ∙ owns.owned)) in
        let emptied : set s.homes 0 (some (Some x)) ≡ some (Some x) ∷ [] =
        ⊎_elim (λ t. ap (λ (l : Homes). set l 0 (some (Some x))) t.1) (λ t. ap (λ (l : Homes). set l 0 (some (Some x))) t.0) r.home in (
          w,
          gives,
          tt,
          moved s r log' r.drawn (r.served + 1) r.drawn_by (set s.words 1 ((get_or s.words 1 0 + 1) % 2 ^ 64)) (put_back s.homes me.1) id me.0 w at
              (sym (ap seats_in holds))
              (ap (λ (l : List ℕ). set l 1 ((get_or l 1 0 + 1) % 2 ^ 64)) r.words_are
              ∙ ap (λ (z : ℕ). r.drawn % 2 ^ 64 ∷ z ∷ []) (mod-add-mod r.served (2 ^ 64) 1))
              queue'
              (inl (x, ap (λ (c : List (ℕ × Option T)). put_back s.homes c) carried ∙ emptied, refl, constant'))
              record {
                seen = begins_itself log';
                noted = begins_after actor own r.log log' me.0.noted goes' was.noted;
                turn = tt;
                seen_all = tt;
                own = λ _. record { made = made; known = owns.known; owned = owns.owned };
                lock = λ _. was.lock live;
                first = was.first;
                ended = λ k d e. let f = was.ended k d e in (owns-others actor own log' goes' f.1 f.0, f.1, begins_after actor own r.log log' d.seen goes' f.2);
              }
              (λ j v other e. let k = r.each_seat j v e in let t =
              others_served r.drawn r.served id j r.drawn_by r.log log' v.seen v.turn other (ap r.drawn_by (sym has.0) ∙ has.2) k.turn in record {
                seen = begins_after actor own r.log log' v.seen goes' k.seen;
                noted = begins_after actor own r.log log' v.noted goes' k.noted;
                turn = t.0;
                seen_all = t.1;
                own = λ l. let f = k.own l in owns-others actor own log' goes' (apart j v.actor other f.owned) f;
                lock = k.lock;
                first = k.first;
                ended = λ i d g. let f = k.ended i d g in (
                  owns-others actor own log' goes' (apart j d.actor other f.0.owned) f.0,
                  f.1,
                  begins_after actor own r.log log' d.seen goes' f.2,
                );
              })
              (λ c l. let known = owns.known in entries_of-others actor own c r.log log' (λ e. omega arith) goes' ∙ r.others c l),
          λ y e. let m : x ≡ y = ap (value_or x) (sym carried ∙ e) in
              subst (λ (z : T). HasLeft actor (history z) me (w, rest me.1)) m
              (ap (λ (c : List (ℕ × Option T)). let after : M = (w, rest c) in after) carried, made),
        )

  -- the same for a seat that had the turn, and has put x back
  pub gives_back : (slots id : ℕ) (was me : M) (x : T) → HasTurn was → me ≡ (was.0, (0, Some x) ∷ rest was.1) → GoesOn actor was.0.actor was.0.seen (history x)
      → was.0.fixed ≡ Some (fixed x)
      → Allows Rule slots id me 1 (λ k. (k + 1) % 2 ^ 64) (ServesNext history actor (step slots 1 1 0 none) me)
  gives_back slots id was me x has e goes constant = let now : M = (was.0, (0, Some x) ∷ rest was.1) in
      subst (λ (m : M). Allows Rule slots id m 1 (λ k. (k + 1) % 2 ^ 64) (ServesNext history actor (step slots 1 1 0 none) m)) (sym e)
      (serves slots id now has.0 x has.1 (ap (λ (c : List (ℕ × Option T)). (0, Some x) ∷ rest c) has.2) goes constant)

  pub given_back : (was me after : M) (x : T) → HasTurn was → me ≡ (was.0, (0, Some x) ∷ rest was.1)
      → ((y : T) → me.1 ≡ (0, Some y) ∷ [] → HasLeft actor (history y) me after) → HasLeft actor (history x) was after
  given_back was me after x has e then =
      let slots : me.1 ≡ (0, Some x) ∷ [] = ap (λ (m : M). m.1) e ∙ ap (λ (c : List (ℕ × Option T)). (0, Some x) ∷ rest c) has.2 in
      let left = then x slots in
      (left.0 ∙ ap (λ (m : M). let r : M = (giving (history x) m.0, []) in r) e, left.1 ∙ ap (λ (m : M). entries_of actor m.0.actor (history x)) e)

  -- the value that a seat has which entered
  pub is_carried : (was m : M) → HasEntered history actor fixed was m → (y : Option T) × (m.1 ≡ (0, y) ∷ rest m.1)
  is_carried was m has = let e = ap (λ (z : M). z.1) has.2 in (Some has.1, e ∙ ap (λ (c : List (ℕ × Option T)). (0, Some has.1) ∷ rest c) (sym e))
