-- A lock opens, its first seat splits and takes others in, and it closes: the rule is kept.
use Rattle.std.proofs.Common.{◌≡◌, ◌≢◌, ℕ, ◌+◌, ◌^◌, ◌<◌, ◌≤◌, List, [], ◌∷◌, ◌++◌, length, set, sym, refl, ap, ◌∙◌, subst, ⊎_elim, ◌⊎◌, inl, inr, arith}
use Rattle.std.proofs.Common.{Option, Some, true, false, length-set, zero, suc}
use mathlib.Core.Logic.{dite}
use mathlib.Core.Option.{none, some, some-ne-none, some-injective}
use mathlib.Core.Option as maybe
use native.Mathlib.Decide.{ℕ_discrete}
use lib.ListN.{get_elem?}
use Rattle.atomic_table.specs.Table.{State, Splits, Joins, Final, Seen, opening}
use Rattle.atomic_table.proofs.Lists.{set_else, at_longer}
use Rattle.flat_lock.specs.declared.view.View.{View}
use Rattle.flat_lock.specs.declared.view_parts.JoinedSeat.{JoinedSeat}
use Rattle.flat_lock.specs.declared.view_parts.SeatAction.{SeatAction}
use Rattle.flat_lock.specs.declared.view_parts.SeatAction.TheVariants.{Idle, Holds}
use Rattle.flat_lock.specs.History.{StartsWith, entries_of}
use Rattle.flat_lock.specs.Rule.{tickets_in, seats_in, total, IsLive, OwnsActor, IsSound, IsHomeOrHeld, LockRule}
use Rattle.flat_lock.specs.Steps.{Learns, first_view, splitting, split_off, ended_view, joining, spent}
use Rattle.flat_lock.proofs.Histories.{owns-more, all_below}
use Rattle.flat_lock.proofs.Tickets.{updated, updated-same, updated-other, total-set, total-same, total-snoc, seats_stay, set_there}
use Rattle.flat_lock.proofs.Kept.{home_stays}

pub at_end : {A : Type 0} (l : List A) (a b : A) (j : ℕ) → get_elem? (l ++ a ∷ []) j ≡ some b → (get_elem? l j ≡ some b) ⊎ ((a ≡ b) × (j ≡ length l))
at_end [] a b zero e = inr (some-injective a b e, refl)
at_end [] a b (suc j) e = absurd (some-ne-none b (sym e))
at_end (x ∷ xs) a b zero e = inl e
at_end (x ∷ xs) a b (suc j) e = ⊎_elim (λ h. inl h) (λ h. inr (h.0, ap suc h.1)) (at_end xs a b j e)

-- a resting seat hasn't the turn
pub not_holding : (n : ℕ) (t : SeatAction) → t ≡ Idle → t ≢ Holds n
not_holding n t idle h = let e : Idle ≡ Holds n = sym idle ∙ h in cc

module _ {T E F : Type 0} (history : T → List E) (actor : E → ℕ) (fixed : T → F) where
  abbrev V : Type 0
  V = View E F

  abbrev St : Type 0
  St = State (Option T) V

  abbrev Rule : St → Type 0
  Rule = LockRule history actor fixed

  -- a split leaves the value where it is
  home_split : (constant : F) (log : List E) (served : ℕ) (vs : List V) (homes : List (maybe.Option (Option T))) (id : ℕ) (v : V) → get_elem? vs id ≡ some v
      → IsHomeOrHeld history actor fixed constant log served vs homes
      → IsHomeOrHeld history actor fixed constant log served (set vs id (splitting v) ++ split_off v ∷ []) homes
  home_split constant log served vs homes id v at home = ⊎_elim (λ t. inl t) (λ held. let holder : ℕ = held.1.0 in let u : V = held.1.1 in
      let vs' : List V = set vs id (splitting v) in
      dite (ℕ_discrete holder id)
      (λ e. let same : v ≡ u = some-injective v u (sym at ∙ (ap (λ (k : ℕ). get_elem? vs k) (sym e) ∙ held.1.2)) in
      inr (
        held.0,
        (
          id,
          splitting v,
          at_longer vs' (split_off v ∷ []) id (splitting v) (set_there vs id v (splitting v) at),
          ap (λ (z : V). z.turn) same
              ∙ held.1.3,
        ),
      ))
      (λ other. inr (held.0, (holder, u, at_longer vs' (split_off v ∷ []) holder u (set_else vs id holder (splitting v) other ∙ held.1.2), held.1.3)))) home

  pub splits : (id : ℕ) (v : V) → v.turn ≡ Idle → v.first ≡ true → v.handed_out < v.seats → Splits Rule id v (splitting v) (split_off v)
  splits id v idle first few s r at =
      let n : ℕ = length s.views in
      let was = r.each_seat id v at in
      let live : IsLive v.turn = subst IsLive (sym idle) tt in
      let lead = was.first first in
      let h : ℕ = r.handed_out in
      let last : v.handed_out ≡ h = lead.1 in
      let owner' : ℕ → ℕ = updated r.owner v.handed_out n in
      let vs' : List V = set s.views id (splitting v) in
      let wide : length vs' ≡ n = length-set s.views id (splitting v) in
      let Sound : ℕ → V → Type 0 = IsSound actor r.constant r.seats r.log r.drawn r.served (h + 1) r.drawn_by owner' in
      let kept : (seat a : ℕ) (mine : List E) → OwnsActor actor r.log h r.owner seat a mine → OwnsActor actor r.log (h + 1) owner' seat a mine =
      λ seat a mine owns.
      let less : a < h = owns.known in owns-more actor (h + 1) owner' (omega arith) (updated-other r.owner v.handed_out n a (λ e. omega arith)) owns in
      let as_many : total tickets_in (vs' ++ split_off v ∷ []) ≡ total tickets_in s.views + 0 =
      total-snoc tickets_in vs' (split_off v) ∙ ap (λ (k : ℕ). k + 0) (total-same tickets_in s.views id v (splitting v) at refl) in
      let one_more : total seats_in (vs' ++ split_off v ∷ []) ≡ total seats_in s.views + 1 =
      total-snoc seats_in vs' (split_off v) ∙ ap (λ (k : ℕ). k + 1) (total-same seats_in s.views id v (splitting v) at refl) in
      let before : ℕ = total tickets_in s.views in let after : ℕ = total tickets_in (vs' ++ split_off v ∷ []) in
      let same : after ≡ before + 0 = as_many in
      let queue : before + r.served ≡ r.drawn = r.queue in
      let queue' : after + r.served ≡ r.drawn = omega arith in
      let live_before : ℕ = total seats_in s.views in let live_after : ℕ = total seats_in (vs' ++ split_off v ∷ []) in
      let more : live_after ≡ live_before + 1 = one_more in
      let few_live : live_before ≤ h = r.few_live in
      let fits : v.seats ≡ r.seats = (was.lock live).1 in
      record {
        constant = r.constant;
        seats = r.seats;
        few_seats = r.few_seats;
        log = r.log;
        drawn = r.drawn;
        served = r.served;
        handed_out = h + 1;
        drawn_by = r.drawn_by;
        owner = owner';
        words_are = r.words_are;
        queue = queue';
        few_live = let goal : live_after ≤ h + 1 = omega arith in goal;
        few_handed_out = omega arith;
        home = home_split r.constant r.log r.served s.views s.homes id v at r.home;
        each_seat = λ j u e. ⊎_elim
            (seats_stay Sound s.views id (splitting v) record {
              seen = was.seen;
              noted = was.noted;
              turn = was.turn;
              seen_all = was.seen_all;
              own = λ l. kept id v.actor v.mine (was.own l);
              lock = was.lock;
              first = λ _. (lead.0, ap (λ (k : ℕ). k + 1) last);
              ended = λ k d g. let f = was.ended k d g in (kept id d.actor d.mine f.0, f.1, f.2);
            }
            (λ i x other g. let k = r.each_seat i x g in record {
              seen = k.seen;
              noted = k.noted;
              turn = k.turn;
              seen_all = k.seen_all;
              own = λ l. kept i x.actor x.mine (k.own l);
              lock = k.lock;
              first = λ h. absurd (other ((k.first h).0 ∙ sym lead.0));
              ended = λ y d g'. let f = k.ended y d g' in (kept i d.actor d.mine f.0, f.1, f.2);
            }) j u)
            (λ (new : (split_off v ≡ u) × (j ≡ length vs')). subst (λ (z : ℕ × V). Sound z.0 z.1) (λ i. (sym (new.1 ∙ wide) i, new.0 i)) record {
              seen = was.seen;
              noted = (r.log, refl);
              turn = tt;
              seen_all = tt;
              own = λ _. record { made = sym (r.others v.handed_out (omega arith)); known = omega arith; owned = updated-same r.owner v.handed_out n };
              lock = λ _. was.lock live;
              first = λ h. absurd (let e' : false ≡ true = h in cc);
              ended = λ k d g. absurd (some-ne-none d (sym g));
            })
            (at_end vs' (split_off v) u j e);
        others = λ y l. r.others y (omega arith);
      }

  pub joins : (id : ℕ) (v : V) (other : ℕ) (w : V) → v.turn ≡ Idle → w.turn ≡ Idle → Joins Rule id v other w (joining v w) spent
  joins id v other w idle idle' s r at apart there' =
      let h : ℕ = r.handed_out in
      let u : V = joining v w in
      let vs' : List V = set s.views id u in
      let there : get_elem? s.views other ≡ some w = sym (set_else s.views id other u apart) ∙ there' in
      let was = r.each_seat id v at in
      let joined = r.each_seat other w there in
      let keeper = was.own (subst IsLive (sym idle) tt) in
      let leaver = joined.own (subst IsLive (sym idle') tt) in
      let owner' : ℕ → ℕ = updated r.owner w.actor id in
      let Sound : ℕ → V → Type 0 = IsSound actor r.constant r.seats r.log r.drawn r.served h r.drawn_by owner' in
      let kept : (seat a : ℕ) (mine : List E) → seat ≢ other → OwnsActor actor r.log h r.owner seat a mine → OwnsActor actor r.log h owner' seat a mine =
      λ seat a mine off owns.
      let differs : a ≢ w.actor = λ e. off (sym owns.owned ∙ (ap r.owner e ∙ leaver.owned)) in
      owns-more actor h owner' (omega arith) (updated-other r.owner w.actor id a differs) owns in
      let away : id ≢ other = λ e. apart (sym e) in
      let before : ℕ = total tickets_in s.views in let between : ℕ = total tickets_in vs' in let after : ℕ =
      total tickets_in (set vs' other spent) in let ticket : ℕ = tickets_in w.turn in
      let as_many : between ≡ before = total-same tickets_in s.views id v u at refl in
      let as_many' : after + ticket ≡ between + 0 = total-set tickets_in vs' other w spent there' in
      let no_ticket : ticket ≡ 0 = ap tickets_in idle' in
      let queue : before + r.served ≡ r.drawn = r.queue in
      let queue' : after + r.served ≡ r.drawn = omega arith in
      let live_before : ℕ = total seats_in s.views in let live_between : ℕ = total seats_in vs' in let live_after : ℕ =
      total seats_in (set vs' other spent) in let seat : ℕ = seats_in w.turn in
      let live : live_between ≡ live_before = total-same seats_in s.views id v u at refl in
      let live' : live_after + seat ≡ live_between + 0 = total-set seats_in vs' other w spent there' in
      let few_live : live_before ≤ h = r.few_live in
      record {
        constant = r.constant;
        seats = r.seats;
        few_seats = r.few_seats;
        log = r.log;
        drawn = r.drawn;
        served = r.served;
        handed_out = r.handed_out;
        drawn_by = r.drawn_by;
        owner = owner';
        words_are = r.words_are;
        queue = queue';
        few_live = let goal : live_after ≤ h = omega arith in goal;
        few_handed_out = r.few_handed_out;
        home = home_stays history actor fixed r.constant r.log r.served vs' s.homes other w spent there' (not_holding r.served w.turn idle')
            (home_stays history actor fixed r.constant r.log r.served s.views s.homes id v u at (not_holding r.served v.turn idle) r.home);
        each_seat = seats_stay Sound vs' other spent record {
          seen = (r.log, refl);
          noted = (r.log, refl);
          turn = tt;
          seen_all = tt;
          own = λ l. absurd l;
          lock = λ l. absurd l;
          first = λ h. absurd (let e' : false ≡ true = h in cc);
          ended = λ k d g. absurd (some-ne-none d (sym g));
        }
            (λ j x no e. seats_stay (λ i y. i ≢ other → Sound i y) s.views id u (λ _. record {
              seen = was.seen;
              noted = was.noted;
              turn = was.turn;
              seen_all = was.seen_all;
              own = λ l. kept id v.actor v.mine away (was.own l);
              lock = was.lock;
              first = was.first;
              ended = elim [
                | zero ↦ λ d g. subst (λ (z : JoinedSeat E). OwnsActor actor r.log h owner' id z.actor z.mine × (z.actor ≢ v.actor) × StartsWith r.log z.seen)
                    (some-injective (ended_view w) d g) (
                      record { made = leaver.made; known = leaver.known; owned = updated-same r.owner w.actor id },
                      λ h. apart (sym leaver.owned ∙ (ap r.owner h ∙ keeper.owned)),
                      joined.seen,
                    )
                | suc k ↦ λ d g. let f = was.ended k d g in (kept id d.actor d.mine away f.0, f.1, f.2)
              ];
            })
            (λ i y no' g off. let k = r.each_seat i y g in record {
              seen = k.seen;
              noted = k.noted;
              turn = k.turn;
              seen_all = k.seen_all;
              own = λ l. kept i y.actor y.mine off (k.own l);
              lock = k.lock;
              first = k.first;
              ended = λ z d g'. let f = k.ended z d g' in (kept i d.actor d.mine off f.0, f.1, f.2);
            }) j x e no);
        others = r.others;
      }

  -- each actor but that of v has ended
  abbrev pub IsLast : V → Type 0
  IsLast v = (a : ℕ) → a < v.seats → (a ≡ v.actor) ⊎ ((k : ℕ) × (d : JoinedSeat E) × (get_elem? v.ended k ≡ some d) × (d.actor ≡ a))

  -- The value that the last seat finds at home.
  pub closes : (id : ℕ) (v : V) (ws : List ℕ) (xs : List (Option T)) → v.turn ≡ Idle → IsLast v → Final (Seen Rule id v) ws xs
      → (x : T) × (get_elem? xs 0 ≡ some (Some x)) × Learns actor v (history x) (fixed x)
      × ((k : ℕ) (d : JoinedSeat E) → get_elem? v.ended k ≡ some d → StartsWith (history x) d.seen × (d.mine ≡ entries_of actor d.actor (history x)))
  closes id v ws xs idle last final =
      let s : St = final.0 in let r : Rule s = final.1.0 in let at : get_elem? s.views id ≡ some v = final.1.1 in
      let was = r.each_seat id v at in
      let live : IsLive v.turn = subst IsLive (sym idle) tt in
      let own = was.own live in
      let wide : v.seats ≡ r.seats = (was.lock live).1 in let few_handed_out = r.few_handed_out in
      -- who holds the turn would be this seat, since all other actors have ended
      let home : (x : T) × (s.homes ≡ some (Some x) ∷ []) × (history x ≡ r.log) × (fixed x ≡ r.constant) = ⊎_elim (λ t. t) (λ t.
      let holder : ℕ = t.1.0 in let u : V = t.1.1 in let there : get_elem? s.views holder ≡ some u = t.1.2 in
      let held = (r.each_seat holder u there).own (subst IsLive (sym t.1.3) tt) in
      let less : u.actor < r.handed_out = held.known in
      let one : holder ≡ id = ⊎_elim (λ (e : u.actor ≡ v.actor). sym held.owned ∙ (ap r.owner e ∙ own.owned))
      (λ p. sym held.owned ∙ (ap r.owner (sym p.3) ∙ (was.ended p.0 p.1 p.2).0.owned)) (last u.actor (omega arith)) in
      let same : v ≡ u = some-injective v u (sym at ∙ (ap (λ (k : ℕ). get_elem? s.views k) (sym one) ∙ there)) in
      absurd (not_holding r.served v.turn idle (ap (λ (z : V). z.turn) same ∙ t.1.3))) r.home in
      let x : T = home.0 in
      let is : r.log ≡ history x = sym home.2 in (
        x,
        final.4 0 (Some x) (ap (λ (l : List (maybe.Option (Option T))). get_elem? l 0) home.1),
        record {
          longer = subst (λ (l : List E). StartsWith l v.seen) is was.seen;
          own = own.made ∙ ap (entries_of actor v.actor) is;
          others = all_below actor v.seats (history x) (λ a from. ap (entries_of actor a) home.2 ∙ r.others a (omega arith));
          fixed = (was.lock live).0 ∙ ap Some (sym home.3);
        },
        λ k d e. let f = was.ended k d e in (subst (λ (l : List E). StartsWith l d.seen) is f.2, f.0.made ∙ ap (entries_of actor d.actor) is),
      )

  pub opens : (x : T) (n : ℕ) → history x ≡ [] → 0 < n → n < 2 ^ 32 → Rule (opening (0 ∷ 0 ∷ []) (Some x ∷ []) (first_view (Some (fixed x)) n))
  opens x n empty some_seat few = record {
    constant = fixed x;
    seats = n;
    few_seats = few;
    log = [];
    drawn = 0;
    served = 0;
    handed_out = 1;
    drawn_by = λ _. 0;
    owner = λ _. 0;
    words_are = refl;
    queue = refl;
    few_live = omega arith;
    few_handed_out = omega arith;
    home = inl (x, refl, empty, refl);
    each_seat = elim [
      | zero ↦ λ v e. subst (IsSound actor (fixed x) n [] 0 0 1 (λ _. 0) (λ _. 0) 0) (some-injective (first_view (Some (fixed x)) n) v e) record {
        seen = ([], refl);
        noted = ([], refl);
        turn = tt;
        seen_all = tt;
        own = λ _. record { made = refl; known = omega arith; owned = refl };
        lock = λ _. (refl, refl);
        first = λ _. (refl, refl);
        ended = λ k d g. absurd (some-ne-none d (sym g));
      }
      | suc j ↦ λ v e. absurd (some-ne-none v (sym e))
    ];
    others = λ a l. refl;
  }
