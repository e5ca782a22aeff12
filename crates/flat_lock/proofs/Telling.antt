-- A note is made and told, and the seat that was told sees all that was given so far: the rule is kept.
use Rattle.std.proofs.Common.{◌≡◌, ◌≢◌, ℕ, ◌+◌, ◌≤◌, List, [], ◌∷◌, ◌++◌, get_or, set, sym, refl, ◌∙◌, subst, ⊎_elim, inl, inr, arith, Option, true, false}
use mathlib.Core.Option.{none, some, some-ne-none}
use mathlib.Core.Option as maybe
use lib.ListN.{get_elem?}
use lib.Seq.{set-get_or}
use Rattle.atomic_table.specs.Table.{State, Me, Allows, Splits, Joins, step, keeps}
use Rattle.atomic_table.proofs.Lists.{set_else, set_again, at_longer}
use Rattle.flat_lock.specs.declared.view.View.{View}
use Rattle.flat_lock.specs.declared.view_parts.SeatAction.TheVariants.{Idle, Holds, Note}
use Rattle.flat_lock.specs.History.{StartsWith}
use Rattle.flat_lock.specs.Rule.{tickets_in, seats_in, total, HasSeenAll, IsLive, IsSound, IsHomeOrHeld, LockRule}
use Rattle.flat_lock.specs.Steps.{Learns, Hears, note, note_of, noting, told, spent, seeing}
use Rattle.flat_lock.proofs.Histories.{begins_itself, all_below}
use Rattle.flat_lock.proofs.Tickets.{total-snoc}
use Rattle.flat_lock.proofs.Kept.{settled}
use Rattle.flat_lock.proofs.Seating.{at_end, not_holding}

module _ {T E F : Type 0} (history : T → List E) (actor : E → ℕ) (fixed : T → F) where
  abbrev V : Type 0
  V = View E F

  abbrev St : Type 0
  St = State (Option T) V

  abbrev M : Type 0
  M = Me (Option T) V

  abbrev Rule : St → Type 0
  Rule = LockRule history actor fixed

  -- a note is sound wherever the history begins with it
  note_sound : (constant : F) (seats : ℕ) (log : List E) (drawn served handed_out : ℕ) (drawn_by owner : ℕ → ℕ) (seat : ℕ) (part : List E) → StartsWith log part
      → IsSound actor constant seats log drawn served handed_out drawn_by owner seat (note part)
  note_sound constant seats log drawn served handed_out drawn_by owner seat part begins = record {
    seen = begins;
    noted = (log, refl);
    turn = tt;
    seen_all = tt;
    own = λ l. absurd l;
    lock = λ l. absurd l;
    first = λ h. absurd (let e' : false ≡ true = h in cc);
    ended = λ k d g. absurd (some-ne-none d (sym g));
  }

  -- one more view leaves the value where it is
  home_longer : (constant : F) (log : List E) (served : ℕ) (vs : List V) (homes : List (maybe.Option (Option T))) (w : V)
      → IsHomeOrHeld history actor fixed constant log served vs homes → IsHomeOrHeld history actor fixed constant log served (vs ++ w ∷ []) homes
  home_longer constant log served vs homes w home = ⊎_elim (λ t. inl t) (λ held. let holder : ℕ = held.1.0 in let u : V = held.1.1 in
      inr (held.0, (holder, u, at_longer vs (w ∷ []) holder u held.1.2, held.1.3))) home

  -- a note is one more view, which is no seat
  with_note : (s : St) (r : Rule s) (part : List E) → StartsWith r.log part
      → Rule record { words = s.words; homes = s.homes; views = s.views ++ note part ∷ [] }
  with_note s r part begins =
      let before : ℕ = total tickets_in s.views in let after : ℕ = total tickets_in (s.views ++ note part ∷ []) in
      let as_many : after ≡ before + 0 = total-snoc tickets_in s.views (note part) in
      let queue : before + r.served ≡ r.drawn = r.queue in
      let queue' : after + r.served ≡ r.drawn = omega arith in
      let live_before : ℕ = total seats_in s.views in let live_after : ℕ = total seats_in (s.views ++ note part ∷ []) in
      let live : live_after ≡ live_before + 0 = total-snoc seats_in s.views (note part) in
      let few_live : live_before ≤ r.handed_out = r.few_live in
      record {
        constant = r.constant;
        seats = r.seats;
        log = r.log;
        drawn = r.drawn;
        served = r.served;
        handed_out = r.handed_out;
        drawn_by = r.drawn_by;
        owner = r.owner;
        words_are = r.words_are;
        queue = queue';
        few_live = let goal : live_after ≤ r.handed_out = omega arith in goal;
        few_handed_out = r.few_handed_out;
        few_seats = r.few_seats;
        home = home_longer r.constant r.log r.served s.views s.homes (note part) r.home;
        each_seat = λ j u e. ⊎_elim (λ t. r.each_seat j u t)
            (λ t. subst (IsSound actor r.constant r.seats r.log r.drawn r.served r.handed_out r.drawn_by r.owner j) t.0
            (note_sound r.constant r.seats r.log r.drawn r.served r.handed_out r.drawn_by r.owner j part begins))
            (at_end s.views (note part) u j e);
        others = r.others;
      }

  -- a seat makes a note of what it has seen
  pub notes : (id : ℕ) (v : V) → Splits Rule id v (noting v) (note_of v)
  notes id v s r at = subst (λ (vs : List V). Rule record { words = s.words; homes = s.homes; views = vs ++ note_of v ∷ [] }) (sym (set_again s.views id v at))
      (with_note s r v.seen (r.each_seat id v at).seen)

  -- a resting seat is told by a note
  pub tells : (id : ℕ) (v : V) (other : ℕ) (w : V) → v.turn ≡ Idle → w.turn ≡ Note → Joins Rule id v other w (told v w) spent
  tells id v other w idle is_note s r at apart there' =
      let u : V = told v w in
      let there : get_elem? s.views other ≡ some w = sym (set_else s.views id other u apart) ∙ there' in
      let was = r.each_seat id v at in
      let joined = r.each_seat other w there in
      let between : St = record { words = s.words; homes = s.homes; views = set s.views id u } in
      let heard : Rule between = settled history actor fixed s r s.words id v u at refl (not_holding r.served v.turn idle) refl record {
        seen = was.seen;
        noted = joined.seen;
        turn = was.turn;
        seen_all = was.seen_all;
        own = was.own;
        lock = was.lock;
        first = was.first;
        ended = was.ended;
      } in
      let no_turn : w.turn ≢ Holds heard.served = λ h. let e : Note ≡ Holds heard.served = sym is_note ∙ h in cc in
      settled history actor fixed between heard s.words other w spent there' (sym is_note) no_turn refl
      (note_sound heard.constant heard.seats heard.log heard.drawn heard.served heard.handed_out heard.drawn_by heard.owner other [] (heard.log, refl))

  -- a resting seat sees all that was given so far
  pub hears : (slots id : ℕ) (me : M) → me.0.turn ≡ Idle → Allows Rule slots id me 1 (λ k. k) (Hears actor (step slots 1 0 0 none) me)
  hears slots id me idle s r _ at small =
      let was = r.each_seat id me.0 at in
      let live : IsLive me.0.turn = subst IsLive (sym idle) tt in
      let own = was.own live in
      let w : V = seeing r.log me.0 in
      let wide : me.0.seats ≡ r.seats = (was.lock live).1 in let few_handed_out = r.few_handed_out in
      let learns : Learns actor me.0 r.log r.constant = record {
        longer = was.seen;
        own = own.made;
        others = all_below actor me.0.seats r.log (λ a from. r.others a (omega arith));
        fixed = (was.lock live).0;
      } in (
        w,
        keeps,
        tt,
        settled history actor fixed s r (set s.words 1 (get_or s.words 1 0)) id me.0 w at refl (not_holding r.served me.0.turn idle) (set-get_or s.words 1 0)
            record {
              seen = begins_itself r.log;
              noted = was.noted;
              turn = was.turn;
              seen_all = subst (HasSeenAll r.log r.log) (sym idle) tt;
              own = was.own;
              lock = was.lock;
              first = was.first;
              ended = was.ended;
            },
        (r.log, r.constant, refl, was.noted, learns),
      )
