-- What stands of the actors of a race, whatever they do.
use Rattle.std.proofs.Common.{◌≡◌, ℕ, suc, ◌+◌, ◌-◌, ◌≤◌, Bool, true, false, List, [], ◌∷◌, ◌++◌, refl, sym, ap, ◌∙◌, subst, get_or, arith}
use Rattle.std.specs.Prelude.{◌==◌, ⊤, if◌then◌else◌, nat_le, replicate}
use Rattle.std.specs.List.{All}
use Rattle.std.proofs.lemmas.Bool.{eqb-true, leb-true}
use Rattle.std.proofs.lemmas.List.Elements.{All-cons, All-head, All-tail, All-append, All-weaker, All-replicate}
use Rattle.flat_waits.specs.declared.wait_tally.ActorUpdate.TheVariants as change
use Rattle.flat_waits.specs.declared.wait_tally.WaitTally.{WaitTally}
use Rattle.flat_waits.specs.Tallies.{after, is_over}
use Rattle.flat_waits.specs.Stuck.{Doing, Steps, Race, GoesOn, IsReached, IsStuck, OverMeansStuck}
use Rattle.flat_waits.specs.Stuck.Doing.{Acts, Counts, Reads, Finds, Waits, Gone}
use Rattle.flat_waits.specs.Stuck.Steps.{reads, reads_again, finds, is_met, notes, stops, enters, counts, leaves, returns}
use Rattle.flat_waits.specs.Stuck.IsReached.{starts, goes}
use Rattle.flat_waits.proofs.Counting.{also, count, count-append, count-none, count-all, front, back, acts, owes, waits_at, IsStill, all-still, none-owes}

-- What is known of an actor that read the news m and saw so many entries: if the news is the same now, all
-- entries since are owed.
record IsRecent (now entries owed m seen : ℕ) : Type 0 where
  old : m ≤ now
  within : m ≡ now → seen ≤ entries
  near : m ≡ now → entries ≤ seen + owed

abbrev Sees : (now entries owed : ℕ) → Doing → Type 0
Sees now entries owed (Reads m) = m ≤ now
Sees now entries owed (Finds m seen) = IsRecent now entries owed m seen
Sees now entries owed (Waits m seen) = IsRecent now entries owed m seen
Sees now entries owed doing = ⊤

-- nothing new was counted
sees-still : (now entries owed entries' owed' : ℕ) → entries ≤ entries' → entries' + owed ≤ entries + owed' → (d : Doing) → Sees now entries owed d
    → Sees now entries' owed' d
sees-still now n c n' c' more owed Acts h = tt
sees-still now n c n' c' more owed Counts h = tt
sees-still now n c n' c' more owed (Reads m) h = h
sees-still now n c n' c' more owed (Finds m seen) h =
    record { old = h.old; within = λ e. let w = h.within e in omega (arith, w, more); near = λ e. let w = h.near e in omega (arith, w, owed) }
sees-still now n c n' c' more owed (Waits m seen) h =
    record { old = h.old; within = λ e. let w = h.within e in omega (arith, w, more); near = λ e. let w = h.near e in omega (arith, w, owed) }
sees-still now n c n' c' more owed Gone h = tt

-- something new was counted
sees-next : (now entries owed entries' owed' : ℕ) (d : Doing) → Sees now entries owed d → Sees (suc now) entries' owed' d
sees-next now n c n' c' Acts h = tt
sees-next now n c n' c' Counts h = tt
sees-next now n c n' c' (Reads m) h = omega (arith, h)
sees-next now n c n' c' (Finds m seen) h = let old = h.old in
    record { old = omega (arith, old); within = λ e. absurd (omega (arith, old, e)); near = λ e. absurd (omega (arith, old, e)) }
sees-next now n c n' c' (Waits m seen) h = let old = h.old in
    record { old = omega (arith, old); within = λ e. absurd (omega (arith, old, e)); near = λ e. absurd (omega (arith, old, e)) }
sees-next now n c n' c' Gone h = tt

-- nobody has counted itself at news that come next
none-ahead : (now entries owed : ℕ) (ds : List Doing) → All (Sees now entries owed) ds → count (waits_at (suc now)) ds ≡ 0
none-ahead now n c [] h = refl
none-ahead now n c (Acts ∷ ds) h = none-ahead now n c ds (All-tail (Sees now n c) Acts ds h)
none-ahead now n c (Counts ∷ ds) h = none-ahead now n c ds (All-tail (Sees now n c) Counts ds h)
none-ahead now n c (Reads m ∷ ds) h = none-ahead now n c ds (All-tail (Sees now n c) (Reads m) ds h)
none-ahead now n c (Finds m seen ∷ ds) h = none-ahead now n c ds (All-tail (Sees now n c) (Finds m seen) ds h)
none-ahead now n c (Gone ∷ ds) h = none-ahead now n c ds (All-tail (Sees now n c) Gone ds h)
none-ahead now n c (Waits m seen ∷ ds) h = by (m == suc now) refl (none-ahead now n c ds (All-tail (Sees now n c) (Waits m seen) ds h))
  where
    by : (b : Bool) → (m == suc now) ≡ b → count (waits_at (suc now)) ds ≡ 0 → also b (count (waits_at (suc now)) ds) ≡ 0
    by true e later = let old = (All-head (Sees now n c) (Waits m seen) ds h).old in let same = eqb-true m (suc now) e in absurd (omega (arith, old, same))
    by false e later = later

-- What stands of a race: who acts and who waits is counted, and what was seen is known.
record Holds (tally : WaitTally) (entries : ℕ) (actors : List Doing) : Type 0 where
  acting : tally.acting ≡ count acts actors
  waiting : tally.waiting ≡ count (waits_at tally.news) actors
  seen : All (Sees tally.news entries (count owes actors)) actors

module _ (before later : List Doing) where
  abbrev within : Doing → List Doing
  within d = before ++ d ∷ later

  -- how many do something, one of them apart
  apart : (p : Doing → Bool) (d : Doing) → count p (within d) ≡ count p before + also (p d) (count p later)
  apart p d = count-append p before (d ∷ later)

  module _ (P Q : Doing → Type 0) where
    -- all others are as they were
    all-within : (d d' : Doing) → ((x : Doing) → P x → Q x) → (P d → Q d') → All P (within d) → All Q (within d')
    all-within d d' others this h =
        let rest = back P before (d ∷ later) h in
        All-append Q before (d' ∷ later) (All-weaker P Q others before (front P before (d ∷ later) h))
        (All-cons Q d' later (this (All-head P d later rest)) (All-weaker P Q others later (All-tail P d later rest)))

module _ (before later : List Doing) where
  -- a count that doesn't tell what an actor did from what it does
  same-count : (p : Doing → Bool) (d d' : Doing) → p d ≡ p d' → count p (within before later d) ≡ count p (within before later d')
  same-count p d d' e = apart before later p d ∙ ap (λ b. count p before + also b (count p later)) e ∙ sym (apart before later p d')

  -- one that counts what it did, and not what it does
  one-less : (p : Doing → Bool) (d d' : Doing) → p d ≡ true → p d' ≡ false → count p (within before later d) ≡ suc (count p (within before later d'))
  one-less p d d' did does =
      let old = apart before later p d ∙ ap (λ b. count p before + also b (count p later)) did in
      let new = apart before later p d' ∙ ap (λ b. count p before + also b (count p later)) does in
      omega (arith, old, new)

  -- nothing is counted anew, and the actor neither makes an entry nor owes one
  quiet : (d d' : Doing) (t : WaitTally) (n : ℕ) → acts d ≡ acts d' → waits_at t.news d ≡ waits_at t.news d' → owes d ≡ owes d'
      → (Sees t.news n (count owes (within before later d)) d → Sees t.news n (count owes (within before later d')) d')
      → Holds t n (within before later d) → Holds t n (within before later d')
  quiet d d' t n acting waiting owing seeing h = record {
    acting = h.acting ∙ same-count acts d d' acting;
    waiting = h.waiting ∙ same-count (waits_at t.news) d d' waiting;
    seen = all-within before later _ _ d d' (sees-still t.news n _ n _ (omega arith) (let e = same-count owes d d' owing in omega (arith, e))) seeing h.seen;
  }

  -- one more waits, or one less
  counted : (d d' : Doing) (t : WaitTally) (n waiting : ℕ) → acts d ≡ acts d' → owes d ≡ owes d'
      → waiting ≡ count (waits_at t.news) (within before later d')
      → (Sees t.news n (count owes (within before later d)) d → Sees t.news n (count owes (within before later d')) d')
      → Holds t n (within before later d) → Holds (record t { waiting = waiting }) n (within before later d')
  counted d d' t n waiting acting owing now seeing h = record {
    acting = h.acting ∙ same-count acts d d' acting;
    waiting = now;
    seen = all-within before later _ _ d d' (sees-still t.news n _ n _ (omega arith) (let e = same-count owes d d' owing in omega (arith, e))) seeing h.seen;
  }

  -- there are news
  renewed : (d d' : Doing) (t : WaitTally) (n acting : ℕ) → acting ≡ count acts (within before later d')
      → waits_at (suc t.news) d ≡ waits_at (suc t.news) d'
      → (Sees t.news n (count owes (within before later d)) d → Sees (suc t.news) n (count owes (within before later d')) d')
      → Holds t n (within before later d) → Holds (record { news = suc t.news; waiting = 0; acting = acting }) n (within before later d')
  renewed d d' t n acting now same seeing h =
      let none = none-ahead t.news n (count owes (within before later d)) (within before later d) h.seen in
      record {
        acting = now;
        waiting = sym (sym (same-count (waits_at (suc t.news)) d d' same) ∙ none);
        seen = all-within before later _ _ d d' (sees-next t.news n _ n _) seeing h.seen;
      }

  -- what an actor knows that found too little
  known : (m s : ℕ) (t : WaitTally) (n : ℕ) → IsRecent t.news n (count owes (within before later (Finds m s))) m s
      → IsRecent t.news n (count owes (within before later (Waits m s))) m s
  known m s t n x = subst (λ c. IsRecent t.news n c m s) (same-count owes (Finds m s) (Waits m s) refl) x

  -- an actor that counts itself, or no more
  noting : (m s : ℕ) (t : WaitTally) (n : ℕ) (b : Bool) → (m == t.news) ≡ b → Holds t n (within before later (Finds m s))
      → Holds (if b then record t { waiting = suc t.waiting } else t) n (within before later (Waits m s))
  noting m s t n true e h = counted (Finds m s) (Waits m s) t n (suc t.waiting) refl refl
      (let more = one-less (waits_at t.news) (Waits m s) (Finds m s) e refl in ap (λ k. suc k) h.waiting ∙ sym more) (known m s t n) h
  noting m s t n false e h = quiet (Finds m s) (Waits m s) t n refl (sym e) refl (known m s t n) h

  stopping : (m s : ℕ) (t : WaitTally) (n : ℕ) (b : Bool) → (m == t.news) ≡ b → Holds t n (within before later (Waits m s))
      → Holds (if b then record t { waiting = t.waiting - 1 } else t) n (within before later Acts)
  stopping m s t n true e h = counted (Waits m s) Acts t n (t.waiting - 1) refl refl
      (let less = one-less (waits_at t.news) (Waits m s) Acts e refl in let was = h.waiting in omega (arith, less, was)) (λ x. tt) h
  stopping m s t n false e h = quiet (Waits m s) Acts t n refl e refl (λ x. tt) h

  entering : (t : WaitTally) (n : ℕ) → Holds t n (within before later Acts) → Holds t (suc n) (within before later Counts)
  entering t n h = record {
    acting = h.acting ∙ same-count acts Acts Counts refl;
    waiting = h.waiting ∙ same-count (waits_at t.news) Acts Counts refl;
    seen = all-within before later _ _ Acts Counts (sees-still t.news n _ (suc n) _ (omega arith)
        (let more = one-less owes Counts Acts refl refl in omega (arith, more))) (λ x. tt) h.seen;
  }

  step : (d d' : Doing) (t t' : WaitTally) (n n' : ℕ) → Steps d t n d' t' n' → Holds t n (within before later d) → Holds t' n' (within before later d')
  step _ _ _ _ _ _ (reads t n) h = quiet Acts (Reads t.news) t n refl refl refl (λ x. omega arith) h
  step _ _ _ _ _ _ (reads_again m s t n other) h = quiet (Waits m s) (Reads t.news) t n refl other refl (λ x. omega arith) h
  step _ _ _ _ _ _ (finds m t n) h = quiet (Reads m) (Finds m n) t n refl refl refl
      (λ x. record { old = x; within = λ e. omega arith; near = λ e. omega arith }) h
  step _ _ _ _ _ _ (is_met m t n) h = quiet (Reads m) Acts t n refl refl refl (λ x. tt) h
  step _ _ _ _ _ _ (notes m s t n) h = noting m s t n (m == t.news) refl h
  step _ _ _ _ _ _ (stops m s t n) h = stopping m s t n (m == t.news) refl h
  step _ _ _ _ _ _ (enters t n) h = entering t n h
  step _ _ _ _ _ _ (counts t n) h = renewed Counts Acts t n t.acting (h.acting ∙ same-count acts Counts Acts refl) refl (λ x. tt) h
  step _ _ _ _ _ _ (leaves t n) h = renewed Acts Gone t n (t.acting - 1)
      (let less = one-less acts Acts Gone refl refl in let was = h.acting in omega (arith, less, was)) refl (λ x. tt) h
  step _ _ _ _ _ _ (returns t n) h = renewed Gone Acts t n (suc t.acting) (let more = one-less acts Acts Gone refl refl in ap (λ k. suc k) h.acting ∙ sym more)
      refl (λ x. tt) h

-- what stands of what a race may come to
reached-holds : (many : ℕ) (race : Race) → IsReached many race → Holds race.tally race.entries race.actors
reached-holds many _ starts = record {
  acting = sym (count-all acts many Acts refl);
  waiting = sym (count-none (waits_at 0) many Acts refl);
  seen = All-replicate (Sees 0 0 (count owes (replicate many Acts))) many Acts tt;
}
reached-holds many new (goes old _ reached one) =
    let stood = subst (Holds old.tally old.entries) one.old_actors (reached-holds many old reached) in
    subst (Holds new.tally new.entries) (sym one.new_actors)
    (step one.before one.later one.doing one.does old.tally new.tally old.entries new.entries one.steps stood)

-- one that can still enter something has looked at all entries
stuck : (news entries : ℕ) (d : Doing) → IsStill news d → Sees news entries 0 d → IsStuck entries d
stuck news n (Waits m seen) still sees =
    let same = eqb-true m news still in
    let within = sees.within same in let near = sees.near same in
    omega (arith, within, near)
stuck news n Gone still sees = tt
stuck news n Acts still sees = absurd (cc)
stuck news n Counts still sees = absurd (cc)
stuck news n (Reads m) still sees = absurd (cc)
stuck news n (Finds m seen) still sees = absurd (cc)

pub over-means-stuck : OverMeansStuck
over-means-stuck many race reached over k d lt =
    let h = reached-holds many race reached in
    let few : race.tally.acting ≤ race.tally.waiting = leb-true _ _ over in
    let acting = h.acting in let waiting = h.waiting in
    let still = all-still race.tally.news race.actors (omega (arith, few, acting, waiting)) in
    let none = none-owes race.tally.news race.actors still in
    let seen = subst (λ c. All (Sees race.tally.news race.entries c) race.actors) none h.seen in
    stuck race.tally.news race.entries (get_or race.actors k d) (still k d lt) (seen k d lt)
