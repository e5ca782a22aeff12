-- What an entry changes of what is kept of a session.
use Rattle.std.proofs.Common.{◌≡◌, ◌∙◌, ℕ, zero, suc, ◌+◌, ◌-◌, ◌<◌, ◌≢◌, true, false, List, [], ◌∷◌, length, refl, arith, sym, ap, slice_set, slice_index_or}
use Rattle.std.proofs.Common.{inl, inr, ◌⊎◌, None}
use Rattle.std.specs.Prelude.{◌==◌, sum_by}
use Rattle.std.proofs.lemmas.Bool.Decides.{nat_tests, eqb_tells}
use Rattle.std.proofs.lemmas.List.{get_or-set_other, get_or-set_same, length-set}
use Rattle.std.proofs.lemmas.List.Sums.{sum_by-set}
use Rattle.flat_base.specs.declared.ids.Actor.TheVariants.{Session}
use Rattle.flat_base.specs.declared.ids.SessionNo.{SessionNo}
use Rattle.flat_scene.specs.declared.calls.Call.{Call}
use Rattle.flat_scene.specs.declared.journal.Entry.{Entry}
use Rattle.flat_scene.specs.declared.setup.Setup.{Setup}
use Rattle.flat_scene.specs.Draft.{changed_at}
use Rattle.flat_scene.specs.History.{◌▹◌, is_begin, is_finish, is_session, published, closes}
use Rattle.flat_states.specs.declared.state.SessionCounts.{SessionCounts}
use Rattle.flat_states.specs.declared.state.SessionState.{SessionState}
use Rattle.flat_rules.specs.Numbers.{number, AllNumbered}
use Rattle.flat_states.specs.Kept.{IsKept}
use Rattle.flat_rules.specs.Legal.{is_poll}
use Rattle.flat_states.specs.Seen.{Seen, seen_of}
use Rattle.flat_facts.specs.Views.{view_made}
use Rattle.flat_rules.proofs.lemmas.Quiet.{closed-quiet, presents-quiet, taken-quiet, going-quiet, took-quiet}

-- another's entry changes nothing
pub seen-other : (setup : Setup) (h : List Entry) (e : Entry) (s : SessionNo) → is_begin e.kind ≡ false → is_finish e.kind ≡ false
    → is_session s e.actor ≡ false
    → seen_of setup (h ▹ e) s ≡ seen_of setup h s
seen-other setup h e s no_begin no_finish other =
    rw (other, taken-quiet setup h e s no_begin, going-quiet setup h e s no_begin, took-quiet setup h e s no_begin no_finish) refl

-- An entry of no frame that publishes nothing, makes no view and is no poll.
pub record IsPlainOne (e : Entry) : Type 0 where
  pub no_begin : is_begin e.kind ≡ false
  pub no_finish : is_finish e.kind ≡ false
  pub no_poll : is_poll e.kind ≡ false
  pub no_view : view_made e.kind e.reply ≡ None
  pub none : (made : List Call) → published e.kind e.reply made ≡ []

-- nor does the session's own entry that closes nothing
pub seen-plain : (setup : Setup) (h : List Entry) (e : Entry) (s : SessionNo) → IsPlainOne e → closes e.reply ≡ false → is_session s e.actor ≡ true
    → seen_of setup (h ▹ e) s ≡ seen_of setup h s
seen-plain setup h e s is no_close mine =
    rw (
      closed-quiet h e s no_close,
      presents-quiet h e s is.none,
      mine,
      taken-quiet setup h e s is.no_begin,
      going-quiet setup h e s is.no_begin,
      took-quiet setup h e s is.no_begin is.no_finish,
      is.no_poll,
      is.no_view,
    ) refl

-- and the one that closes it
pub seen-closed : (setup : Setup) (h : List Entry) (e : Entry) (s : SessionNo) → IsPlainOne e → closes e.reply ≡ true → is_session s e.actor ≡ true
    → seen_of setup (h ▹ e) s ≡ record (seen_of setup h s) { closed = true }
seen-closed setup h e s is closes_it mine =
    rw (
      presents-quiet h e s is.none,
      mine,
      closes_it,
      taken-quiet setup h e s is.no_begin,
      going-quiet setup h e s is.no_begin,
      took-quiet setup h e s is.no_begin is.no_finish,
      is.no_poll,
      is.no_view,
    ) refl

-- an account that has as many presents
pub kept-account : (setup : Setup) (seen : Seen) (state : SessionState) (f : SessionCounts → SessionCounts)
    → ((a : SessionCounts) → (f a).presents ≡ a.presents)
    → IsKept setup seen state
    → IsKept setup (record seen { account = f seen.account }) (record state { account = f state.account })
kept-account setup seen state f same kept = record {
  closed = kept.closed;
  account = ap f kept.account;
  count = kept.count ∙ sym (same seen.account);
  few = kept.few;
  taken = kept.taken;
  waiting = kept.waiting;
  let_go = kept.let_go;
  acquire = kept.acquire;
  release = kept.release;
  going = kept.going;
  going_below = kept.going_below;
  took = kept.took;
  goes = kept.goes;
  room = kept.room;
}

pub kept-closed : (setup : Setup) (seen : Seen) (state : SessionState) → IsKept setup seen state
    → IsKept setup (record seen { closed = true }) (record state { closed = true })
kept-closed setup seen state kept = record {
  closed = refl;
  account = kept.account;
  count = kept.count;
  few = kept.few;
  taken = kept.taken;
  waiting = kept.waiting;
  let_go = λ gone. (refl, (kept.let_go gone).1, (kept.let_go gone).2);
  acquire = kept.acquire;
  release = kept.release;
  going = kept.going;
  going_below = kept.going_below;
  took = kept.took;
  goes = kept.goes;
  room = kept.room;
}

-- ---- one of the sessions changes

at-place : {A : Type 0} (Q : ℕ → A → Type 0) (xs : List A) (i j : ℕ) (y d : A) → i ≡ j → j < length (slice_set xs i y) → Q i y
    → Q j (slice_index_or (slice_set xs i y) j d)
at-place Q xs i j y d same below here =
    rw (← same) (rw (get_or-set_same xs i y d (rw same (rw length-set at below))) here)

changed-place : {A : Type 0} (P Q : ℕ → A → Type 0) (xs : List A) (i : ℕ) (y : A) → ((j : ℕ) (x : A) → j ≢ i → P j x → Q j x) → Q i y → AllNumbered P xs
    → (j : ℕ) (d : A)
    → j < length (slice_set xs i y) → ((i == j) ≡ true) × (i ≡ j) ⊎ ((i == j) ≡ false) × (i ≢ j) → Q j (slice_index_or (slice_set xs i y) j d)
changed-place P Q xs i y others here each j d below (inl p) = at-place Q xs i j y d p.1 below here
changed-place P Q xs i y others here each j d below (inr p) =
    let other : j ≢ i = λ q. p.1 (sym q) in
    rw (get_or-set_other xs i j y d other) (others j (slice_index_or xs j d) other (each j d (rw length-set at below)))

pub changed-one : {A : Type 0} (P Q : ℕ → A → Type 0) (xs : List A) (i : ℕ) (y : A) → ((j : ℕ) (x : A) → j ≢ i → P j x → Q j x) → Q i y → AllNumbered P xs
    → AllNumbered Q (slice_set xs i y)
changed-one P Q xs i y others here each j d below = changed-place P Q xs i y others here each j d below (eqb_tells i j)

-- the item of a serial, written in place
pub changed-set : {A : Type 0} (f : A → A) (xs : List A) (i : ℕ) (d : A) → i < length xs → changed_at (suc i) f xs ≡ slice_set xs i (f (slice_index_or xs i d))
changed-set f [] i d below = absurd (omega (arith, below))
changed-set f (x ∷ xs) zero d below = refl
changed-set f (x ∷ xs) (suc i) d below =
    let not_first : (suc (suc i) == 1) ≡ false = grind (arith, nat_tests) in
    let less : suc (suc i) - 1 ≡ suc i = omega arith in
    let more : i < length xs = omega (arith, below) in
    rw (not_first, less) (ap (λ ys. x ∷ ys) (changed-set f xs i d more))

-- a session that isn't the actor, and one that is
pub not-session : (s : SessionNo) (j : ℕ) → 0 < s.0 → j ≢ s.0 - 1 → is_session (number j) (Session s) ≡ false
not-session s j some other = let differ : s.0 ≢ j + 1 = λ h. other (omega arith) in grind (arith, nat_tests)

pub is-session : (s : SessionNo) → is_session s (Session s) ≡ true
is-session s = grind (arith, nat_tests)

-- what is owed, where one of them owes as before
pub sum-same : {A : Type 0} (f : A → ℕ) (xs : List A) (i : ℕ) (y x : A) → i < length xs → x ≡ slice_index_or xs i x → f y ≡ f x
    → sum_by f (slice_set xs i y) ≡ sum_by f xs
sum-same f xs i y x below is same = omega (arith, sum_by-set f xs i y x below, same, ap f is)
