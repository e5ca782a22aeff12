-- What frames take, and in which order.
use Rattle.std.proofs.Common.{◌≡◌, ◌∙◌, sym, subst, ℕ, ◌+◌, ◌≤◌, Bool, true, false, cond, List, [], ◌∷◌, ◌++◌, length, drop, refl, ap, arith, length-append}
use Rattle.std.proofs.Common.{suc, ◌||◌, ◌&&◌, not}
use Rattle.std.specs.Prelude.{IfSome, slice_get, zero}
use Rattle.std.specs.List.{take_while, list_all, list_any}
use Rattle.std.proofs.lemmas.List.{length-drop}
use Rattle.std.proofs.lemmas.List.Sums.{take_while-cons}
use Rattle.std.proofs.lemmas.Bool.{or_parts}
use Rattle.std.proofs.lemmas.List.Folds.{list_any-append}
use Rattle.flat_base.specs.declared.ids.FenceNo.{FenceNo}
use Rattle.flat_base.specs.declared.ids.SessionNo.{SessionNo}
use Rattle.flat_scene.specs.declared.journal.Entry.{Entry}
use Rattle.flat_scene.specs.declared.journal.EntryKind.{EntryKind}
use Rattle.flat_scene.specs.declared.journal.EntryKind.TheVariants as kind
use Rattle.flat_scene.specs.declared.setup.Setup.{Setup}
use Rattle.flat_scene.specs.Frames.{is_signalled, is_ready, is_unsquashable, up_to_first, ready_run, ready_prefix, takes, lets_go, signals, going, sessions_to}
use Rattle.flat_scene.specs.Frames.{taken}
use Rattle.flat_scene.specs.History.{◌▹◌, is_session, is_closed, presents, published, calls, Published}
use Rattle.flat_scene.specs.Laws.{IsLongestReady, TakesInOrder, OthersAreSquashed}
use Rattle.flat_scene.specs.Squashed as squashed
use Rattle.flat_scene.proofs.lemmas.Steps.{presents-own, presents-other}

-- a prefix that is taken while a test holds: what it is, and where it ends
pub record IsLongest {A : Type 0} (p : A → Bool) (xs prefix : List A) : Type 0 where
  pub begins : xs ≡ prefix ++ drop (length prefix) xs
  pub passes : list_all p prefix ≡ true
  pub ends : IfSome (slice_get xs (length prefix)) (λ (x : A). p x ≡ false)
  pub short : length prefix ≤ length xs

longest-cons : {A : Type 0} (p : A → Bool) (x : A) (xs prefix : List A) → p x ≡ true → IsLongest p xs prefix → IsLongest p (x ∷ xs) (x ∷ prefix)
longest-cons p x xs prefix here rest = record {
  begins = ap (λ others. x ∷ others) rest.begins;
  passes = rw here rest.passes;
  ends = rest.ends;
  short = omega (arith, rest.short);
}

pub take_while-longest : {A : Type 0} (p : A → Bool) (xs : List A) → IsLongest p xs (take_while p xs)
take_while-longest p [] = record { begins = refl; passes = refl; ends = tt; short = omega arith }
take_while-longest {A = A} p (x ∷ xs) = by_test (take_while-longest p xs) (p x) refl
  where
    by_test : IsLongest p xs (take_while p xs) → (b : Bool) → p x ≡ b → IsLongest p (x ∷ xs) (take_while p (x ∷ xs))
    by_test rest true passes =
        let e : take_while p (x ∷ xs) ≡ x ∷ take_while p xs = take_while-cons p x xs ∙ ap (λ b. cond b (x ∷ take_while p xs) []) passes in
        subst (λ (prefix : List A). IsLongest p (x ∷ xs) prefix) (sym e) (longest-cons p x xs (take_while p xs) passes rest)
    by_test rest false fails =
        let e : take_while p (x ∷ xs) ≡ [] = take_while-cons p x xs ∙ ap (λ b. cond b (x ∷ take_while p xs) []) fails in
        subst (λ (prefix : List A). IsLongest p (x ∷ xs) prefix) (sym e) (record { begins = refl; passes = refl; ends = fails; short = omega arith })

-- What is taken while a test holds and up to the first item that ends it: what it is, and where it stops.
pub record IsTakenUpTo {A : Type 0} (ends p : A → Bool) (xs prefix : List A) : Type 0 where
  pub begins : xs ≡ prefix ++ drop (length prefix) xs
  pub passes : list_all p prefix ≡ true
  pub last : (earlier : List A) (x : A) → prefix ≡ earlier ++ x ∷ [] → list_any ends earlier ≡ false
  pub longest : IfSome (slice_get xs (length prefix)) (λ (x : A). (not (list_any ends prefix) && p x) ≡ false)
  pub short : length prefix ≤ length xs

-- a list of one item has nothing before its last one
alone : {A : Type 0} (ends : A → Bool) (x y : A) (earlier : List A) → x ∷ [] ≡ earlier ++ y ∷ [] → list_any ends earlier ≡ false
alone ends x y [] is = refl
alone ends x y (z ∷ earlier) is = absurd (omega (arith, ap length is, length-append earlier (y ∷ [])))

-- nothing has no last item
nothing-last : {A : Type 0} (ends : A → Bool) (y : A) (earlier : List A) → [] ≡ earlier ++ y ∷ [] → list_any ends earlier ≡ false
nothing-last ends y earlier is = absurd (omega (arith, ap length is, length-append earlier (y ∷ [])))

-- one item more in front, which doesn't end it
longer-last : {A : Type 0} (ends : A → Bool) (x : A) (prefix : List A) → ends x ≡ false
    → ((earlier : List A) (y : A) → prefix ≡ earlier ++ y ∷ [] → list_any ends earlier ≡ false)
    → (earlier : List A) (y : A) → x ∷ prefix ≡ earlier ++ y ∷ [] → list_any ends earlier ≡ false
longer-last ends x prefix goes rest [] y is = refl
longer-last ends x prefix goes rest (z ∷ earlier) y is =
    let here : ends z ≡ false = cc in
    let later : list_any ends earlier ≡ false = rest earlier y (cc) in
    rw (here, later) refl

-- what is read up to the first item that ends it, of what passes
pub taken-up-to : {A : Type 0} (ends p : A → Bool) (xs : List A) → IsTakenUpTo ends p xs (up_to_first ends (take_while p xs))
taken-up-to ends p [] = record { begins = refl; passes = refl; last = λ earlier x is. nothing-last ends x earlier is; longest = tt; short = omega arith }
taken-up-to {A = A} ends p (x ∷ xs) = by_test (taken-up-to ends p xs) (p x) (ends x) refl refl
  where
    by_test : IsTakenUpTo ends p xs (up_to_first ends (take_while p xs)) → (b c : Bool) → p x ≡ b → ends x ≡ c
        → IsTakenUpTo ends p (x ∷ xs) (up_to_first ends (take_while p (x ∷ xs)))
    by_test rest false c fails end =
        let e : take_while p (x ∷ xs) ≡ [] = take_while-cons p x xs ∙ ap (λ b. cond b (x ∷ take_while p xs) []) fails in
        subst (λ (run : List A). IsTakenUpTo ends p (x ∷ xs) (up_to_first ends run)) (sym e)
        (record { begins = refl; passes = refl; last = λ earlier y is. nothing-last ends y earlier is; longest = fails; short = omega arith })
    by_test rest true true passes end =
        let e : take_while p (x ∷ xs) ≡ x ∷ take_while p xs = take_while-cons p x xs ∙ ap (λ b. cond b (x ∷ take_while p xs) []) passes in
        let one : up_to_first ends (take_while p (x ∷ xs)) ≡ x ∷ [] =
        ap (up_to_first ends) e ∙ ap (λ b. x ∷ cond b [] (up_to_first ends (take_while p xs))) end in
        subst (λ (prefix : List A). IsTakenUpTo ends p (x ∷ xs) prefix) (sym one)
        (record {
          begins = refl;
          passes = rw passes refl;
          last = λ earlier y is. alone ends x y earlier is;
          longest = ended xs;
          short = omega arith;
        })
      where
        ended : (ys : List A) → IfSome (slice_get ys 0) (λ (y : A). (not (list_any ends (x ∷ [])) && p y) ≡ false)
        ended [] = tt
        ended (y ∷ ys) = rw end refl
    by_test rest true false passes goes =
        let e : take_while p (x ∷ xs) ≡ x ∷ take_while p xs = take_while-cons p x xs ∙ ap (λ b. cond b (x ∷ take_while p xs) []) passes in
        let prefix : List A = up_to_first ends (take_while p xs) in
        let more : up_to_first ends (take_while p (x ∷ xs)) ≡ x ∷ prefix =
        ap (up_to_first ends) e ∙ ap (λ b. x ∷ cond b [] (up_to_first ends (take_while p xs))) goes in
        let same : list_any ends (x ∷ prefix) ≡ list_any ends prefix = ap (λ b. b || list_any ends prefix) goes in
        subst (λ (prefix : List A). IsTakenUpTo ends p (x ∷ xs) prefix) (sym more)
        (record {
          begins = ap (λ others. x ∷ others) rest.begins;
          passes = rw passes rest.passes;
          last = longer-last ends x prefix goes rest.last;
          longest = subst (λ b. IfSome (slice_get xs (length prefix)) (λ (y : A). (not b && p y) ≡ false)) (sym same) rest.longest;
          short = omega (arith, rest.short);
        })

-- the ready prefix is the longest
pub ready-longest : (time : ℕ) (is_signalled : FenceNo → Bool) (waiting : List Published)
    → IsLongestReady time is_signalled waiting (ready_prefix time is_signalled waiting)
ready-longest time is_signalled waiting =
    let taken = taken-up-to is_unsquashable (λ (present : Published). is_ready time is_signalled present.args) waiting in
    record { begins = taken.begins; ready = taken.passes; last = taken.last; longest = taken.longest }

-- up to an item that there isn't
pub up-to-none : {A : Type 0} (ends : A → Bool) (xs : List A) → list_any ends xs ≡ false → up_to_first ends xs ≡ xs
up-to-none ends [] none = refl
up-to-none ends (x ∷ xs) none =
    let here : ends x ≡ false = (or_parts (ends x) (list_any ends xs) none).0 in
    let rest : up_to_first ends xs ≡ xs = up-to-none ends xs (or_parts (ends x) (list_any ends xs) none).1 in
    ap (λ b. x ∷ cond b [] (up_to_first ends xs)) here ∙ ap (λ ys. x ∷ ys) rest

-- where none of a list passes, none of what is taken of it does, and none of what is left
none-while : {A : Type 0} (ends p : A → Bool) (xs : List A) → list_any ends xs ≡ false → list_any ends (take_while p xs) ≡ false
none-while ends p [] none = refl
none-while {A = A} ends p (x ∷ xs) none = by_test (none-while ends p xs (or_parts (ends x) (list_any ends xs) none).1) (p x) refl
  where
    by_test : list_any ends (take_while p xs) ≡ false → (b : Bool) → p x ≡ b → list_any ends (take_while p (x ∷ xs)) ≡ false
    by_test rest true passes =
        ap (list_any ends) (take_while-cons p x xs ∙ ap (λ b. cond b (x ∷ take_while p xs) []) passes)
        ∙ ap (λ b. b || list_any ends (take_while p xs)) (or_parts (ends x) (list_any ends xs) none).0 ∙ rest
    by_test rest false fails = ap (list_any ends) (take_while-cons p x xs ∙ ap (λ b. cond b (x ∷ take_while p xs) []) fails)

none-left : {A : Type 0} (ends : A → Bool) (n : ℕ) (xs : List A) → list_any ends xs ≡ false → list_any ends (drop n xs) ≡ false
none-left ends zero xs none = none
none-left ends (suc n) [] none = refl
none-left ends (suc n) (x ∷ xs) none = none-left ends n xs (or_parts (ends x) (list_any ends xs) none).1

-- of presents of which none is unsquashable, the ready prefix is all before the first one that isn't ready
pub squashed-prefix : (time : ℕ) (is_signalled : FenceNo → Bool) (waiting : List Published) → list_any is_unsquashable waiting ≡ false
    → ready_prefix time is_signalled waiting ≡ ready_run time is_signalled waiting
squashed-prefix time is_signalled waiting none =
    up-to-none is_unsquashable (ready_run time is_signalled waiting)
    (none-while is_unsquashable (λ (present : Published). is_ready time is_signalled present.args) waiting none)

-- no more is taken than waits
takes-fits : (k : EntryKind) (is_signalled : FenceNo → Bool) (closed : Bool) (waiting : List Published)
    → length (takes k is_signalled closed waiting) ≤ length waiting
takes-fits (kind.Begin time) is_signalled true waiting = omega arith
takes-fits (kind.Begin time) is_signalled false waiting =
    (taken-up-to is_unsquashable (λ (present : Published). is_ready time is_signalled present.args) waiting).short
takes-fits _ is_signalled closed waiting = omega arith

-- presents are only added
pub presents-grow : (s : SessionNo) (before : List Entry) (e : Entry) → length (presents s before) ≤ length (presents s (before ▹ e))
presents-grow s before e = by_owner (is_session s e.actor) refl
  where
    by_owner : (b : Bool) → is_session s e.actor ≡ b → length (presents s before) ≤ length (presents s (before ▹ e))
    by_owner true mine =
        omega (arith, ap length (presents-own s before e mine), length-append (presents s before) (published e.kind e.reply (calls s before ++ e.calls)))
    by_owner false other = omega (arith, ap length (presents-other s before e other))

-- what was taken are presents
pub taken-made : (setup : Setup) (s : SessionNo) (history : List Entry) → taken setup history s ≤ length (presents s history)
taken-made setup s [] = omega arith
taken-made setup s (before ▹ e) =
    omega (
      arith,
      taken-made setup s before,
      presents-grow s before e,
      takes-fits e.kind (is_signalled setup before) (is_closed s before) (drop (taken setup before s) (presents s before)),
      length-drop (taken setup before s) (presents s before),
    )

pub takes-in-order : (setup : Setup) (before : List Entry) (e : Entry) (s : SessionNo) → TakesInOrder setup before e s
takes-in-order setup before e s = record { made = taken-made setup s before; stays = omega arith }

-- What a history's frames take, and what it signals, is what it is where each present may be passed over.
record IsSquashed (setup : Setup) (history : List Entry) : Type 0 where
  signalled : is_signalled setup history ≡ squashed.is_signalled setup history
  taken : taken setup history ≡ squashed.taken setup history
  going : going setup history ≡ squashed.going setup history

takes-all : (k : EntryKind) (f : FenceNo → Bool) (closed : Bool) (waiting : List Published) → list_any is_unsquashable waiting ≡ false
    → takes k f closed waiting ≡ squashed.takes_all k f closed waiting
takes-all (kind.Begin time) f closed waiting none = ap (λ ready. cond closed [] ready) (squashed-prefix time f waiting none)
takes-all _ f closed waiting none = refl

lets-all-go : (k : EntryKind) (f : FenceNo → Bool) (closed : Bool) (waiting going : List Published) → list_any is_unsquashable waiting ≡ false
    → lets_go k f closed waiting going ≡ squashed.lets_all_go k f closed waiting going
lets-all-go (kind.Begin time) f closed waiting going none = ap (λ ready. cond closed waiting ready) (squashed-prefix time f waiting none)
lets-all-go _ f closed waiting going none = refl

-- presents that a later history has are among its own
none-before : (s : SessionNo) (before : List Entry) (e : Entry) → list_any is_unsquashable (presents s (before ▹ e)) ≡ false
    → list_any is_unsquashable (presents s before) ≡ false
none-before s before e none = by_owner (is_session s e.actor) refl
  where
    by_owner : (b : Bool) → is_session s e.actor ≡ b → list_any is_unsquashable (presents s before) ≡ false
    by_owner true mine =
        let more : List Published = published e.kind e.reply (calls s before ++ e.calls) in
        (or_parts (list_any is_unsquashable (presents s before)) (list_any is_unsquashable more)
        (sym (list_any-append is_unsquashable (presents s before) more) ∙ ap (list_any is_unsquashable) (sym (presents-own s before e mine)) ∙ none)).0
    by_owner false other = ap (list_any is_unsquashable) (sym (presents-other s before e other)) ∙ none

is-squashed : (setup : Setup) (history : List Entry) → ((s : SessionNo) → list_any is_unsquashable (presents s history) ≡ false) → IsSquashed setup history
is-squashed setup [] none = record { signalled = refl; taken = refl; going = refl }
is-squashed setup (before ▹ e) none =
    let earlier : (s : SessionNo) → list_any is_unsquashable (presents s before) ≡ false = λ s. none-before s before e (none s) in
    let was : IsSquashed setup before = is-squashed setup before earlier in
    let left : (s : SessionNo) → list_any is_unsquashable (drop (squashed.taken setup before s) (presents s before)) ≡ false =
    λ s. none-left is_unsquashable (squashed.taken setup before s) (presents s before) (earlier s) in
    record {
      signalled = λ i. λ fence. was.signalled i fence || signals (sessions_to setup.sessions) e.kind (was.going i) fence;
      taken =
          (λ i. λ s. was.taken i s + length (takes e.kind (was.signalled i) (is_closed s before) (drop (was.taken i s) (presents s before))))
          ∙ (λ i. λ s. squashed.taken setup before s + length
          (takes-all e.kind (squashed.is_signalled setup before) (is_closed s before) (drop (squashed.taken setup before s) (presents s before)) (left s)
          i));
      going =
          (λ i. λ s. lets_go e.kind (was.signalled i) (is_closed s before) (drop (was.taken i s) (presents s before)) (was.going i s))
          ∙ (λ i. λ s. lets-all-go e.kind (squashed.is_signalled setup before) (is_closed s before) (drop (squashed.taken setup before s) (presents s before))
          (squashed.going setup before s) (left s) i);
    }

pub others-squashed : OthersAreSquashed
others-squashed setup history none s = λ i. (is-squashed setup history none).taken i s
