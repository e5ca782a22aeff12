-- A begin, session by session.
use Rattle.std.proofs.Common.{◌≡◌, ◌≢◌, ℕ, zero, suc, ◌+◌, ◌-◌, ◌<◌, ◌≤◌, true, false, List, [], ◌∷◌, ◌++◌, length, refl, arith, sym, ◌∙◌, ap, map, Some}
use Rattle.std.proofs.Common.{slice_get, slice_set, slice_index_or, add-one, subst, append_assoc}
use Rattle.std.specs.Prelude.{cond, nat_lt, Option, sum_by, flat_map}
use Rattle.std.proofs.lemmas.Grind.{common_steps, flat_map-append}
use Rattle.std.proofs.lemmas.Bool.Decides.{nat_tests}
use Rattle.std.proofs.lemmas.List.{append-nil, length-set}
use Rattle.std.proofs.lemmas.List.Sums.{get_or-le-sum_by}
use Rattle.flat_base.specs.declared.ids.SessionNo.{SessionNo}
use Rattle.flat_scene.specs.declared.journal.Entry.{Entry}
use Rattle.flat_scene.specs.declared.journal.PostedEvent.{PostedEvent}
use Rattle.flat_scene.specs.declared.setup.Setup.{Setup}
use Rattle.flat_scene.specs.declared.trees.Tree.{Tree}
use Rattle.flat_rules.specs.Ends.{to_begin}
use Rattle.flat_scene.specs.Frames.{sessions_to}
use Rattle.flat_rules.specs.Posts.{events_to}
use Rattle.flat_rules.specs.Shown.{shown}
use Rattle.flat_states.specs.declared.state.SessionState.{SessionState}
use Rattle.flat_facts.specs.Begins.{begun, post_of, posts_to}
use Rattle.flat_states.specs.Machines.{due}
use Rattle.flat_rules.specs.Numbers.{number, AllNumbered}
use Rattle.flat_states.specs.Kept.{IsKept}
use Rattle.flat_states.specs.Seen.{seen_of}
use Rattle.flat_states.proofs.lemmas.Changes.{changed-one}

-- the sessions below a place are after the begin, the others before it
abbrev pub KeptUpTo : Setup → List Entry → ℕ → ℕ → ℕ → ℕ → SessionState → Type 0
KeptUpTo setup h line time i j = IsKept setup (seen_of setup (cond (nat_lt j i) (begun h line time) h) (number j))

abbrev pub ShownUpTo : Setup → List Entry → ℕ → ℕ → ℕ → ℕ → Option Tree → Type 0
ShownUpTo setup h line time i j state = state ≡ shown setup (cond (nat_lt j i) (begun h line time) (to_begin h)) (number j)

pub same-side : (i j : ℕ) → j ≢ i → nat_lt j i ≡ nat_lt j (i + 1)
same-side i j other = grind (arith, nat_tests)

pub this-side : (i : ℕ) → nat_lt i (i + 1) ≡ true
this-side i = grind (arith, nat_tests)

pub kept-on : (setup : Setup) (h : List Entry) (line time i : ℕ) (sessions : List SessionState) (new : SessionState)
    → AllNumbered (KeptUpTo setup h line time i) sessions → IsKept setup (seen_of setup (begun h line time) (number i)) new
    → AllNumbered (KeptUpTo setup h line time (i + 1)) (slice_set sessions i new)
kept-on setup h line time i sessions new each here =
    changed-one (KeptUpTo setup h line time i) (KeptUpTo setup h line time (i + 1)) sessions i new (λ j x other kept. rw (← same-side i j other) kept)
    (rw (this-side i) here) each

pub shown-on : (setup : Setup) (h : List Entry) (line time i : ℕ) (states : List (Option Tree)) → AllNumbered (ShownUpTo setup h line time i) states
    → AllNumbered (ShownUpTo setup h line time (i + 1)) (slice_set states i (shown setup (begun h line time) (number i)))
shown-on setup h line time i states each =
    changed-one (ShownUpTo setup h line time i) (ShownUpTo setup h line time (i + 1)) states i (shown setup (begun h line time) (number i))
    (λ j x other kept. rw (← same-side i j other) kept) (rw (this-side i) refl) each

pub not-below : (i : ℕ) → nat_lt i i ≡ false
not-below i = grind (arith, nat_tests)

-- the next session is before it
pub kept-here : (setup : Setup) (h : List Entry) (line time i : ℕ) (sessions : List SessionState) (state : SessionState)
    → AllNumbered (KeptUpTo setup h line time i) sessions → i < length sessions → state ≡ slice_index_or sessions i state
    → IsKept setup (seen_of setup h (number i)) state
kept-here setup h line time i sessions state each below is =
    let here : IsKept setup (seen_of setup h (number i)) (slice_index_or sessions i state) = rw (not-below i) at (each i state below) in
    let P : SessionState → Type 0 = λ x. IsKept setup (seen_of setup h (number i)) x in subst P (sym is) here

get-at : {A : Type 0} (xs : List A) (i : ℕ) (x : A) → i < length xs → slice_index_or xs i x ≡ x → slice_get xs i ≡ Some x
get-at [] i x below is = absurd (omega (arith, below))
get-at (y ∷ xs) zero x below is = ap Some is
get-at (y ∷ xs) (suc i) x below is = get-at xs i x (grind (arith, common_steps)) is

pub shown-here : (setup : Setup) (h : List Entry) (line time i : ℕ) (states : List (Option Tree)) → AllNumbered (ShownUpTo setup h line time i) states
    → i < length states
    → slice_get states i ≡ Some (shown setup (to_begin h) (number i))
shown-here setup h line time i states each below = get-at states i (shown setup (to_begin h) (number i)) below
    (rw (not-below i) at (each i (shown setup (to_begin h) (number i)) below))

pub flat-on : {A B : Type 0} (f : A → List B) (xs : List A) (x : A) → flat_map f (xs ++ x ∷ []) ≡ flat_map f xs ++ f x
flat-on f xs x = flat_map-append f xs (x ∷ []) ∙ ap (λ ys. flat_map f xs ++ ys) (append-nil (f x))

pub sessions-on : (i : ℕ) → sessions_to (i + 1) ≡ sessions_to i ++ number i ∷ []
sessions-on i = rw add-one refl

-- one session more is posted to
pub posts-on : (setup : Setup) (h : List Entry) (e : Entry) (i : ℕ)
    → posts_to setup h e (i + 1) ≡ posts_to setup h e i ++ map (post_of (length h) (number i)) (events_to setup h e (number i))
posts-on setup h e i =
    let f : SessionNo → List PostedEvent = λ s. map (post_of (length h) s) (events_to setup h e s) in
    ap (flat_map f) (sessions-on i) ∙ flat-on f (sessions_to i) (number i)

pub due-le : (sessions : List SessionState) (i : ℕ) (state : SessionState) → i < length sessions → state ≡ slice_index_or sessions i state
    → due state ≤ sum_by due sessions
due-le sessions i state below is =
    let le : due (slice_index_or sessions i state) ≤ sum_by due sessions = get_or-le-sum_by due sessions i state below in
    let P : SessionState → Type 0 = λ x. due x ≤ sum_by due sessions in subst P (sym is) le

pub none-below : (j : ℕ) → nat_lt j 0 ≡ false
none-below j = grind (arith, nat_tests)

pub kept-start : (setup : Setup) (h : List Entry) (line time : ℕ) (sessions : List SessionState)
    → AllNumbered (λ i. IsKept setup (seen_of setup h (number i))) sessions → AllNumbered (KeptUpTo setup h line time 0) sessions
kept-start setup h line time sessions each j d below = rw (none-below j) (each j d below)

pub shown-start : (setup : Setup) (h : List Entry) (line time : ℕ) (states : List (Option Tree))
    → AllNumbered (λ i state. state ≡ shown setup (to_begin h) (number i)) states → AllNumbered (ShownUpTo setup h line time 0) states
shown-start setup h line time states each j d below = rw (none-below j) (each j d below)

pub all-below : (j n m : ℕ) → j < n → n ≡ m → nat_lt j m ≡ true
all-below j n m below same = grind (arith, nat_tests)

pub kept-end : (setup : Setup) (h : List Entry) (line time n : ℕ) (sessions : List SessionState) → length sessions ≡ n
    → AllNumbered (KeptUpTo setup h line time n) sessions → AllNumbered (λ i. IsKept setup (seen_of setup (begun h line time) (number i))) sessions
kept-end setup h line time n sessions count each j d below = rw (all-below j (length sessions) n below count) at (each j d below)

pub shown-end : (setup : Setup) (h : List Entry) (line time n : ℕ) (states : List (Option Tree)) → length states ≡ n
    → AllNumbered (ShownUpTo setup h line time n) states → AllNumbered (λ i state. state ≡ shown setup (begun h line time) (number i)) states
shown-end setup h line time n states count each j d below = rw (all-below j (length states) n below count) at (each j d below)

back : (i : ℕ) → i + 1 - 1 ≡ i
back i = omega arith

pub shown-next : (setup : Setup) (was h : List Entry) (line time i : ℕ) (states after : List (Option Tree)) → was ≡ h
    → after ≡ slice_set states (i + 1 - 1) (shown setup (begun was line time) (number i))
    → length states ≡ setup.sessions → AllNumbered (ShownUpTo setup h line time i) states
    → (length after ≡ setup.sessions) × AllNumbered (ShownUpTo setup h line time (i + 1)) after
shown-next setup was h line time i states after same is count each =
    let now : after ≡ slice_set states i (shown setup (begun h line time) (number i)) =
    is ∙ ap (λ (n : ℕ). slice_set states n (shown setup (begun was line time) (number i))) (back i)
    ∙ ap (λ (k : List Entry). slice_set states i (shown setup (begun k line time) (number i))) same in
    let P : List (Option Tree) → Type 0 = λ xs. AllNumbered (ShownUpTo setup h line time (i + 1)) xs in
    (ap length now ∙ length-set states i (shown setup (begun h line time) (number i)) ∙ count, subst P (sym now) (shown-on setup h line time i states each))

pub kept-next : (setup : Setup) (was h : List Entry) (line time i : ℕ) (sessions : List SessionState) (new : SessionState) → was ≡ h
    → AllNumbered (KeptUpTo setup h line time i) sessions
    → IsKept setup (seen_of setup (begun was line time) (number i)) new → AllNumbered (KeptUpTo setup h line time (i + 1)) (slice_set sessions i new)
kept-next setup was h line time i sessions new same each here =
    let P : List Entry → Type 0 = λ k. IsKept setup (seen_of setup (begun k line time) (number i)) new in
    kept-on setup h line time i sessions new each (subst P same here)

pub posts-next : (setup : Setup) (was h : List Entry) (e : Entry) (i : ℕ) (first old new : List PostedEvent) → was ≡ h → old ≡ first ++ posts_to setup h e i
    → new ≡ old ++ map (post_of (length was) (number i)) (events_to setup was e (number i)) → new ≡ first ++ posts_to setup h e (i + 1)
posts-next setup was h e i first old new same so_far more =
    let here : List Entry → List PostedEvent = λ k. map (post_of (length k) (number i)) (events_to setup k e (number i)) in
    more ∙ ap (λ xs. xs ++ here was) so_far ∙ ap (λ (k : List Entry). (first ++ posts_to setup h e i) ++ here k) same
    ∙ append_assoc first (posts_to setup h e i) (here h) ∙ ap (λ xs. first ++ xs) (sym (posts-on setup h e i))

pub shown-there : (setup : Setup) (was h : List Entry) (line time i : ℕ) (states : List (Option Tree)) → was ≡ h
    → AllNumbered (ShownUpTo setup h line time i) states → i < length states
    → slice_get states (i + 1 - 1) ≡ Some (shown setup (to_begin was) (number i))
shown-there setup was h line time i states same each below =
    ap (λ (n : ℕ). slice_get states n) (back i) ∙ shown-here setup h line time i states each below
    ∙ ap (λ (k : List Entry). Some (shown setup (to_begin k) (number i))) (sym same)
