-- The end of a frame, for one session and for all.
use Rattle.std.proofs.Common.{◌≡◌, ℕ, ◌+◌, ◌<◌, Bool, true, false, List, [], ◌∷◌, ◌++◌, length, refl, sym, ◌∙◌, ap, map, slice_set, slice_index_or, subst}
use Rattle.std.proofs.Common.{append_assoc}
use Rattle.std.specs.List.{list_any}
use Rattle.std.specs.Prelude.{cond, ◌||◌, nat_lt}
use Rattle.std.proofs.lemmas.List.{map-append}
use Rattle.flat_scene.specs.declared.journal.PostedEvent.{PostedEvent}
use Rattle.flat_base.specs.declared.ids.FenceNo.{FenceNo}
use Rattle.flat_base.specs.declared.ids.SessionNo.{SessionNo}
use Rattle.flat_scene.specs.declared.journal.Entry.{Entry}
use Rattle.flat_scene.specs.declared.journal.Event.{Event}
use Rattle.flat_scene.specs.declared.setup.Setup.{Setup}
use Rattle.flat_scene.specs.History.{Published}
use Rattle.flat_scene.specs.Frames.{going, is_among, is_released_by, sessions_to}
use Rattle.flat_states.specs.declared.state.SessionState.{SessionState}
use Rattle.flat_facts.specs.Begins.{finished}
use Rattle.flat_rules.specs.Numbers.{number, AllNumbered}
use Rattle.flat_states.specs.Kept.{IsKept, release_of}
use Rattle.flat_states.specs.Seen.{seen_of}
use Rattle.flat_states.proofs.lemmas.BeginLoop.{same-side, this-side, not-below, none-below, all-below, sessions-on}
use Rattle.flat_states.proofs.lemmas.Changes.{changed-one}
use Rattle.flat_facts.proofs.lemmas.Tests.{or-false}
use Rattle.std.proofs.lemmas.List.Folds.{list_any-append}
use Rattle.std.proofs.Math.Bool.{or_assoc}

-- ---- two runs of posts

pub told-then : (f : Event → PostedEvent) (old mid new : List PostedEvent) (xs ys events : List Event) → mid ≡ old ++ map f xs → new ≡ mid ++ map f ys
    → events ≡ xs ++ ys
    → new ≡ old ++ map f events
told-then f old mid new xs ys events first second all =
    second ∙ ap (λ (ps : List PostedEvent). ps ++ map f ys) first ∙ append_assoc old (map f xs) (map f ys)
    ∙ ap (λ (ps : List PostedEvent). old ++ ps) (sym (map-append f xs ys)) ∙ ap (λ (es : List Event). old ++ map f es) (sym all)

-- ---- session by session

or-last : (a b : Bool) → (a || (b || false)) ≡ (a || b)
or-last true b = refl
or-last false true = refl
or-last false false = refl

-- whether what goes of the first sessions releases a fence
abbrev pub released_to : Setup → List Entry → ℕ → FenceNo → Bool
released_to setup h n g = list_any (λ s. is_released_by (going setup h s) g) (sessions_to n)

pub released-on : (setup : Setup) (h : List Entry) (i : ℕ) (g : FenceNo)
    → released_to setup h (i + 1) g ≡ (released_to setup h i g || is_released_by (going setup h (number i)) g)
released-on setup h i g =
    let f : SessionNo → Bool = λ s. is_released_by (going setup h s) g in
    ap (list_any f) (sessions-on i) ∙ list_any-append f (sessions_to i) (number i ∷ []) ∙ or-last (list_any f (sessions_to i)) (f (number i))

abbrev pub DoneUpTo : Setup → List Entry → ℕ → ℕ → ℕ → SessionState → Type 0
DoneUpTo setup h line i j = IsKept setup (seen_of setup (cond (nat_lt j i) (finished h line) h) (number j))

pub done-next : (setup : Setup) (was h : List Entry) (line i : ℕ) (sessions : List SessionState) (new : SessionState) → was ≡ h
    → AllNumbered (DoneUpTo setup h line i) sessions
    → IsKept setup (seen_of setup (finished was line) (number i)) new → AllNumbered (DoneUpTo setup h line (i + 1)) (slice_set sessions i new)
done-next setup was h line i sessions new same each here =
    let P : List Entry → Type 0 = λ k. IsKept setup (seen_of setup (finished k line) (number i)) new in
    changed-one (DoneUpTo setup h line i) (DoneUpTo setup h line (i + 1)) sessions i new (λ j x other kept. rw (← same-side i j other) kept)
    (rw (this-side i) (subst P same here)) each

pub done-here : (setup : Setup) (h : List Entry) (line i : ℕ) (sessions : List SessionState) (state : SessionState)
    → AllNumbered (DoneUpTo setup h line i) sessions → i < length sessions → state ≡ slice_index_or sessions i state
    → IsKept setup (seen_of setup h (number i)) state
done-here setup h line i sessions state each below is =
    let here : IsKept setup (seen_of setup h (number i)) (slice_index_or sessions i state) = rw (not-below i) at (each i state below) in
    let P : SessionState → Type 0 = λ x. IsKept setup (seen_of setup h (number i)) x in subst P (sym is) here

-- ---- what holds by places, of a history or of the one with the entry of a frame

abbrev pub UpTo : {A : Type 0} → (List Entry → ℕ → A → Type 0) → List Entry → List Entry → ℕ → ℕ → A → Type 0
UpTo P h k i j x = P (cond (nat_lt j i) k h) j x

pub up-next : {A : Type 0} (P : List Entry → ℕ → A → Type 0) (h k : List Entry) (i : ℕ) (xs : List A) (new : A) → AllNumbered (UpTo P h k i) xs → P k i new
    → AllNumbered (UpTo P h k (i + 1)) (slice_set xs i new)
up-next P h k i xs new each here = changed-one (UpTo P h k i) (UpTo P h k (i + 1)) xs i new (λ j x other kept. rw (← same-side i j other) kept)
    (rw (this-side i) here) each

pub up-here : {A : Type 0} (P : List Entry → ℕ → A → Type 0) (h k : List Entry) (i : ℕ) (xs : List A) (x : A) → AllNumbered (UpTo P h k i) xs → i < length xs
    → x ≡ slice_index_or xs i x → P h i x
up-here P h k i xs x each below is =
    let here : P h i (slice_index_or xs i x) = rw (not-below i) at (each i x below) in
    subst (P h i) (sym is) here

pub up-start : {A : Type 0} (P : List Entry → ℕ → A → Type 0) (h k : List Entry) (xs : List A) → AllNumbered (P h) xs → AllNumbered (UpTo P h k 0) xs
up-start P h k xs each j d below = rw (none-below j) (each j d below)

pub up-end : {A : Type 0} (P : List Entry → ℕ → A → Type 0) (h k : List Entry) (n : ℕ) (xs : List A) → length xs ≡ n → AllNumbered (UpTo P h k n) xs
    → AllNumbered (P k) xs
up-end P h k n xs count each j d below = rw (all-below j (length xs) n below count) at (each j d below)

any-map : (gone : List Published) (g : FenceNo) → list_any (λ list. is_among list g) (map release_of gone) ≡ is_released_by gone g
any-map [] g = refl
any-map (p ∷ gone) g = ap (λ b. is_among p.args.release g || b) (any-map gone g)

pub members-done : (before after : Bool) (lists : List (List FenceNo)) (gone : List Published) (g : FenceNo)
    → after ≡ (before || list_any (λ list. is_among list g) lists) → lists ≡ map release_of gone
    → after ≡ (before || is_released_by gone g)
members-done before after lists gone g is same =
    is ∙ ap (λ (ls : List (List FenceNo)). before || list_any (λ list. is_among list g) ls) same ∙ ap (λ b. before || b) (any-map gone g)

pub done-start : (setup : Setup) (h : List Entry) (line : ℕ) (sessions : List SessionState)
    → AllNumbered (λ i. IsKept setup (seen_of setup h (number i))) sessions → AllNumbered (DoneUpTo setup h line 0) sessions
done-start setup h line sessions each j d below = rw (none-below j) (each j d below)

pub done-end : (setup : Setup) (h : List Entry) (line n : ℕ) (sessions : List SessionState) → length sessions ≡ n
    → AllNumbered (DoneUpTo setup h line n) sessions → AllNumbered (λ i. IsKept setup (seen_of setup (finished h line) (number i))) sessions
done-end setup h line n sessions count each j d below = rw (all-below j (length sessions) n below count) at (each j d below)

pub members-next : (setup : Setup) (was h : List Entry) (i : ℕ) (g : FenceNo) (first old new : Bool) → was ≡ h → old ≡ (first || released_to setup h i g)
    → new ≡ (old || is_released_by (going setup was (number i)) g)
    → new ≡ (first || released_to setup h (i + 1) g)
members-next setup was h i g first old new same so_far more =
    more ∙ ap (λ b. b || is_released_by (going setup was (number i)) g) so_far
    ∙ ap (λ (k : List Entry). (first || released_to setup h i g) || is_released_by (going setup k (number i)) g) same
    ∙ or_assoc first (released_to setup h i g) (is_released_by (going setup h (number i)) g) ∙ ap (λ b. first || b) (sym (released-on setup h i g))

pub members-start : (setup : Setup) (h : List Entry) (g : FenceNo) (b : Bool) → b ≡ (b || released_to setup h 0 g)
members-start setup h g b = or-false b
