-- Which present of a session is which of those that an entry takes.
use Rattle.std.proofs.Common.{◌≡◌, ◌∙◌, sym, subst, ap, refl, inl, inr, ℕ, zero, suc, ◌+◌, ◌<◌, ◌≤◌, Bool, true, false, List, [], ◌∷◌, ◌++◌, length, drop}
use Rattle.std.proofs.Common.{arith, Some, slice_get}
use Rattle.std.specs.Prelude.{cond, nat_le}
use Rattle.std.specs.List.{list_all}
use Rattle.std.proofs.lemmas.Bool.{and_parts, leb-true}
use Rattle.flat_base.specs.declared.ids.FenceNo.{FenceNo}
use Rattle.flat_base.specs.declared.ids.SessionNo.{SessionNo}
use Rattle.flat_scene.specs.declared.journal.Entry.{Entry}
use Rattle.flat_scene.specs.declared.journal.EntryKind.{EntryKind}
use Rattle.flat_scene.specs.declared.journal.EntryKind.TheVariants.{Begin}
use Rattle.flat_scene.specs.declared.setup.Setup.{Setup}
use Rattle.flat_scene.specs.Draft.{of_serial}
use Rattle.flat_scene.specs.Frames.{is_ready, is_signalled, is_unsquashable, ready_prefix, ready_run, taken, takes, up_to_first, waiting}
use Rattle.flat_scene.specs.History.{◌▹◌, is_closed, presents, Published}
use Rattle.flat_scene.proofs.lemmas.TakingLemmas.{ready-longest}
use Rattle.flat_rules.proofs.lemmas.ShownSteps.{serial-get, get-append, get-drop}
use Rattle.flat_facts.proofs.lemmas.Earlier.{taken-earlier}
use Rattle.flat_laws.specs.Presents.{SquashedAreNeverShown, TakenOnce, Takes, TakenPresentsWereDue, UnsquashableAreShown}

-- ---- items of lists

pub all-get : {A : Type 0} (p : A → Bool) (xs : List A) (i : ℕ) (x : A) → list_all p xs ≡ true → slice_get xs i ≡ Some x → p x ≡ true
all-get p [] i x all is = absurd (cc)
all-get p (y ∷ xs) zero x all is = let same : y ≡ x = cc in subst (λ z. p z ≡ true) same (and_parts (p y) (list_all p xs) all).0
all-get p (y ∷ xs) (suc i) x all is = all-get p xs i x (and_parts (p y) (list_all p xs) all).1 is

pub get-some : {A : Type 0} (xs : List A) (i : ℕ) → i < length xs → (x : A) × (slice_get xs i ≡ Some x)
get-some [] i below = absurd (omega (arith, below))
get-some (x ∷ xs) zero below = (x, refl)
get-some (x ∷ xs) (suc i) below = get-some xs i (omega (arith, below))

-- of items that a list has after its first t ones, the item of a number
pub at-number : {A : Type 0} (all ps rest : List A) (t i : ℕ) → drop t all ≡ ps ++ rest → i < length ps → of_serial all (suc (t + i)) ≡ slice_get ps i
at-number all ps rest t i begins below =
    serial-get all (t + i) ∙ get-drop t i all ∙ ap (λ xs. slice_get xs i) begins ∙ get-append ps rest i below

-- one number is another and a difference
pub split : (a b : ℕ) → a ≤ b → (i : ℕ) × (b ≡ a + i)
split zero b less = (b, omega arith)
split (suc a) zero less = absurd (omega (arith, less))
split (suc a) (suc b) less = let rest = split a b (omega (arith, less)) in (rest.0, omega (arith, rest.1))

-- ---- what an entry takes

-- Presents that an entry takes: it is a begin, the session is open, and they are the ready prefix.
pub record TakesReady (k : EntryKind) (f : FenceNo → Bool) (closed : Bool) (w : List Published) : Type 0 where
  pub time : ℕ
  pub begins : k ≡ Begin time
  pub opened : closed ≡ false
  pub is : takes k f closed w ≡ ready_prefix time f w

pub takes-ready : (k : EntryKind) (f : FenceNo → Bool) (closed : Bool) (w : List Published) → 0 < length (takes k f closed w) → TakesReady k f closed w
takes-ready (Begin time) f true w some = absurd (omega (arith, some))
takes-ready (Begin time) f false w some = record { time = time; begins = refl; opened = refl; is = refl }
takes-ready _ f closed w some = absurd (omega (arith, some))

-- the place of present n among those that an entry takes
abbrev pub IsTakenAt : Setup → List Entry → Entry → SessionNo → ℕ → ℕ → Type 0
IsTakenAt setup before e s n time =
    (i : ℕ) × (i < length (ready_prefix time (is_signalled setup before) (waiting setup before s)))
    × (of_serial (presents s before) n ≡ slice_get (ready_prefix time (is_signalled setup before) (waiting setup before s)) i)
    × (n ≡ suc (taken setup before s + i))

pub taken-at : (setup : Setup) (before : List Entry) (e : Entry) (s : SessionNo) (n : ℕ) → Takes setup before e s n
    → (ready : TakesReady e.kind (is_signalled setup before) (is_closed s before) (waiting setup before s)) → IsTakenAt setup before e s n ready.time
taken-at setup before e s zero t ready = absurd (omega (arith, t.before_it))
taken-at setup before e s (suc m) t ready = by_difference (split (taken setup before s) m (omega (arith, t.before_it)))
  where
    by_difference : (i : ℕ) × (m ≡ taken setup before s + i) → IsTakenAt setup before e s (suc m) ready.time
    by_difference d =
        let many : length (takes e.kind (is_signalled setup before) (is_closed s before) (waiting setup before s))
        ≡ length (ready_prefix ready.time (is_signalled setup before) (waiting setup before s)) = ap length ready.is in
        let below : d.0 < length (ready_prefix ready.time (is_signalled setup before) (waiting setup before s)) = omega (arith, t.after_it, d.1, many) in
        let prefix = ready_prefix ready.time (is_signalled setup before) (waiting setup before s) in
        let begins = (ready-longest ready.time (is_signalled setup before) (waiting setup before s)).begins in (
          d.0,
          below,
          ap (λ k. of_serial (presents s before) (suc k)) d.1
              ∙ at-number (presents s before) prefix (drop (length prefix) (waiting setup before s)) (taken setup before s) d.0 begins below,
          ap suc d.1,
        )

pub taken-were-due : TakenPresentsWereDue
taken-were-due setup before e s n t =
    let some : 0 < length (takes e.kind (is_signalled setup before) (is_closed s before) (waiting setup before s)) =
    omega (arith, t.before_it, t.after_it) in
    let ready = takes-ready e.kind (is_signalled setup before) (is_closed s before) (waiting setup before s) some in
    let at = taken-at setup before e s n t ready in
    let prefix : List Published = ready_prefix ready.time (is_signalled setup before) (waiting setup before s) in
    let item = get-some prefix at.0 at.1 in
    let longest = ready-longest ready.time (is_signalled setup before) (waiting setup before s) in
    let passes : is_ready ready.time (is_signalled setup before) item.0.args ≡ true =
    all-get (λ (p : Published). is_ready ready.time (is_signalled setup before) p.args) prefix at.0 item.0 longest.ready item.1 in
    let parts = and_parts (nat_le item.0.args.time ready.time) (list_all (is_signalled setup before) item.0.args.acquire) passes in
    record {
      time = ready.time;
      begins = ready.begins;
      opened = ready.opened;
      present = item.0;
      accepted = at.2 ∙ item.1;
      in_time = leb-true item.0.args.time ready.time parts.0;
      signalled = parts.1;
    }

-- ---- unsquashable and squashed presents

-- an item that ends a list up to the first such one is its last
ends-last : {A : Type 0} (ends : A → Bool) (xs : List A) (i : ℕ) (x : A) → slice_get (up_to_first ends xs) i ≡ Some x → ends x ≡ true
    → length (up_to_first ends xs) ≡ suc i
ends-last ends [] i x is end = absurd (cc)
ends-last ends (y ∷ xs) zero x is end =
    let same : y ≡ x = cc in
    let stops : ends y ≡ true = subst (λ z. ends z ≡ true) (sym same) end in
    ap (λ b. suc (length (cond b [] (up_to_first ends xs)))) stops
ends-last ends (y ∷ xs) (suc i) x is end = by_test (λ rest. ends-last ends xs i x rest end) (ends y) is
  where
    by_test : (slice_get (up_to_first ends xs) i ≡ Some x → length (up_to_first ends xs) ≡ suc i) → (b : Bool)
        → slice_get (y ∷ cond b [] (up_to_first ends xs)) (suc i) ≡ Some x → length (y ∷ cond b [] (up_to_first ends xs)) ≡ suc (suc i)
    by_test later true none = absurd (cc)
    by_test later false rest = ap suc (later rest)

pub unsquashable-are-shown : UnsquashableAreShown
unsquashable-are-shown setup before e s n present t accepted stays =
    let some : 0 < length (takes e.kind (is_signalled setup before) (is_closed s before) (waiting setup before s)) =
    omega (arith, t.before_it, t.after_it) in
    let ready = takes-ready e.kind (is_signalled setup before) (is_closed s before) (waiting setup before s) some in
    let at = taken-at setup before e s n t ready in
    let run : List Published = ready_run ready.time (is_signalled setup before) (waiting setup before s) in
    let here : slice_get (up_to_first is_unsquashable run) at.0 ≡ Some present = sym at.2 ∙ accepted in
    let last : length (up_to_first is_unsquashable run) ≡ suc at.0 = ends-last is_unsquashable run at.0 present here stays in
    let many : length (takes e.kind (is_signalled setup before) (is_closed s before) (waiting setup before s)) ≡ length (up_to_first is_unsquashable run) =
    ap length ready.is in
    omega (arith, last, many, at.3)

pub squashed-are-never-shown : SquashedAreNeverShown
squashed-are-never-shown setup before e s n t less history later (inl is) = λ same.
    let rises = taken-earlier setup s history before (record { later = later; is = is }) in
    absurd (omega (arith, t.before_it, rises, same))
squashed-are-never-shown setup before e s n t less history later (inr is) = λ same.
    let rises = taken-earlier setup s (before ▹ e) history (record { later = later; is = is }) in
    absurd (omega (arith, less, rises, same))

pub taken-once : TakenOnce
taken-once setup before later e other s n t = λ again.
    let rises = taken-earlier setup s (before ▹ e) (later ++ (before ▹ e)) (record { later = later; is = refl }) in
    absurd (omega (arith, t.after_it, again.before_it, rises))
