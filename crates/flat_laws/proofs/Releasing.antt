-- Which fences the ends of frames signal.
use Rattle.std.proofs.Common.{◌≡◌, ◌∙◌, sym, subst, ap, refl, ℕ, zero, suc, ◌+◌, ◌<◌, ◌≤◌, ◌⊎◌, inl, inr, Bool, true, false, List, [], ◌∷◌, ◌++◌, length, drop}
use Rattle.std.proofs.Common.{arith, Some, None, slice_get}
use Rattle.std.specs.Prelude.{cond, ◌||◌, nat_lt, nat_le}
use Rattle.std.specs.List.{list_any}
use Rattle.std.proofs.lemmas.Bool.{and_parts, cases_lt, leb-true, ltb-true, or_cases, or_left, or_parts, or_right}
use Rattle.std.proofs.lemmas.Option.{slice_get_within}
use Rattle.std.proofs.lemmas.List.Folds.{list_any-append}
use Rattle.flat_base.specs.declared.ids.FenceNo.{FenceNo}
use Rattle.flat_base.specs.declared.ids.SessionNo.{SessionNo}
use Rattle.flat_scene.specs.declared.journal.Entry.{Entry}
use Rattle.flat_scene.specs.declared.journal.EntryKind.{EntryKind}
use Rattle.flat_scene.specs.declared.journal.EntryKind.TheVariants.{Begin, Finish, Signal}
use Rattle.flat_scene.specs.declared.setup.Setup.{Setup}
use Rattle.flat_scene.specs.Draft.{of_serial}
use Rattle.flat_scene.specs.Frames.{going, is_among, is_released_by, is_signalled, lets_go, ready_prefix, sessions_to, signals, taken, takes, waiting}
use Rattle.flat_scene.specs.History.{◌▹◌, is_begin, is_closed, is_finish, presents, published_all, Published}
use Rattle.flat_scene.specs.Setups.{is_declared}
use Rattle.flat_scene.proofs.lemmas.TakingLemmas.{ready-longest, taken-made}
use Rattle.flat_rules.specs.Ends.{to_begin, to_finished}
use Rattle.flat_rules.specs.Legal.{Legal}
use Rattle.flat_rules.proofs.lemmas.ListLemmas.{serial-within}
use Rattle.flat_rules.proofs.lemmas.Quiet.{going-quiet}
use Rattle.flat_rules.proofs.lemmas.ShownSteps.{serial-get, get-drop}
use Rattle.flat_facts.proofs.lemmas.Earlier.{IsEarlier, begin-earlier, begun-earlier, finished-earlier, itself, one-earlier, taken-begun, taken-earlier}
use Rattle.flat_facts.proofs.lemmas.Undeclared.{own-none}
use Rattle.flat_laws.specs.Presents.{ClosedPresentsRelease, IsReleased, is_signal_of, Takes, OnlyFramesRelease, TakenPresentsRelease}
use Rattle.flat_laws.proofs.Adding.{opened-at-finish}
use Rattle.flat_laws.proofs.Later.{closed-earlier, closed-next, closed-presents, earlier-through, finished-next, serial-earlier, serial-later, signalled-next}
use Rattle.flat_laws.proofs.Taking.{at-number, get-some, split, taken-at, takes-ready}

-- ---- lists

any-get : {A : Type 0} (p : A → Bool) (xs : List A) (i : ℕ) (x : A) → slice_get xs i ≡ Some x → p x ≡ true → list_any p xs ≡ true
any-get p [] i x is passes = absurd (cc)
any-get p (y ∷ xs) zero x is passes = let same : y ≡ x = cc in or_left (p y) (list_any p xs) (subst (λ z. p z ≡ true) (sym same) passes)
any-get p (y ∷ xs) (suc i) x is passes = or_right (p y) (list_any p xs) (any-get p xs i x is passes)

-- An item of a list that passes a test, with its place.
record Passes {A : Type 0} (p : A → Bool) (xs : List A) : Type 0 where
  item : A
  place : ℕ
  there : slice_get xs place ≡ Some item
  passes : p item ≡ true

any-place : {A : Type 0} (p : A → Bool) (xs : List A) → list_any p xs ≡ true → Passes p xs
any-place p [] some = absurd (cc)
any-place p (x ∷ xs) some = by_first (or_cases (p x) (list_any p xs) some) (any-place p xs)
  where
    by_first : (p x ≡ true) ⊎ (list_any p xs ≡ true) → (list_any p xs ≡ true → Passes p xs) → Passes p (x ∷ xs)
    by_first (inl here) later = record { item = x; place = 0; there = refl; passes = here }
    by_first (inr rest) later = let found = later rest in record { item = found.item; place = suc found.place; there = found.there; passes = found.passes }

-- a declared session is among those of the setup
any-session : (p : SessionNo → Bool) (n k : ℕ) → k < n → p (record { 0 = suc k }) ≡ true → list_any p (sessions_to n) ≡ true
any-session p zero k below is = absurd (omega (arith, below))
any-session p (suc n) k below is = by_place (λ less. any-session p n k less is) (cases_lt k n)
  where
    last : SessionNo
    last = record { 0 = suc n }

    split : list_any p (sessions_to n ++ last ∷ []) ≡ (list_any p (sessions_to n) || list_any p (last ∷ []))
    split = list_any-append p (sessions_to n) (last ∷ [])

    by_place : (k < n → list_any p (sessions_to n) ≡ true) → (k < n) ⊎ (n ≤ k) → list_any p (sessions_to n ++ last ∷ []) ≡ true
    by_place before (inl less) = split ∙ or_left (list_any p (sessions_to n)) (list_any p (last ∷ [])) (before less)
    by_place before (inr more) =
        let same : k ≡ n = omega (arith, below, more) in
        let here : p last ≡ true = subst (λ (m : ℕ). p (record { 0 = suc m }) ≡ true) same is in
        split ∙ or_right (list_any p (sessions_to n)) (list_any p (last ∷ [])) (or_left (p last) false here)

-- ---- what goes at the end of a frame

going-begin : (setup : Setup) (h : List Entry) (s : SessionNo) → going setup h s ≡ going setup (to_begin h) s
going-begin setup [] s = refl
going-begin setup (h ▹ e) s = by_kind (going-begin setup h s) (is_begin e.kind) refl
  where
    by_kind : going setup h s ≡ going setup (to_begin h) s → (b : Bool) → is_begin e.kind ≡ b
        → going setup (h ▹ e) s ≡ going setup (cond b (h ▹ e) (to_begin h)) s
    by_kind was true is = refl
    by_kind was false is = going-quiet setup h e s is ∙ was

takes-going : (k : EntryKind) (f : FenceNo → Bool) (closed : Bool) (w g : List Published) → 0 < length (takes k f closed w)
    → lets_go k f closed w g ≡ takes k f closed w
takes-going (Begin time) f true w g some = absurd (omega (arith, some))
takes-going (Begin time) f false w g some = refl
takes-going _ f closed w g some = absurd (omega (arith, some))

-- what the frame took releases its fences
took-releases : (setup : Setup) (h begin : List Entry) → to_begin h ≡ begin → IsEarlier (drop 1 begin) h → (s : SessionNo) (n : ℕ) (present : Published)
    → of_serial (presents s h) n ≡ Some present → taken setup (drop 1 begin) s < n → n ≤ taken setup begin s
    → (fence : FenceNo) → is_among present.args.release fence ≡ true → is_released_by (going setup begin s) fence ≡ true
took-releases setup h [] is before s n present accepted more fits fence among = absurd (omega (arith, more, fits))
took-releases setup h (k ▹ b) is before s n present accepted more fits fence among =
    let takes_it : Takes setup k b s n = record { before_it = more; after_it = fits } in
    let some : 0 < length (takes b.kind (is_signalled setup k) (is_closed s k) (waiting setup k s)) = omega (arith, more, fits) in
    let ready = takes-ready b.kind (is_signalled setup k) (is_closed s k) (waiting setup k s) some in
    let at = taken-at setup k b s n takes_it ready in
    let prefix : List Published = ready_prefix ready.time (is_signalled setup k) (waiting setup k s) in
    let item = get-some prefix at.0 at.1 in
    let few : n ≤ length (presents s k) = serial-within (presents s k) n item.0 (at.2 ∙ item.1) in
    let here : slice_get prefix at.0 ≡ Some present = sym at.2 ∙ serial-earlier s k h n present before few accepted in
    let all : going setup (k ▹ b) s ≡ prefix =
    takes-going b.kind (is_signalled setup k) (is_closed s k) (waiting setup k s) (going setup k s) some ∙ ready.is in
    ap (λ ps. is_released_by ps fence) all ∙ any-get (λ (p : Published). is_among p.args.release fence) prefix at.0 present here among

finish-signals : (setup : Setup) (kind : EntryKind) (g : SessionNo → List Published) (fence : FenceNo) → is_finish kind ≡ true
    → signals (sessions_to setup.sessions) kind g fence ≡ list_any (λ s. is_released_by (g s) fence) (sessions_to setup.sessions)
finish-signals setup Finish g fence is = refl
finish-signals setup _ g fence is = absurd (let wrong : false ≡ true = is in cc)

-- a session that isn't declared has no present
declared-presents : (setup : Setup) (h : List Entry) → Legal setup h → (s : SessionNo) (n : ℕ) (present : Published) → of_serial (presents s h) n ≡ Some present
    → is_declared setup s ≡ true
declared-presents setup h legal s n present is = by_test (is_declared setup s) refl
  where
    by_test : (b : Bool) → is_declared setup s ≡ b → b ≡ true
    by_test true declared = refl
    by_test false undeclared =
        let none : of_serial (presents s h) n ≡ None = ap (λ (xs : List Entry). of_serial (published_all xs) n) (own-none setup s undeclared h legal) in
        absurd (let wrong : None ≡ Some present = sym none ∙ is in cc)

any-declared : (setup : Setup) (p : SessionNo → Bool) (s : SessionNo) → is_declared setup s ≡ true → p s ≡ true → list_any p (sessions_to setup.sessions) ≡ true
any-declared setup p s declared is = by_number s.0 refl
  where
    parts : (nat_lt 0 s.0 ≡ true) × (nat_le s.0 setup.sessions ≡ true)
    parts = and_parts (nat_lt 0 s.0) (nat_le s.0 setup.sessions) declared

    by_number : (m : ℕ) → s.0 ≡ m → list_any p (sessions_to setup.sessions) ≡ true
    by_number zero number = let some : 0 < s.0 = ltb-true 0 s.0 parts.0 in absurd (omega (arith, some, number))
    by_number (suc k) number =
        let few : s.0 ≤ setup.sessions = leb-true s.0 setup.sessions parts.1 in
        let same : s ≡ record { 0 = suc k } = ap (λ (m : ℕ). let t : SessionNo = record { 0 = m } in t) number in
        any-session p setup.sessions k (omega (arith, few, number)) (subst (λ t. p t ≡ true) same is)

pub taken-release : TakenPresentsRelease
taken-release setup [] legal s n present accepted fits fence among = absurd (cc)
taken-release setup (h ▹ e) legal s n present accepted fits fence among =
    by_finish (λ was less. taken-release setup h legal.0 s n present was less fence among) (is_finish e.kind) refl fits
  where
    next : is_signalled setup h fence ≡ true → is_signalled setup (h ▹ e) fence ≡ true
    next was = signalled-next setup h e fence was

    was_there : (k : List Entry) → IsEarlier k h → n ≤ taken setup k s → of_serial (presents s h) n ≡ Some present
    was_there k before few =
        let rises = taken-earlier setup s k h before in
        let made = taken-made setup s h in
        serial-earlier s h (h ▹ e) n present (one-earlier h h e (itself h)) (omega (arith, few, rises, made)) accepted

    by_finish : (of_serial (presents s h) n ≡ Some present → n ≤ taken setup (to_finished h) s → is_signalled setup h fence ≡ true)
        → (b : Bool) → is_finish e.kind ≡ b → n ≤ taken setup (cond b (to_begin h) (to_finished h)) s → is_signalled setup (h ▹ e) fence ≡ true
    by_finish before false is few = next (before (was_there (to_finished h) (finished-earlier h) few) few)
    by_finish before true is few = by_frame (cases_lt (taken setup (to_finished h) s) n)
      where
        by_frame : (taken setup (to_finished h) s < n) ⊎ (n ≤ taken setup (to_finished h) s) → is_signalled setup (h ▹ e) fence ≡ true
        by_frame (inr less) = next (before (was_there (to_finished h) (finished-earlier h) less) less)
        by_frame (inl more) =
            let was = taken-begun setup s h legal.0 (opened-at-finish h e.kind is legal.1.may.times) in
            let there : of_serial (presents s h) n ≡ Some present = was_there (to_begin h) (begin-earlier h) few in
            let released : is_released_by (going setup (to_begin h) s) fence ≡ true =
            took-releases setup h (to_begin h) refl (begun-earlier h) s n present there (omega (arith, more, was)) few fence among in
            let goes : is_released_by (going setup h s) fence ≡ true = ap (λ ps. is_released_by ps fence) (going-begin setup h s) ∙ released in
            let some = any-declared setup (λ t. is_released_by (going setup h t) fence) s (declared-presents setup h legal.0 s n present there) goes in
            or_right (is_signalled setup h fence) (signals (sessions_to setup.sessions) e.kind (going setup h) fence)
            (finish-signals setup e.kind (going setup h) fence is ∙ some)

-- ---- closed sessions

begin-begins : (h k : List Entry) (b : Entry) → to_begin h ≡ (k ▹ b) → is_begin b.kind ≡ true
begin-begins [] k b is = absurd (cc)
begin-begins (h ▹ e) k b is = by_kind (λ rest. begin-begins h k b rest) (is_begin e.kind) refl is
  where
    by_kind : (to_begin h ≡ (k ▹ b) → is_begin b.kind ≡ true) → (c : Bool) → is_begin e.kind ≡ c → cond c (h ▹ e) (to_begin h) ≡ (k ▹ b)
        → is_begin b.kind ≡ true
    by_kind later true begins same = let entry : e ≡ b = cc in subst (λ (x : Entry). is_begin x.kind ≡ true) entry begins
    by_kind later false begins rest = later rest

drop-earlier : (k : List Entry) → IsEarlier (drop 1 k) k
drop-earlier [] = itself []
drop-earlier (k ▹ e) = one-earlier k k e (itself k)

-- at a begin all that waits of a closed session goes
closed-goes : (k : EntryKind) (f : FenceNo → Bool) (closed : Bool) (w g : List Published) → is_begin k ≡ true → closed ≡ true → lets_go k f closed w g ≡ w
closed-goes (Begin time) f closed w g begins shut = ap (λ b. cond b w (ready_prefix time f w)) shut
closed-goes _ f closed w g begins shut = absurd (let wrong : false ≡ true = begins in cc)

-- so a present that no frame took goes
waiting-releases : (setup : Setup) (h begin : List Entry) → to_begin h ≡ begin → (s : SessionNo) → is_closed s (drop 1 begin) ≡ true
    → (n : ℕ) (present : Published)
    → of_serial (presents s (drop 1 begin)) n ≡ Some present → taken setup begin s < n
    → (fence : FenceNo) → is_among present.args.release fence ≡ true → is_released_by (going setup begin s) fence ≡ true
waiting-releases setup h [] is s closed n present accepted more fence among = absurd (cc)
waiting-releases setup h (k ▹ b) is s closed zero present accepted more fence among = absurd (omega (arith, more))
waiting-releases setup h (k ▹ b) is s closed (suc m) present accepted more fence among =
    let d = split (taken setup k s) m (omega (arith, more)) in
    let there : slice_get (waiting setup k s) d.0 ≡ Some present =
    sym (serial-get (presents s k) (taken setup k s + d.0) ∙ get-drop (taken setup k s) d.0 (presents s k))
    ∙ ap (λ j. of_serial (presents s k) (suc j)) (sym d.1) ∙ accepted in
    let all : going setup (k ▹ b) s ≡ waiting setup k s =
    closed-goes b.kind (is_signalled setup k) (is_closed s k) (waiting setup k s) (going setup k s) (begin-begins h k b is) closed in
    ap (λ ps. is_released_by ps fence) all ∙ any-get (λ (p : Published). is_among p.args.release fence) (waiting setup k s) d.0 present there among

pub closed-release : ClosedPresentsRelease
closed-release setup [] legal s n present accepted closed fence among = absurd (cc)
closed-release setup (h ▹ e) legal s n present accepted closed fence among =
    by_finish (λ was shut. closed-release setup h legal.0 s n present was shut fence among) (is_finish e.kind) refl closed
  where
    was_there : (k : List Entry) → IsEarlier k h → is_closed s k ≡ true
        → (of_serial (presents s h) n ≡ Some present) × (of_serial (presents s k) n ≡ Some present)
    was_there k before shut =
        let late = closed-presents setup k (h ▹ e) s (one-earlier k h e before) legal shut in
        let soon = closed-presents setup k h s before legal.0 shut in
        let then : of_serial (presents s k) n ≡ Some present = sym (ap (λ ps. of_serial ps n) late) ∙ accepted in
        (ap (λ ps. of_serial ps n) soon ∙ then, then)

    by_finish : (of_serial (presents s h) n ≡ Some present → is_closed s (drop 1 (to_finished h)) ≡ true → is_signalled setup h fence ≡ true)
        → (b : Bool) → is_finish e.kind ≡ b → is_closed s (drop 1 (cond b (to_begin h) (to_finished h))) ≡ true → is_signalled setup (h ▹ e) fence ≡ true
    by_finish before false is shut =
        let earlier = earlier-through (drop 1 (to_finished h)) (to_finished h) h (drop-earlier (to_finished h)) (finished-earlier h) in
        signalled-next setup h e fence (before (was_there (drop 1 (to_finished h)) earlier shut).0 shut)
    by_finish before true is shut = by_taken (cases_lt (taken setup (to_begin h) s) n)
      where
        by_taken : (taken setup (to_begin h) s < n) ⊎ (n ≤ taken setup (to_begin h) s) → is_signalled setup (h ▹ e) fence ≡ true
        by_taken (inr few) =
            taken-release setup (h ▹ e) legal s n present accepted (subst (λ b. n ≤ taken setup (cond b (to_begin h) (to_finished h)) s) (sym is) few) fence
            among
        by_taken (inl more) =
            let there = was_there (drop 1 (to_begin h)) (begun-earlier h) shut in
            let released = waiting-releases setup h (to_begin h) refl s shut n present there.1 more fence among in
            let goes : is_released_by (going setup h s) fence ≡ true = ap (λ ps. is_released_by ps fence) (going-begin setup h s) ∙ released in
            let some = any-declared setup (λ t. is_released_by (going setup h t) fence) s (declared-presents setup h legal.0 s n present there.0) goes in
            or_right (is_signalled setup h fence) (signals (sessions_to setup.sessions) e.kind (going setup h) fence)
            (finish-signals setup e.kind (going setup h) fence is ∙ some)

-- ---- nothing else

-- it stays released
released-next : (setup : Setup) (h : List Entry) (e : Entry) (fence : FenceNo) → IsReleased setup h fence → IsReleased setup (h ▹ e) fence
released-next setup h e fence was = record {
  session = was.session;
  number = was.number;
  present = was.present;
  accepted = serial-later was.session h (h ▹ e) was.number was.present (one-earlier h h e (itself h)) was.accepted;
  releases = was.releases;
  when = by_case was.when;
}
  where
    by_case : (was.number ≤ taken setup (to_finished h) was.session) ⊎ (is_closed was.session (to_finished h) ≡ true)
        → (was.number ≤ taken setup (to_finished (h ▹ e)) was.session) ⊎ (is_closed was.session (to_finished (h ▹ e)) ≡ true)
    by_case (inl less) =
        let rises = taken-earlier setup was.session (to_finished h) (to_finished (h ▹ e)) (finished-next h e) in
        inl (omega (arith, less, rises))
    by_case (inr closed) = inr (closed-earlier was.session (to_finished h) (to_finished (h ▹ e)) (finished-next h e) closed)

-- Where a present that goes stands among its session's, and why it goes.
record Goes (setup : Setup) (k : List Entry) (b : Entry) (s : SessionNo) (present : Published) : Type 0 where
  number : ℕ
  accepted : of_serial (presents s k) number ≡ Some present
  when : (number ≤ taken setup (k ▹ b) s) ⊎ (is_closed s (k ▹ b) ≡ true)

goes-at : (setup : Setup) (k : List Entry) (b : Entry) (s : SessionNo) (kind : EntryKind) (closed : Bool) (i : ℕ) (present : Published)
    → b.kind ≡ kind → is_closed s k ≡ closed → is_begin kind ≡ true
    → slice_get (lets_go kind (is_signalled setup k) closed (waiting setup k s) (going setup k s)) i ≡ Some present → Goes setup k b s present
goes-at setup k b s (Begin time) true i present is shut begins there = record {
  number = suc (taken setup k s + i);
  accepted = serial-get (presents s k) (taken setup k s + i) ∙ get-drop (taken setup k s) i (presents s k) ∙ there;
  when = inr (closed-next s k b shut);
}
goes-at setup k b s (Begin time) false i present is shut begins there =
    let prefix : List Published = ready_prefix time (is_signalled setup k) (waiting setup k s) in
    let first = (ready-longest time (is_signalled setup k) (waiting setup k s)).begins in
    let below : i < length prefix = slice_get_within prefix i present there in
    let many : length (takes b.kind (is_signalled setup k) (is_closed s k) (waiting setup k s)) ≡ length prefix =
    (λ j. length (takes (is j) (is_signalled setup k) (shut j) (waiting setup k s))) in
    record {
      number = suc (taken setup k s + i);
      accepted = at-number (presents s k) prefix (drop (length prefix) (waiting setup k s)) (taken setup k s) i first below ∙ there;
      when = inl (omega (arith, below, many));
    }
goes-at setup k b s _ closed i present is shut begins there = absurd (let wrong : false ≡ true = begins in cc)

finish-releases : (setup : Setup) (h begin : List Entry) (e : Entry) (fence : FenceNo) (s : SessionNo) → is_finish e.kind ≡ true → to_begin h ≡ begin
    → IsEarlier begin h
    → is_released_by (going setup begin s) fence ≡ true → IsReleased setup (h ▹ e) fence
finish-releases setup h [] e fence s ends is before released = absurd (cc)
finish-releases setup h (k ▹ b) e fence s ends is before released =
    let found = any-place (λ (p : Published). is_among p.args.release fence) (going setup (k ▹ b) s) released in
    let goes = goes-at setup k b s b.kind (is_closed s k) found.place found.item refl refl (begin-begins h k b is) found.there in
    let there : of_serial (presents s (k ▹ b)) goes.number ≡ Some found.item =
    serial-later s k (k ▹ b) goes.number found.item (one-earlier k k b (itself k)) goes.accepted in
    let finished : to_finished (h ▹ e) ≡ (k ▹ b) = ap (λ c. cond c (to_begin h) (to_finished h)) ends ∙ is in
    record {
      session = s;
      number = goes.number;
      present = found.item;
      accepted = serial-later s (k ▹ b) (h ▹ e) goes.number found.item (one-earlier (k ▹ b) h e before) there;
      releases = found.passes;
      when = subst (λ (l : List Entry). (goes.number ≤ taken setup l s) ⊎ (is_closed s l ≡ true)) (sym finished) goes.when;
    }

-- what an entry signals, by its kind
by-signals : (setup : Setup) (h : List Entry) (e : Entry) (fence : FenceNo) (kind : EntryKind) → e.kind ≡ kind → is_signal_of fence kind ≡ false
    → signals (sessions_to setup.sessions) kind (going setup h) fence ≡ true → IsReleased setup (h ▹ e) fence
by-signals setup h e fence (Signal other) is none now = absurd (let wrong : false ≡ true = sym none ∙ now in cc)
by-signals setup h e fence Finish is none now =
    let found = any-place (λ s. is_released_by (going setup h s) fence) (sessions_to setup.sessions) now in
    let released : is_released_by (going setup (to_begin h) found.item) fence ≡ true =
    sym (ap (λ ps. is_released_by ps fence) (going-begin setup h found.item)) ∙ found.passes in
    finish-releases setup h (to_begin h) e fence found.item (ap is_finish is) refl (begin-earlier h) released
by-signals setup h e fence _ is none now = absurd (let wrong : false ≡ true = now in cc)

pub only-frames-release : OnlyFramesRelease
only-frames-release setup [] fence none now = absurd (cc)
only-frames-release setup (h ▹ e) fence none now =
    by_when (λ was. only-frames-release setup h fence (or_parts (is_signal_of fence e.kind) (list_any (λ entry. is_signal_of fence entry.kind) h) none).1 was)
    (or_cases (is_signalled setup h fence) (signals (sessions_to setup.sessions) e.kind (going setup h) fence) now)
  where
    by_when : (is_signalled setup h fence ≡ true → IsReleased setup h fence)
        → (is_signalled setup h fence ≡ true) ⊎ (signals (sessions_to setup.sessions) e.kind (going setup h) fence ≡ true) → IsReleased setup (h ▹ e) fence
    by_when before (inl was) = released-next setup h e fence (before was)
    by_when before (inr signal) =
        by-signals setup h e fence e.kind refl (or_parts (is_signal_of fence e.kind) (list_any (λ entry. is_signal_of fence entry.kind) h) none).0 signal
