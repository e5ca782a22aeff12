-- Earlier histories: what stood then of a session, and what frames had taken.
use Rattle.std.proofs.Common.{◌≡◌, ◌∙◌, sym, ℕ, ◌≤◌, Bool, true, false, List, [], ◌∷◌, ◌++◌, length, refl, arith, ap, drop, Some, None, Ok}
use Rattle.std.specs.Prelude.{cond, not, nat_lt, nat_le, Option, is_some}
use Rattle.std.proofs.lemmas.Bool.Decides.{nat_tests}
use Rattle.std.proofs.lemmas.List.{append-nil, append_assoc}
use Rattle.flat_base.specs.declared.ids.SessionNo.{SessionNo}
use Rattle.flat_scene.specs.declared.calls.Call.{Call}
use Rattle.flat_scene.specs.declared.journal.Entry.{Entry}
use Rattle.flat_scene.specs.declared.journal.EntryKind.{EntryKind}
use Rattle.flat_scene.specs.declared.journal.EntryKind.TheVariants.{Begin}
use Rattle.flat_scene.specs.declared.setup.Setup.{Setup}
use Rattle.flat_scene.specs.Draft.{Draft, empty_draft}
use Rattle.flat_scene.specs.Frames.{taken}
use Rattle.flat_scene.specs.History.{◌▹◌, is_begin, is_finish, is_session, calls, presents, published, Published}
use Rattle.flat_scene.proofs.lemmas.Steps.{presents-own, presents-other}
use Rattle.flat_scene.proofs.lemmas.TakingLemmas.{taken-made}
use Rattle.flat_base.proofs.lemmas.Tests.{and-left}
use Rattle.flat_rules.specs.Ends.{to_begin, to_finished, taken_calls, times}
use Rattle.flat_rules.specs.Legal.{Legal, is_frame_open, keeps_time, begin_time}
use Rattle.flat_rules.specs.Stamps.{is_seen, first_at}
use Rattle.flat_rules.proofs.lemmas.Quiet.{taken-quiet}
use Rattle.flat_facts.proofs.lemmas.Stamped.{stamped, often-lasts}
use Rattle.flat_facts.proofs.lemmas.ViewLaw.{made_at, made-earlier}
use Rattle.std.proofs.lemmas.Bool.{not-true}

-- ---- a history without its newest entries

pub record IsEarlier (earlier history : List Entry) : Type 0 where
  pub later : List Entry
  pub is : history ≡ later ++ earlier

pub itself : (h : List Entry) → IsEarlier h h
itself h = record { later = []; is = refl }

pub one-earlier : (k h : List Entry) (e : Entry) → IsEarlier k h → IsEarlier k (h ▹ e)
one-earlier k h e before = record { later = e ∷ before.later; is = ap (λ (l : List Entry). e ∷ l) before.is }

pub begin-earlier : (h : List Entry) → IsEarlier (to_begin h) h
begin-earlier [] = itself []
begin-earlier (h ▹ e) = by_kind (is_begin e.kind) (begin-earlier h)
  where
    by_kind : (b : Bool) → IsEarlier (to_begin h) h → IsEarlier (cond b (h ▹ e) (to_begin h)) (h ▹ e)
    by_kind true before = itself (h ▹ e)
    by_kind false before = one-earlier (to_begin h) h e before

pub finished-earlier : (h : List Entry) → IsEarlier (to_finished h) h
finished-earlier [] = itself []
finished-earlier (h ▹ e) = by_kind (is_finish e.kind) (finished-earlier h)
  where
    by_kind : (b : Bool) → IsEarlier (to_finished h) h → IsEarlier (cond b (to_begin h) (to_finished h)) (h ▹ e)
    by_kind true before = one-earlier (to_begin h) h e (begin-earlier h)
    by_kind false before = one-earlier (to_finished h) h e before

pub begun-earlier : (h : List Entry) → IsEarlier (drop 1 (to_begin h)) h
begun-earlier [] = itself []
begun-earlier (h ▹ e) = by_kind (is_begin e.kind) (begun-earlier h)
  where
    by_kind : (b : Bool) → IsEarlier (drop 1 (to_begin h)) h → IsEarlier (drop 1 (cond b (h ▹ e) (to_begin h))) (h ▹ e)
    by_kind true before = one-earlier h h e (itself h)
    by_kind false before = one-earlier (drop 1 (to_begin h)) h e before

-- ---- what stood then

-- A list that begins with another.
pub record Begins {A : Type 0} (xs ys : List A) : Type 0 where
  pub more : List A
  pub is : ys ≡ xs ++ more

pub begins-more : {A : Type 0} (xs ys more zs : List A) → Begins xs ys → zs ≡ ys ++ more → Begins xs zs
begins-more xs ys more zs old is = record { more = old.more ++ more; is = is ∙ ap (λ l. l ++ more) old.is ∙ append_assoc xs old.more more }

presents-later : (s : SessionNo) (k later : List Entry) → Begins (presents s k) (presents s (later ++ k))
presents-later s k [] = record { more = []; is = sym (append-nil (presents s k)) }
presents-later s k (e ∷ later) = by_owner (presents-later s k later) (is_session s e.actor) refl
  where
    by_owner : Begins (presents s k) (presents s (later ++ k)) → (b : Bool) → is_session s e.actor ≡ b → Begins (presents s k) (presents s (later ++ k ▹ e))
    by_owner old true mine = begins-more (presents s k) (presents s (later ++ k)) (published e.kind e.reply (calls s (later ++ k) ++ e.calls))
        (presents s (later ++ k ▹ e)) old (presents-own s (later ++ k) e mine)
    by_owner old false other = record { more = old.more; is = presents-other s (later ++ k) e other ∙ old.is }

pub presents-begin : (s : SessionNo) (k h : List Entry) → IsEarlier k h → Begins (presents s k) (presents s h)
presents-begin s k h before =
    let here = presents-later s k before.later in
    record { more = here.more; is = ap (presents s) before.is ∙ here.is }

legal-later : (setup : Setup) (k later : List Entry) → Legal setup (later ++ k) → Legal setup k
legal-later setup k [] legal = legal
legal-later setup k (e ∷ later) legal = legal-later setup k later legal.0

pub legal-earlier : (setup : Setup) (k h : List Entry) → IsEarlier k h → Legal setup h → Legal setup k
legal-earlier setup k h before legal = legal-later setup k before.later (rw before.is at legal)

-- ---- what frames had taken

taken-later : (setup : Setup) (s : SessionNo) (k later : List Entry) → taken setup k s ≤ taken setup (later ++ k) s
taken-later setup s k [] = omega arith
taken-later setup s k (e ∷ later) = omega (arith, taken-later setup s k later)

pub taken-earlier : (setup : Setup) (s : SessionNo) (k h : List Entry) → IsEarlier k h → taken setup k s ≤ taken setup h s
taken-earlier setup s k h before =
    let is : taken setup h s ≡ taken setup (before.later ++ k) s = ap (λ (l : List Entry). taken setup l s) before.is in
    omega (arith, taken-later setup s k before.later, is)

-- the calls that were taken then, among the presents of now
pub calls-taken : (setup : Setup) (s : SessionNo) (k h : List Entry) → IsEarlier k h → taken_calls setup k s ≡ made_at (presents s h) (taken setup k s)
calls-taken setup s k h before =
    let all = presents-begin s k h before in
    sym (ap (λ (ps : List Published). made_at ps (taken setup k s)) all.is ∙ made-earlier (presents s k) all.more (taken setup k s) (taken-made setup s k))

pub taken-fits : (setup : Setup) (s : SessionNo) (k h : List Entry) → IsEarlier k h → taken setup k s ≤ length (presents s h)
taken-fits setup s k h before = omega (arith, taken-earlier setup s k h before, taken-made setup s h)

-- nothing is taken but at a begin
pub taken-begin : (setup : Setup) (s : SessionNo) (h : List Entry) → taken setup h s ≡ taken setup (to_begin h) s
taken-begin setup s [] = refl
taken-begin setup s (h ▹ e) = by_kind (taken-begin setup s h) (is_begin e.kind) refl
  where
    by_kind : taken setup h s ≡ taken setup (to_begin h) s → (b : Bool) → is_begin e.kind ≡ b
        → taken setup (h ▹ e) s ≡ taken setup (cond b (h ▹ e) (to_begin h)) s
    by_kind before true is = refl
    by_kind before false is = taken-quiet setup h e s is ∙ before

no-begin-at-finish : (kind : EntryKind) → is_finish kind ≡ true → is_begin kind ≡ false
no-begin-at-finish (Begin time) is = cc
no-begin-at-finish kind is = refl

-- where no frame is open, the last one that is finished took all that was taken
pub taken-finished : (setup : Setup) (s : SessionNo) (h : List Entry) → is_frame_open h ≡ false → taken setup h s ≡ taken setup (to_finished h) s
taken-finished setup s [] rests = refl
taken-finished setup s (h ▹ e) rests = by_kind (λ r. taken-finished setup s h r) (is_begin e.kind) refl (is_finish e.kind) refl rests
  where
    by_kind : (is_frame_open h ≡ false → taken setup h s ≡ taken setup (to_finished h) s) → (b : Bool) → is_begin e.kind ≡ b → (f : Bool) → is_finish e.kind ≡ f
        → is_frame_open (h ▹ e) ≡ false
        → taken setup (h ▹ e) s ≡ taken setup (cond f (to_begin h) (to_finished h)) s
    by_kind before true begins f is r = let wrong : true ≡ false = rw begins at r in cc
    by_kind before false quiet true ends r = taken-quiet setup h e s quiet ∙ taken-begin setup s h
    by_kind before false quiet false goes r = taken-quiet setup h e s quiet ∙ before (rw (quiet, goes) at r)

frame-rests : (h : List Entry) (kind : EntryKind) → keeps_time h kind ≡ true → is_begin kind ≡ true → is_frame_open h ≡ false
frame-rests h (Begin time) keeps is = not-true (is_frame_open h) (and-left (not (is_frame_open h)) (nat_le (begin_time h) time) keeps)
frame-rests h _ keeps is = cc

-- what was taken before the open frame began is what the last finished one had taken
pub taken-begun : (setup : Setup) (s : SessionNo) (h : List Entry) → Legal setup h → is_frame_open h ≡ true
    → taken setup (drop 1 (to_begin h)) s ≡ taken setup (to_finished h) s
taken-begun setup s [] legal opened = refl
taken-begun setup s (h ▹ e) legal opened = by_kind (λ o. taken-begun setup s h legal.0 o) (is_begin e.kind) refl (is_finish e.kind) refl opened
  where
    by_kind : (is_frame_open h ≡ true → taken setup (drop 1 (to_begin h)) s ≡ taken setup (to_finished h) s) → (b : Bool) → is_begin e.kind ≡ b → (f : Bool)
        → is_finish e.kind ≡ f → is_frame_open (h ▹ e) ≡ true
        → taken setup (drop 1 (cond b (h ▹ e) (to_begin h))) s ≡ taken setup (cond f (to_begin h) (to_finished h)) s
    by_kind before true begins true ends o = let wrong : true ≡ false = sym begins ∙ no-begin-at-finish e.kind ends in cc
    by_kind before true begins false goes o = taken-finished setup s h (frame-rests h e.kind legal.1.may.times begins)
    by_kind before false quiet true ends o = let wrong : false ≡ true = rw (quiet, ends) at o in cc
    by_kind before false quiet false goes o = before (rw (quiet, goes) at o)

-- ---- how often calls that were taken did something

-- presents have seen no more than there is
pub times-seen : (setup : Setup) (test : Draft → Call → Bool) (s : SessionNo) (h : List Entry) (n : ℕ) → n ≤ length (presents s h)
    → times setup test (Ok empty_draft) (made_at (presents s h) n) ≤ times setup test (Ok empty_draft) (calls s h)
times-seen setup test s h n fits = by_count (times setup test (Ok empty_draft) (made_at (presents s h) n)) refl
    (nat_lt 0 (times setup test (Ok empty_draft) (made_at (presents s h) n))) refl
  where
    seen-some : (o : Option ℕ) → is_seen o n ≡ true → is_some o ≡ true
    seen-some None is = is
    seen-some (Some k) is = refl

    by_count : (m : ℕ) → times setup test (Ok empty_draft) (made_at (presents s h) n) ≡ m → (b : Bool)
        → nat_lt 0 (times setup test (Ok empty_draft) (made_at (presents s h) n)) ≡ b
        → times setup test (Ok empty_draft) (made_at (presents s h) n) ≤ times setup test (Ok empty_draft) (calls s h)
    by_count m is false none = grind (arith, nat_tests)
    by_count m is true some =
        let enough : List Call → Bool = λ cs. nat_le m (times setup test (Ok empty_draft) cs) in
        let stamps = stamped enough (often-lasts setup test m (grind (arith, nat_tests))) s h in
        let here : enough (made_at (presents s h) n) ≡ true = grind (arith, nat_tests) in
        let all : enough (calls s h) ≡ true = sym stamps.some ∙ seen-some (first_at enough s h) (sym (stamps.seen n fits) ∙ here) in
        grind (arith, nat_tests)

-- and later presents have seen no less
pub times-rise : (setup : Setup) (test : Draft → Call → Bool) (s : SessionNo) (h : List Entry) (n m : ℕ) → n ≤ m → m ≤ length (presents s h)
    → times setup test (Ok empty_draft) (made_at (presents s h) n) ≤ times setup test (Ok empty_draft) (made_at (presents s h) m)
times-rise setup test s h n m less fits = by_count (times setup test (Ok empty_draft) (made_at (presents s h) n)) refl
    (nat_lt 0 (times setup test (Ok empty_draft) (made_at (presents s h) n))) refl
  where
    seen-later : (o : Option ℕ) → is_seen o n ≡ true → is_seen o m ≡ true
    seen-later None is = is
    seen-later (Some k) is = grind (arith, nat_tests)

    by_count : (c : ℕ) → times setup test (Ok empty_draft) (made_at (presents s h) n) ≡ c → (b : Bool)
        → nat_lt 0 (times setup test (Ok empty_draft) (made_at (presents s h) n)) ≡ b
        → times setup test (Ok empty_draft) (made_at (presents s h) n) ≤ times setup test (Ok empty_draft) (made_at (presents s h) m)
    by_count c is false none = grind (arith, nat_tests)
    by_count c is true some =
        let enough : List Call → Bool = λ cs. nat_le c (times setup test (Ok empty_draft) cs) in
        let stamps = stamped enough (often-lasts setup test c (grind (arith, nat_tests))) s h in
        let here : enough (made_at (presents s h) n) ≡ true = grind (arith, nat_tests) in
        let few : n ≤ length (presents s h) = omega (arith, less, fits) in
        let then : enough (made_at (presents s h) m) ≡ true = stamps.seen m fits ∙ seen-later (first_at enough s h) (sym (stamps.seen n few) ∙ here) in
        grind (arith, nat_tests)

-- a history had taken no less than one entry before
pub taken-drop : (setup : Setup) (s : SessionNo) (h : List Entry) → taken setup (drop 1 h) s ≤ taken setup h s
taken-drop setup s [] = omega arith
taken-drop setup s (h ▹ e) = omega arith
