-- One entry more in what is kept.
use Rattle.std.proofs.Common.{ℕ, ◌-◌, ◌<◌, ◌≤◌, ◌≡◌, ◌≢◌, ◌⊎◌, inl, inr, refl, sym, ap, ◌∙◌, Bool, true, false, not, ◌||◌, cond, nat_lt, nat_le, List, [], ◌∷◌}
use Rattle.std.proofs.Common.{◌++◌, length, filter, Option, Some, None, slice_index_or, slice_set, arith}
use Rattle.std.specs.Prelude.{◌==◌}
use Rattle.std.specs.List.{list_any}
use Rattle.std.proofs.lemmas.Bool.Decides.{eqb_tells, nat_tests}
use Rattle.std.proofs.lemmas.List.{get_or-set_other, get_or-set_same}
use Rattle.flat_base.proofs.lemmas.Tests.{and-left, and-right, and-true}
use Rattle.flat_base.specs.declared.ids.Actor.{Actor}
use Rattle.flat_base.specs.declared.ids.Actor.TheVariants.{Session}
use Rattle.flat_base.specs.declared.ids.PairNo.{PairNo}
use Rattle.flat_base.specs.declared.ids.SessionNo.{SessionNo}
use Rattle.flat_scene.specs.declared.journal.Entry.{Entry}
use Rattle.flat_scene.specs.declared.setup.Setup.{Setup}
use Rattle.flat_scene.specs.Frames.{taken}
use Rattle.flat_scene.specs.History.{◌▹◌, closes, is_begin, is_closed, is_session, own}
use Rattle.flat_scene.specs.Setups.{is_declared}
use Rattle.flat_facts.proofs.lemmas.Earlier.{begin-earlier, one-earlier, taken-earlier}
use Rattle.flat_rules.specs.Ends.{to_begin}
use Rattle.flat_rules.specs.Shown.{is_pair}
use Rattle.flat_why.specs.declared.reasons.CloseReason.{CloseReason}
use Rattle.flat_why.specs.declared.reasons.MadePresent.{MadePresent}
use Rattle.flat_why.specs.Reasons.{closing_by, closing_of, dues, dues_by, is_waiting, last_use, made_by, used_by}
use Rattle.std.specs.Option.{option_or}
use Rattle.flat_why.specs.Noted.{closings_in, uses_in, with_closing, with_use}

-- ---- numbers of sessions

pub declared-number : (setup : Setup) (s : SessionNo) → is_declared setup s ≡ true → (0 < s.0) × (s.0 ≤ setup.sessions)
declared-number setup s is =
    let low : nat_lt 0 s.0 ≡ true = and-left (nat_lt 0 s.0) (nat_le s.0 setup.sessions) is in
    let high : nat_le s.0 setup.sessions ≡ true = and-right (nat_lt 0 s.0) (nat_le s.0 setup.sessions) is in
    (grind (arith, nat_tests), grind (arith, nat_tests))

-- ---- how sessions were closed

nothing-new : (b : Bool) (before : Option CloseReason) → option_or (cond b None None) before ≡ before
nothing-new true before = refl
nothing-new false before = refl

pub closed-step : (setup : Setup) (old : List Entry) (entry : Entry) (s : SessionNo) (closings new : List (Option CloseReason)) → entry.actor ≡ Session s
    → is_declared setup s ≡ true → length closings ≡ setup.sessions
    → new ≡ with_closing s (closing_by entry.line entry.reply) closings
    → ((t : SessionNo) → is_declared setup t ≡ true → closings_in closings t ≡ closing_of t old)
    → (t : SessionNo) → is_declared setup t ≡ true → closings_in new t ≡ closing_of t (old ▹ entry)
closed-step setup old entry s closings new mine known many is was t there = ap (λ cs. closings_in cs t) is ∙ by (closing_by entry.line entry.reply) ∙ sym after
  where
    after : closing_of t (old ▹ entry) ≡ option_or (cond (s.0 == t.0) (closing_by entry.line entry.reply) None) (closing_of t old)
    after = ap (λ (a : Actor). option_or (cond (is_session t a) (closing_by entry.line entry.reply) None) (closing_of t old)) mine

    by : (c : Option CloseReason) → closings_in (with_closing s c closings) t ≡ option_or (cond (s.0 == t.0) c None) (closing_of t old)
    by None = was t there ∙ sym (nothing-new (s.0 == t.0) (closing_of t old))
    by (Some closing) = by_test (eqb_tells s.0 t.0)
      where
        here : (0 < s.0) × (s.0 ≤ setup.sessions)
        here = declared-number setup s known

        far : (0 < t.0) × (t.0 ≤ setup.sessions)
        far = declared-number setup t there

        by_test : ((◌≡◌ (s.0 == t.0) true) × (s.0 ≡ t.0)) ⊎ ((◌≡◌ (s.0 == t.0) false) × (s.0 ≢ t.0))
            → closings_in (slice_set closings (s.0 - 1) (Some closing)) t ≡ option_or (cond (s.0 == t.0) (Some closing) None) (closing_of t old)
        by_test (inl same) =
            let place : t.0 - 1 ≡ s.0 - 1 = ap (λ n. n - 1) (sym same.1) in
            let low : s.0 - 1 < length closings = let a = here.0 in let b = here.1 in omega (arith, a, b, many) in
            ap (λ n. slice_index_or (slice_set closings (s.0 - 1) (Some closing)) n None) place ∙ get_or-set_same closings (s.0 - 1) (Some closing) None low
            ∙ sym (ap (λ b. option_or (cond b (Some closing) None) (closing_of t old)) same.0)
        by_test (inr apart) =
            let other : t.0 - 1 ≢ s.0 - 1 = λ e. apart.1 (let a = here.0 in let b = far.0 in omega (arith, a, b, e)) in
            get_or-set_other closings (s.0 - 1) (t.0 - 1) (Some closing) None other ∙ was t there
            ∙ sym (ap (λ b. option_or (cond b (Some closing) None) (closing_of t old)) apart.0)

-- an entry that closes nobody
pub closed-other : (old : List Entry) (entry : Entry) (t : SessionNo) → is_session t entry.actor ≡ false → closing_of t (old ▹ entry) ≡ closing_of t old
closed-other old entry t other = ap (λ b. option_or (cond b (closing_by entry.line entry.reply) None) (closing_of t old)) other

-- ---- the last uses of viewport ends

pub used-step : (old : List Entry) (entry : Entry) (uses new : List (Option ℕ)) (many made : ℕ) → made ≡ made_by entry.actor (old ▹ entry) → length uses ≡ many
    → new ≡ with_use (used_by entry.kind entry.reply) made uses → ((p : PairNo) → p.0 < many → uses_in uses p ≡ last_use p old)
    → (p : PairNo) → p.0 < many → uses_in new p ≡ last_use p (old ▹ entry)
used-step old entry uses new many made count all is was p low = ap (λ us. uses_in us p) is ∙ by (used_by entry.kind entry.reply)
  where
    by : (used : Option PairNo) → uses_in (with_use used made uses) p ≡ cond (is_pair used p) (Some (made_by entry.actor (old ▹ entry))) (last_use p old)
    by None = was p low
    by (Some q) = by_test (eqb_tells q.0 p.0)
      where
        by_test : ((◌≡◌ (q.0 == p.0) true) × (q.0 ≡ p.0)) ⊎ ((◌≡◌ (q.0 == p.0) false) × (q.0 ≢ p.0))
            → uses_in (slice_set uses q.0 (Some made)) p ≡ cond (q.0 == p.0) (Some (made_by entry.actor (old ▹ entry))) (last_use p old)
        by_test (inl same) =
            let within : q.0 < length uses = let e = same.1 in omega (arith, e, low, all) in
            ap (λ n. slice_index_or (slice_set uses q.0 (Some made)) n None) (sym same.1) ∙ get_or-set_same uses q.0 (Some made) None within ∙ ap Some count
            ∙ sym (ap (λ b. cond b (Some (made_by entry.actor (old ▹ entry))) (last_use p old)) same.0)
        by_test (inr apart) =
            get_or-set_other uses q.0 p.0 (Some made) None (λ e. apart.1 (sym e)) ∙ was p low
            ∙ sym (ap (λ b. cond b (Some (made_by entry.actor (old ▹ entry))) (last_use p old)) apart.0)

-- ---- presents that wait

-- who isn't closed wasn't before
open-before : (s : SessionNo) (old : List Entry) (entry : Entry) → is_closed s (old ▹ entry) ≡ false → is_closed s old ≡ false
open-before s old entry unclosed = by (is_session s entry.actor) unclosed
  where
    by : (b : Bool) → list_any (λ (one : Entry). closes one.reply) (cond b (entry ∷ own s old) (own s old)) ≡ false → is_closed s old ≡ false
    by true unclosed = or-right-false (closes entry.reply) (is_closed s old) unclosed
      where
        or-right-false : (a b : Bool) → (a || b) ≡ false → b ≡ false
        or-right-false true b wrong = absurd (cc)
        or-right-false false b none = none
    by false unclosed = unclosed

pub open-begin : (s : SessionNo) (old : List Entry) → is_closed s old ≡ false → is_closed s (to_begin old) ≡ false
open-begin s [] unclosed = unclosed
open-begin s (old ▹ entry) unclosed = by (is_begin entry.kind) (open-begin s old (open-before s old entry unclosed))
  where
    by : (b : Bool) → is_closed s (to_begin old) ≡ false → is_closed s (cond b (old ▹ entry) (to_begin old)) ≡ false
    by true earlier = unclosed
    by false earlier = earlier

not-false : (b : Bool) → not b ≡ true → b ≡ false
not-false true wrong = absurd (cc)
not-false false is = refl

is-not : (b : Bool) → b ≡ false → not b ≡ true
is-not true wrong = absurd (cc)
is-not false is = refl

-- what waits at a begin was there before, or waited at the begin before
pub waits-on : (setup : Setup) (old : List Entry) (entry : Entry) (due : MadePresent) → is_waiting setup (old ▹ entry) due ≡ true
    → is_waiting setup (to_begin old) due ≡ true
waits-on setup old entry due waits =
    let unclosed : is_closed due.session (old ▹ entry) ≡ false =
    not-false _ (and-left (not (is_closed due.session (old ▹ entry))) (nat_lt (taken setup (old ▹ entry) due.session) due.number) waits) in
    let late : nat_lt (taken setup (old ▹ entry) due.session) due.number ≡ true =
    and-right (not (is_closed due.session (old ▹ entry))) (nat_lt (taken setup (old ▹ entry) due.session) due.number) waits in
    let rises : taken setup (to_begin old) due.session ≤ taken setup (old ▹ entry) due.session =
    taken-earlier setup due.session (to_begin old) (old ▹ entry) (one-earlier (to_begin old) old entry (begin-earlier old)) in
    and-true (is-not _ (open-begin due.session old (open-before due.session old entry unclosed)))
    (let before : nat_lt (taken setup (to_begin old) due.session) due.number ≡ true = grind (arith, nat_tests, rises, late) in before)

-- a test that asks for more
filter-more : {A : Type 0} (p q : A → Bool) (xs : List A) → ((x : A) → p x ≡ true → q x ≡ true) → filter p (filter q xs) ≡ filter p xs
filter-more p q [] more = refl
filter-more p q (x ∷ xs) more = by (filter-more p q xs more) (q x) refl (p x) refl
  where
    by : filter p (filter q xs) ≡ filter p xs → (b : Bool) → q x ≡ b → (c : Bool) → p x ≡ c
        → filter p (cond b (x ∷ filter q xs) (filter q xs)) ≡ cond (p x) (x ∷ filter p xs) (filter p xs)
    by rest true is c it = ap (λ ys. cond (p x) (x ∷ ys) ys) rest
    by rest false is true it = absurd (let wrong : false ≡ true = sym is ∙ more x it in cc)
    by rest false is false it = rest ∙ sym (ap (λ b. cond b (x ∷ filter p xs) (filter p xs)) it)

pub dues-begun : (setup : Setup) (old : List Entry) (entry : Entry) (kept : List MadePresent) → kept ≡ filter (is_waiting setup (to_begin old)) (dues old)
    → dues_by entry.actor entry.kind entry.reply ≡ []
    → filter (is_waiting setup (old ▹ entry)) kept ≡ filter (is_waiting setup (old ▹ entry)) (dues (old ▹ entry))
dues-begun setup old entry kept is none =
    ap (filter (is_waiting setup (old ▹ entry))) is ∙ filter-more (is_waiting setup (old ▹ entry)) (is_waiting setup (to_begin old)) (dues old)
    (waits-on setup old entry)
    ∙ sym (ap (λ ds. filter (is_waiting setup (old ▹ entry)) (dues old ++ ds)) none ∙ ap (filter (is_waiting setup (old ▹ entry))) (append-none (dues old)))
  where
    append-none : (xs : List MadePresent) → xs ++ [] ≡ xs
    append-none [] = refl
    append-none (x ∷ xs) = ap (λ ys. x ∷ ys) (append-none xs)
