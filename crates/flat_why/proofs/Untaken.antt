-- A present is said to wait if and only if its session is open and no frame took it.
use Rattle.std.proofs.Common.{ℕ, ◌+◌, ◌-◌, ◌<◌, ◌≡◌, ◌≢◌, ◌⊎◌, inl, inr, refl, sym, ap, ◌∙◌, Bool, true, false, ◌&&◌, ◌||◌, not, cond, nat_lt, nat_le, List, []}
use Rattle.std.proofs.Common.{◌∷◌, ◌++◌, length, length-append, filter, map, arith}
use Rattle.std.specs.Prelude.{◌==◌}
use Rattle.std.specs.List.{list_any}
use Rattle.std.proofs.lemmas.Bool.{eqb-true}
use Rattle.std.proofs.lemmas.Bool.Decides.{eqb_tells, nat_tests}
use Rattle.std.proofs.lemmas.List.Folds.{list_any-append}
use Rattle.flat_base.proofs.lemmas.Tests.{and-left, and-right}
use Rattle.flat_base.specs.declared.ids.Actor.{Actor}
use Rattle.flat_base.specs.declared.ids.Actor.TheVariants.{Display, Session, Probe}
use Rattle.flat_base.specs.declared.ids.SessionNo.{SessionNo}
use Rattle.flat_facts.proofs.lemmas.Earlier.{begin-earlier, legal-earlier}
use Rattle.flat_rules.specs.Ends.{to_begin}
use Rattle.flat_rules.specs.Legal.{Legal, LegalEntry, reply_to}
use Rattle.flat_scene.specs.declared.calls.Call.{Call}
use Rattle.flat_scene.specs.declared.calls.PresentArgs.{PresentArgs}
use Rattle.flat_scene.specs.declared.journal.Entry.{Entry}
use Rattle.flat_scene.specs.declared.journal.EntryKind.{EntryKind}
use Rattle.flat_scene.specs.declared.journal.EntryKind.TheVariants as kind
use Rattle.flat_scene.specs.declared.journal.Reply.{Reply}
use Rattle.flat_scene.specs.declared.journal.Reply.TheVariants as reply
use Rattle.flat_scene.specs.declared.setup.Setup.{Setup}
use Rattle.flat_scene.specs.Frames.{credits, taken}
use Rattle.flat_scene.specs.History.{◌▹◌, calls, is_closed, is_session, presents, published, Published}
use Rattle.flat_scene.proofs.lemmas.Steps.{presents-other, presents-own}
use Rattle.flat_why.specs.declared.reasons.MadePresent.{MadePresent}
use Rattle.flat_why.specs.Reasons.{dues, dues_by, is_waiting, waiting_of}
use Rattle.flat_why.specs.Laws.{UntakenPresentsWait, is_said_to_wait}
use Rattle.flat_why.proofs.SessionEntries.{presented-number}

abbrev session : ℕ → SessionNo
session n = record { 0 = n }

abbrev no-more : List Published
no-more = []

-- ---- the presents of a session are those of its numbers

module _ (s : SessionNo) (k : ℕ) where
  abbrev is_it : MadePresent → Bool
  is_it due = due.session.0 == s.0 && due.number == k

  nothing-new : (n : ℕ) → (nat_le k n || false) ≡ nat_le k (n + 0)
  nothing-new n = grind (arith, nat_tests)

  one-new : (n number : ℕ) → number ≡ n + 1 → (nat_le k n || ((number == k) || false)) ≡ nat_le k (n + 1)
  one-new n number is = by (eqb_tells number k)
    where
      by : ((◌≡◌ (number == k) true) × (number ≡ k)) ⊎ ((◌≡◌ (number == k) false) × (number ≢ k)) → (nat_le k n || ((number == k) || false)) ≡ nat_le k (n + 1)
      by (inl same) = let test = same.0 in let e = same.1 in grind (arith, nat_tests, is, test, e)
      by (inr apart) = let test = apart.0 in let e = apart.1 in grind (arith, nat_tests, is, test, e)

  -- what an entry adds
  told-step : (a : Actor) (kd : EntryKind) (r : Reply) (made : List Call) (n : ℕ)
      → ((args : PresentArgs) (number left : ℕ) → is_session s a ≡ true → kd ≡ kind.Present args → r ≡ reply.Presented number left → number ≡ n + 1)
      → (nat_le k n || list_any is_it (dues_by a kd r)) ≡ nat_le k (n + length (cond (is_session s a) (published kd r made) []))
  told-step Display kd r made n numbered = nothing-new n
  told-step (Probe m) kd r made n numbered = nothing-new n
  told-step (Session t) kd r made n numbered = by-kind kd r refl refl
    where
      by-kind : (x : EntryKind) (y : Reply) → kd ≡ x → r ≡ y → (nat_le k n || list_any is_it (dues_by (Session t) x y))
          ≡ nat_le k (n + length (cond (t.0 == s.0) (published x y made) []))
      by-kind (kind.Present args) (reply.Presented number left) is answered = by (t.0 == s.0) refl
        where
          by : (b : Bool) → (t.0 == s.0) ≡ b → (nat_le k n || ((b && (number == k)) || false))
              ≡ nat_le k (n + length (cond b (published (kind.Present args) (reply.Presented number left) made) []))
          by true mine = one-new n number (numbered args number left mine is answered)
          by false mine = nothing-new n
      by-kind _ _ is answered = by (t.0 == s.0)
        where
          by : (b : Bool) → (nat_le k n || false) ≡ nat_le k (n + length (cond b no-more no-more))
          by true = nothing-new n
          by false = nothing-new n

  module _ (setup : Setup) where
    numbered-by : (h : List Entry) (e : Entry) → LegalEntry setup h e → (args : PresentArgs) (number left : ℕ) → is_session s e.actor ≡ true
        → e.kind ≡ kind.Present args → e.reply ≡ reply.Presented number left → number ≡ length (presents s h) + 1
    numbered-by h e legal args number left mine is answered = by e.actor refl mine
      where
        by : (a : Actor) → e.actor ≡ a → is_session s a ≡ true → number ≡ length (presents s h) + 1
        by Display who wrong = absurd (let false-true : false ≡ true = wrong in cc)
        by (Probe m) who wrong = absurd (let false-true : false ≡ true = wrong in cc)
        by (Session t) who same =
            let replied : reply.Presented number left ≡ reply_to setup h (Session t) e.calls (kind.Present args) =
            sym answered ∙ legal.reply ∙ ap (λ (a : Actor). reply_to setup h a e.calls e.kind) who ∙ ap (reply_to setup h (Session t) e.calls) is in
            let counts : number ≡ length (presents t h) + 1 =
            presented-number (nat_lt 0 (credits setup h t)) (length (presents t h) + 1) number (credits setup h t - 1) left _ (λ n c wrong. absurd (cc))
            replied in
            counts ∙ ap (λ (n : ℕ). length (presents (session n) h) + 1) (eqb-true t.0 s.0 same)

    count-step : (h : List Entry) (e : Entry) → length (presents s (h ▹ e))
        ≡ length (presents s h) + length (cond (is_session s e.actor) (published e.kind e.reply (calls s h ++ e.calls)) [])
    count-step h e = by (is_session s e.actor) refl
      where
        by : (b : Bool) → is_session s e.actor ≡ b → length (presents s (h ▹ e))
            ≡ length (presents s h) + length (cond b (published e.kind e.reply (calls s h ++ e.calls)) [])
        by true mine = ap length (presents-own s h e mine) ∙ length-append (presents s h) (published e.kind e.reply (calls s h ++ e.calls))
        by false other = ap length (presents-other s h e other) ∙ (let none : length (presents s h) ≡ length (presents s h) + 0 = omega arith in none)

    dues-told : (h : List Entry) → Legal setup h → 0 < k → list_any is_it (dues h) ≡ nat_le k (length (presents s h))
    dues-told [] legal positive = let none : false ≡ nat_le k 0 = grind (arith, nat_tests, positive) in none
    dues-told (h ▹ e) legal positive =
        list_any-append is_it (dues h) (dues_by e.actor e.kind e.reply)
        ∙ ap (λ (b : Bool). b || list_any is_it (dues_by e.actor e.kind e.reply)) (dues-told h legal.0 positive)
        ∙ told-step e.actor e.kind e.reply (calls s h ++ e.calls) (length (presents s h)) (numbered-by h e legal.1)
        ∙ ap (λ (n : ℕ). nat_le k n) (sym (count-step h e))

    -- ---- of those some wait

    mixed : (w held m later had : Bool) → later ≡ (held && had) → (m ≡ true → w ≡ held) → cond w (m || later) later ≡ (held && (m || had))
    mixed true true true later had is same = refl
    mixed true true false later had is same = is
    mixed true false true later had is same = let wrong : true ≡ false = same refl in absurd (cc)
    mixed true false false later had is same = is
    mixed false true true later had is same = let wrong : false ≡ true = same refl in absurd (cc)
    mixed false true false later had is same = is
    mixed false false m later had is same = is

    module _ (begun : List Entry) where
      abbrev waits : Bool
      waits = not (is_closed s begun) && nat_lt (taken setup begun s) k

      its-own : (due : MadePresent) → is_it due ≡ true → is_waiting setup begun due ≡ waits
      its-own due it =
          let who : due.session.0 ≡ s.0 = eqb-true due.session.0 s.0 (and-left (due.session.0 == s.0) (due.number == k) it) in
          let which : due.number ≡ k = eqb-true due.number k (and-right (due.session.0 == s.0) (due.number == k) it) in
          (λ i. not (is_closed (session (who i)) begun) && nat_lt (taken setup begun (session (who i))) (which i))

      said-by : (all : List MadePresent) → is_said_to_wait (map (waiting_of setup begun) (filter (is_waiting setup begun) all)) s k
          ≡ (waits && list_any is_it all)
      said-by [] = by waits
        where
          by : (b : Bool) → false ≡ (b && false)
          by true = refl
          by false = refl
      said-by (due ∷ all) = by (is_waiting setup begun due) (its-own due)
          ∙ mixed (is_waiting setup begun due) waits (is_it due) (is_said_to_wait (map (waiting_of setup begun) (filter (is_waiting setup begun) all)) s k)
          (list_any is_it all) (said-by all) (its-own due)
        where
          by : (b : Bool) → (is_it due ≡ true → b ≡ waits) → is_said_to_wait
              (map (waiting_of setup begun) (cond b (due ∷ filter (is_waiting setup begun) all) (filter (is_waiting setup begun) all))) s k
              ≡ cond b (is_it due || is_said_to_wait (map (waiting_of setup begun) (filter (is_waiting setup begun) all)) s k)
              (is_said_to_wait (map (waiting_of setup begun) (filter (is_waiting setup begun) all)) s k)
          by true same = refl
          by false same = refl

and-one : (a b : Bool) → b ≡ true → (a && b) ≡ a
and-one true b is = is
and-one false b is = refl

pub untaken-presents-wait : UntakenPresentsWait
untaken-presents-wait setup history legal s k positive few =
    let begun = to_begin history in
    let lawful : Legal setup begun = legal-earlier setup begun history (begin-earlier history) legal in
    let all : nat_le k (length (presents s begun)) ≡ true = grind (arith, nat_tests, few) in
    said-by s k setup begun (dues begun) ∙ and-one (waits s k setup begun) (list_any (is_it s k) (dues begun)) (dues-told s k setup begun lawful positive ∙ all)
