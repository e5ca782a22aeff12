-- What holds of a session's calls is seen by exactly the presents after its stamp.
use Rattle.std.proofs.Common.{◌≡◌, ◌∙◌, sym, subst, ℕ, ◌<◌, ◌≤◌, Bool, true, false, List, [], ◌++◌, length, refl, arith, ap, Some, None, Ok, inl, inr, ◌⊎◌}
use Rattle.std.proofs.Common.{length-append}
use Rattle.std.specs.Prelude.{cond, nat_lt, nat_le, Option, is_some}
use Rattle.std.proofs.lemmas.Bool.Decides.{nat_tests}
use Rattle.flat_base.specs.declared.ids.SessionNo.{SessionNo}
use Rattle.flat_scene.specs.declared.calls.Call.{Call}
use Rattle.flat_scene.specs.declared.journal.Entry.{Entry}
use Rattle.flat_scene.specs.declared.setup.Setup.{Setup}
use Rattle.flat_scene.specs.Draft.{Draft, empty_draft}
use Rattle.flat_scene.specs.History.{◌▹◌, calls, is_session, presents, published, Published}
use Rattle.flat_rules.specs.Ends.{times, happens}
use Rattle.flat_rules.specs.Stamps.{first_at, is_seen}
use Rattle.std.specs.Option.{option_or}
use Rattle.flat_facts.proofs.lemmas.ViewCalls.{times-append}
use Rattle.flat_facts.proofs.lemmas.ViewHistory.{published-made}
use Rattle.flat_facts.proofs.lemmas.ViewLaw.{made_at, MadeOf, made-earlier, le-or-lt}

-- A test of calls that holds of none, and goes on to hold.
pub record IsLasting (test : List Call → Bool) : Type 0 where
  pub none : test [] ≡ false
  pub stays : (cs more : List Call) → test cs ≡ true → test (cs ++ more) ≡ true

-- What a stamp says of a session's calls and presents.
pub record Stamped (test : List Call → Bool) (cs : List Call) (ps : List Published) (first : Option ℕ) : Type 0 where
  pub some : is_some first ≡ test cs
  pub fits : (k : ℕ) → first ≡ Some k → k ≤ length ps
  pub seen : (n : ℕ) → n ≤ length ps → test (made_at ps n) ≡ is_seen first n

-- more calls, and maybe a present of them all
module _ (test : List Call → Bool) (lasting : IsLasting test) (cs carries : List Call) (ps more : List Published) (made : MadeOf ps more (cs ++ carries)) where
  abbrev now : Option ℕ → Option ℕ
  now first = option_or first (cond (test (cs ++ carries)) (Some (length ps)) None)

  some-more : (first : Option ℕ) → is_some first ≡ test cs → is_some (now first) ≡ test (cs ++ carries)
  some-more (Some k) some = sym (lasting.stays cs carries (sym some))
  some-more None some = by_test (test (cs ++ carries))
    where
      by_test : (b : Bool) → is_some (cond b (Some (length ps)) None) ≡ b
      by_test true = refl
      by_test false = refl

  fits-more : (first : Option ℕ) → ((k : ℕ) → first ≡ Some k → k ≤ length ps) → (k : ℕ) → now first ≡ Some k → k ≤ length (ps ++ more)
  fits-more (Some j) fits k is = omega (arith, fits k is, length-append ps more)
  fits-more None fits k is = by_test (test (cs ++ carries)) is
    where
      by_test : (b : Bool) → cond b (Some (length ps)) None ≡ Some k → k ≤ length (ps ++ more)
      by_test true e = let same : length ps ≡ k = cc in omega (arith, same, length-append ps more)
      by_test false e = cc

  seen-before : (first : Option ℕ) (n : ℕ) → n ≤ length ps → is_seen (now first) n ≡ is_seen first n
  seen-before (Some k) n few = refl
  seen-before None n few = by_test (test (cs ++ carries))
    where
      by_test : (b : Bool) → is_seen (cond b (Some (length ps)) None) n ≡ false
      by_test true = grind (arith, nat_tests)
      by_test false = refl

  seen-after : (first : Option ℕ) (n : ℕ) → is_some first ≡ test cs → ((k : ℕ) → first ≡ Some k → k ≤ length ps) → length ps < n
      → is_seen (now first) n ≡ test (cs ++ carries)
  seen-after (Some k) n some fits past =
      let few : k ≤ length ps = fits k refl in
      let less : nat_lt k n ≡ true = grind (arith, nat_tests) in
      less ∙ sym (lasting.stays cs carries (sym some))
  seen-after None n some fits past = by_test (test (cs ++ carries))
    where
      by_test : (b : Bool) → is_seen (cond b (Some (length ps)) None) n ≡ b
      by_test true = grind (arith, nat_tests)
      by_test false = refl

  stamped-more : (first : Option ℕ) → Stamped test cs ps first → Stamped test (cs ++ carries) (ps ++ more) (now first)
  stamped-more first old = record {
    some = some-more first old.some;
    fits = fits-more first old.fits;
    seen = λ n few. by_place n few (le-or-lt n (length ps));
  }
    where
      by_place : (n : ℕ) → n ≤ length (ps ++ more) → (n ≤ length ps) ⊎ (length ps < n) → test (made_at (ps ++ more) n) ≡ is_seen (now first) n
      by_place n few (inl less) = ap test (made-earlier ps more n less) ∙ old.seen n less ∙ sym (seen-before first n less)
      by_place n few (inr past) = ap test (made n past few) ∙ sym (seen-after first n old.some old.fits past)

-- no more calls
same-stamp : (test : List Call → Bool) (cs : List Call) (k : ℕ) (first : Option ℕ) → is_some first ≡ test cs
    → option_or first (cond (test cs) (Some k) None) ≡ first
same-stamp test cs k (Some j) some = refl
same-stamp test cs k None some = rw (sym some) refl

stamped-by : (test : List Call → Bool) → IsLasting test → (s : SessionNo) (h : List Entry) (e : Entry)
    → Stamped test (calls s h) (presents s h) (first_at test s h)
    → (b : Bool) → is_session s e.actor ≡ b → Stamped test (calls s (h ▹ e)) (presents s (h ▹ e)) (first_at test s (h ▹ e))
stamped-by test lasting s h e old true mine =
    let here : Stamped test (calls s h ++ e.calls) (presents s h ++ published e.kind e.reply (calls s h ++ e.calls))
    (option_or (first_at test s h) (cond (test (calls s h ++ e.calls)) (Some (length (presents s h))) None)) =
    stamped-more test lasting (calls s h) e.calls (presents s h) (published e.kind e.reply (calls s h ++ e.calls))
    (published-made e.kind e.reply (presents s h) (calls s h ++ e.calls)) (first_at test s h) old in
    rw mine here
stamped-by test lasting s h e old false other =
    let S : Option ℕ → Type 0 = λ first. Stamped test (calls s h) (presents s h) first in
    let here : Stamped test (calls s h) (presents s h) (option_or (first_at test s h) (cond (test (calls s h)) (Some (length (presents s h))) None)) =
    subst S (sym (same-stamp test (calls s h) (length (presents s h)) (first_at test s h) old.some)) old in
    rw other here

pub stamped : (test : List Call → Bool) → IsLasting test → (s : SessionNo) (h : List Entry) → Stamped test (calls s h) (presents s h) (first_at test s h)
stamped test lasting s [] = record { some = sym lasting.none; fits = λ k is. cc; seen = λ n few. lasting.none }
stamped test lasting s (h ▹ e) = stamped-by test lasting s h e (stamped test lasting s h) (is_session s e.actor) refl

-- another's entry leaves a stamp as it is
pub stamp-other : (test : List Call → Bool) → IsLasting test → (s : SessionNo) (h : List Entry) (e : Entry) → is_session s e.actor ≡ false
    → first_at test s (h ▹ e) ≡ first_at test s h
stamp-other test lasting s h e other =
    let same : option_or (first_at test s h) (cond (test (calls s h)) (Some (length (presents s h))) None) ≡ first_at test s h =
    same-stamp test (calls s h) (length (presents s h)) (first_at test s h) (stamped test lasting s h).some in
    rw other same

-- ---- tests that count calls

-- that it happens so often lasts
pub often-lasts : (setup : Setup) (test : Draft → Call → Bool) (n : ℕ) → 0 < n → IsLasting (λ cs. nat_le n (times setup test (Ok empty_draft) cs))
often-lasts setup test n some = record { none = grind (arith, nat_tests); stays = stays }
  where
    stays : (cs more : List Call) → nat_le n (times setup test (Ok empty_draft) cs) ≡ true → nat_le n (times setup test (Ok empty_draft) (cs ++ more)) ≡ true
    stays cs more here = let all = times-append setup test (Ok empty_draft) cs more in grind (arith, nat_tests)

pub happening-lasts : (setup : Setup) (test : Draft → Call → Bool) → IsLasting (happens setup test)
happening-lasts setup test = record { none = refl; stays = stays }
  where
    stays : (cs more : List Call) → happens setup test cs ≡ true → happens setup test (cs ++ more) ≡ true
    stays cs more here = let all = times-append setup test (Ok empty_draft) cs more in grind (arith, nat_tests)
