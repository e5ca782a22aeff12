-- The order of stamps, and that a session's presents only grow.
use Rattle.std.proofs.Common.{◌≡◌, ◌∙◌, sym, ℕ, ◌+◌, ◌≤◌, Bool, true, false, List, ◌++◌, length, refl, arith, ap, Some, None, length-append}
use Rattle.std.specs.Prelude.{Option, cond, nat_le}
use Rattle.std.specs.List.{list_any}
use Rattle.std.proofs.lemmas.Bool.Decides.{nat_tests}
use Rattle.flat_base.specs.declared.ids.SessionNo.{SessionNo}
use Rattle.flat_scene.specs.declared.calls.Call.{Call}
use Rattle.flat_scene.specs.declared.journal.Entry.{Entry}
use Rattle.flat_scene.specs.History.{◌▹◌, calls, is_session, presents, published, Published}
use Rattle.flat_scene.proofs.lemmas.Steps.{presents-own, presents-other}
use Rattle.flat_facts.specs.Views.{is_loss}
use Rattle.flat_links.specs.Hearing.{is_within}
use Rattle.flat_links.specs.Usage.{losing_then}

pub within-trans : (a b c : Option ℕ) → is_within a b ≡ true → is_within b c ≡ true → is_within a c ≡ true
within-trans None b c first second = refl
within-trans (Some k) None c first second = let wrong : false ≡ true = first in cc
within-trans (Some k) (Some m) None first second = let wrong : false ≡ true = second in cc
within-trans (Some k) (Some m) (Some n) first second = grind (arith, nat_tests)

pub within-self : (a : Option ℕ) → is_within a a ≡ true
within-self None = refl
within-self (Some k) = grind (arith, nat_tests)

pub within-more : (m n : ℕ) → m ≤ n → is_within (Some m) (Some n) ≡ true
within-more m n less = grind (arith, nat_tests)

-- a session makes no fewer presents by an entry
presents-rise : (s : SessionNo) (h : List Entry) (e : Entry) (b : Bool) → is_session s e.actor ≡ b → length (presents s h) ≤ length (presents s (h ▹ e))
presents-rise s h e true mine =
    let more : List Published = published e.kind e.reply (calls s h ++ e.calls) in
    let count : length (presents s (h ▹ e)) ≡ length (presents s h) + length more =
    ap (length {A = Published}) (presents-own s h e mine) ∙ length-append (presents s h) more in
    omega (arith, count)
presents-rise s h e false other =
    let count : length (presents s (h ▹ e)) ≡ length (presents s h) = ap (length {A = Published}) (presents-other s h e other) in
    omega (arith, count)

-- what was no later than the presents of before is no later than those of now
pub losing-stays : (s : SessionNo) (h : List Entry) (e : Entry) (losing : Option ℕ) → is_within losing (Some (length (presents s h))) ≡ true
    → is_within losing (Some (length (presents s (h ▹ e)))) ≡ true
losing-stays s h e losing is =
    within-trans losing (Some (length (presents s h))) (Some (length (presents s (h ▹ e)))) is
    (within-more (length (presents s h)) (length (presents s (h ▹ e))) (presents-rise s h e (is_session s e.actor) refl))

-- calls after which it may have lost an end
pub losing-next : (carries : List Call) (n : ℕ) (losing : Option ℕ) → is_within losing (Some n) ≡ true
    → (is_within losing (losing_then carries n losing) ≡ true) × (is_within (losing_then carries n losing) (Some n) ≡ true)
losing-next carries n losing is = by_loss (list_any is_loss carries)
  where
    by_loss : (b : Bool) → (is_within losing (cond b (Some n) losing) ≡ true) × (is_within (cond b (Some n) losing) (Some n) ≡ true)
    by_loss true = (is, within-self (Some n))
    by_loss false = (within-self losing, is)
