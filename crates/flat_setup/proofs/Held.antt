-- A builder keeps what it keeps when a session is declared that isn't refused.
use Rattle.std.proofs.Common.{◌≡◌, ℕ, ◌+◌, ◌<◌, ◌≤◌, Bool, [], ◌∷◌, ap, ◌∙◌, arith, length-append}
use Rattle.std.specs.Prelude.{None, sum}
use Rattle.flat_base.specs.declared.limits.TheConstants.{SESSIONS_MAX}
use Rattle.std.proofs.lemmas.Bool.{leb-true, ltb-true}
use Rattle.flat_setup.specs.declared.fault.TheConstants.{DISPLAY_OWES, SESSION_OWES, ENTRIES_MAX}
use Rattle.flat_setup.specs.Builders.{Plan, IsHeld, with_session, shares_of}
use Rattle.flat_setup.specs.Faults.{session_fault}
use Rattle.flat_setup.proofs.FaultLemmas.{none-unless}
use Rattle.flat_setup.proofs.Keeping.{owners-more, shares-more}

module _ (plan : Plan) (paired : Bool) (total : ℕ) (held : IsHeld plan paired total) where
  pub held-session : (entries : ℕ) → session_fault plan entries ≡ None → IsHeld (with_session plan entries) paired (total + (entries + SESSION_OWES))
  held-session entries none =
      let few = none-unless _ _ _ none in
      let fit = none-unless _ _ _ few.1 in
      let below : plan.setup.sessions < SESSIONS_MAX = ltb-true _ _ few.0 in
      let enough : sum (shares_of plan) + (entries + SESSION_OWES) ≤ ENTRIES_MAX = leb-true _ _ fit.0 in
      let more : ℕ → ℕ = λ n. n + SESSION_OWES in
      let kept = held.kept in
      record {
        kept = record {
          counted = length-append plan.sessions (entries ∷ []) ∙ ap (λ n. n + 1) kept.counted;
          silent = kept.silent;
          sessions = omega arith;
          pairs = kept.pairs;
          buffers = kept.buffers;
          fences = kept.fences;
          owned = owners-more plan.setup kept.owned;
          alone = kept.alone;
        };
        display = held.display;
        sum_of = omega (arith, shares-more (plan.display + DISPLAY_OWES) more plan.sessions entries, held.sum_of);
        low = omega (arith, held.sum_of);
      }
