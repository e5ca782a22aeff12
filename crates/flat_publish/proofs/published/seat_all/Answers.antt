use Rattle.std.proofs.Common.{ℕ, ◌≡◌, ◌+◌, ◌++◌, ◌∷◌, [], List, Some, replicate, ap, ◌∙◌, arith}
use Rattle.std.proofs.lemmas.List.{replicate-append-replicate}
use Rattle.flat_publish.specs.State.{newcomer}
use Rattle.flat_publish.proofs.published.seat_all.Goals as goal

pub seat-requires-clause-home : goal.seat-requires-clause-home
seat-requires-clause-home c = c.loop.invariant.1 ∙ c.requires.home

pub returns-in_err-probe-clause-kept : goal.returns-in_err-probe-clause-kept
returns-in_err-probe-clause-kept c = (c.seat.ensures.kept.0 ∙ c.loop.invariant.0, c.seat.ensures.kept.1 ∙ c.loop.invariant.1)

pub returns-clause-kept : goal.returns-clause-kept
returns-clause-kept c = (c.loop.invariant.0, c.loop.invariant.1)

pub returns-clause-probes : goal.returns-clause-probes
returns-clause-probes c = c.loop.invariant.2 ∙ ap (λ n. replicate n (Some (newcomer c.args.seen.now.book)))
    (omega (arith, c.loop-test.false, c.loop.auto.counter-end))

pub returns-in_err-push-clause-kept : goal.returns-in_err-push-clause-kept
returns-in_err-push-clause-kept c = (c.seat.ensures.kept.0 ∙ c.loop.invariant.0, c.seat.ensures.kept.1 ∙ c.loop.invariant.1)

-- one probe more
one_more : {X : Type 0} (all longer : List X) (n : ℕ) (x y : X) → all ≡ replicate n x → longer ≡ all ++ y ∷ [] → y ≡ x → longer ≡ replicate (n + 1) x
one_more {X} all longer n x y so_far more same =
    more ∙ ap (λ (xs : List X). xs ++ y ∷ []) so_far ∙ ap (λ (z : X). replicate n x ++ z ∷ []) same ∙ replicate-append-replicate n 1 x

pub loop-preserved : goal.loop-preserved
loop-preserved c = (
  c.seat.ensures.kept.0 ∙ c.loop.invariant.0,
  c.seat.ensures.kept.1 ∙ c.loop.invariant.1,
  one_more c.loop.all.items c.push.new.self.items c.loop.counter _ (Some c.in_ok-probe.probe) c.loop.invariant.2 c.in_ok-push.ensures.items
      (ap Some c.in_ok-probe.ensures.probe),
)
