use Rattle.std.proofs.Common.{◌++◌, ◌∷◌, [], ℕ, ap, ◌∙◌, replicate, arith}
use Rattle.std.proofs.lemmas.List.{replicate-append-replicate}
use Rattle.flat_judge.proofs.opening.first_places.Goals as goal

pub loop-preserved : goal.loop-preserved
loop-preserved c = c.in_ok-push.ensures.ok ∙ ap (λ ps. ps ++ 0 ∷ []) c.loop.invariant ∙ replicate-append-replicate c.loop.counter 1 0

pub returns : goal.returns
returns c = c.loop.invariant ∙ ap (λ (n : ℕ). replicate n 0) (omega (arith, c.loop-test.false, c.loop.auto.counter-end))
