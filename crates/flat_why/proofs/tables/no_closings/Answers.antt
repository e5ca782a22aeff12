use Rattle.std.proofs.Common.{◌++◌, ◌∷◌, [], ℕ, ap, ◌∙◌, replicate, None, arith}
use Rattle.std.proofs.lemmas.List.{replicate-append-replicate}
use Rattle.flat_why.proofs.tables.no_closings.Goals as goal

pub loop-preserved : goal.loop-preserved
loop-preserved c = c.in_ok-push.ensures.items ∙ ap (λ xs. xs ++ None ∷ []) c.loop.invariant ∙ replicate-append-replicate c.loop.counter 1 None

pub returns : goal.returns
returns c = c.loop.invariant ∙ ap (λ (n : ℕ). replicate n None) (omega (arith, c.loop-test.false, c.loop.auto.counter-end))
