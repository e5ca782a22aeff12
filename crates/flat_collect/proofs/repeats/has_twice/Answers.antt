use Rattle.std.proofs.Common.{rules}
use Rattle.std.specs.Prelude.{nat_lt}
use Rattle.std.proofs.lemmas.List.Sorted.{answers_always}
use Rattle.flat_collect.proofs.Twice.{twice_from_sorted}
use Rattle.flat_collect.proofs.repeats.has_twice.Goals as goal

pub returns : goal.returns
returns c =
    let answer = rw (c.deref.ensures.value) at c.is_sorted_by.ensures.cases nat_lt (answers_always _ _ _ (λ f a r g called. search rules)) in
    twice_from_sorted _ _ _ c.sort_unstable.ensures.permutation c.sort_unstable.ensures.sorted answer
