use Rattle.std.proofs.Common.{sym, ◌∙◌}
use Rattle.flat_places.proofs.ChoiceLemmas.{chosen_low, chosen_past, chosen_at}
use Rattle.flat_places.proofs.numbers.chosen.Goals as goal

pub returns-then-number-first : goal.returns-then-number-first
returns-then-number-first g c = sym (chosen_low c.args.first c.in-Some.number c.args.values.now _ (sym c.read_natural.ensures.value ∙ c.in-Some.is)
    c.if-number-first.true)

pub returns-then-place-values : goal.returns-then-place-values
returns-then-place-values g c =
    sym (chosen_at c.args.first c.in-Some.number c.args.values.now _ _ _ (sym c.read_natural.ensures.value ∙ c.in-Some.is) c.if-number-first.false
    c.if-place-values.true c.index-values-place.is)

pub returns : goal.returns
returns g c = sym (chosen_past c.args.first c.in-Some.number c.args.values.now _ (sym c.read_natural.ensures.value ∙ c.in-Some.is) c.if-number-first.false
    c.if-place-values.false)
