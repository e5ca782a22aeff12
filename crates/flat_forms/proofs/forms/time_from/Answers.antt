use Rattle.std.proofs.Common.{sym, ◌∙◌}
use Rattle.flat_forms.proofs.Times.{time_late, time_early, time_found}
use Rattle.flat_forms.proofs.forms.time_from.Goals as goal

pub returns-then-number : goal.returns-then-number
returns-then-number c = sym (time_late c.args.least c.in-Some.number _ (sym c.read_natural.ensures.value ∙ c.in-Some.is) c.if-number.true)

pub returns-then-number-least : goal.returns-then-number-least
returns-then-number-least c = sym (time_early c.args.least c.in-Some.number _ (sym c.read_natural.ensures.value ∙ c.in-Some.is) c.if-number.false
    c.if-number-least.true)

pub returns : goal.returns
returns c = sym (time_found c.args.least c.in-Some.number _ (sym c.read_natural.ensures.value ∙ c.in-Some.is) c.if-number.false c.if-number-least.false)
