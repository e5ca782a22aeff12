use Rattle.std.proofs.Common.{◌∙◌}
use Rattle.flat_forms.proofs.Naming.{named_by_length}
use Rattle.flat_forms.proofs.calls.short_call_named.Goals as goal

pub returns-in-11 : goal.returns-in-11
returns-in-11 c = c.of_three-in-11.ensures ∙ named_by_length c.args.word.now 11 c.in-11.is

pub returns-in-12 : goal.returns-in-12
returns-in-12 c = c.of_three-in-12.ensures ∙ named_by_length c.args.word.now 12 c.in-12.is

pub returns-in-13 : goal.returns-in-13
returns-in-13 c = c.lone-in-13.ensures ∙ named_by_length c.args.word.now 13 c.in-13.is
