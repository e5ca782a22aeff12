use Rattle.std.proofs.Common.{◌∙◌}
use Rattle.flat_forms.proofs.Naming.{named_by_length}
use Rattle.flat_forms.proofs.calls.long_call_named.Goals as goal

pub returns-in-14 : goal.returns-in-14
returns-in-14 c = c.of_three.ensures ∙ named_by_length c.args.word.now 14 c.in-14.is

pub returns-in-15 : goal.returns-in-15
returns-in-15 c = c.one_of.ensures ∙ named_by_length c.args.word.now 15 c.in-15.is

pub returns-in-16 : goal.returns-in-16
returns-in-16 c = c.of_three-in-16.ensures ∙ named_by_length c.args.word.now 16 c.in-16.is

pub returns-in-17 : goal.returns-in-17
returns-in-17 c = c.lone.ensures ∙ named_by_length c.args.word.now 17 c.in-17.is

pub returns-in-20 : goal.returns-in-20
returns-in-20 c = c.of_two.ensures ∙ named_by_length c.args.word.now 20 c.in-20.is

pub returns-in-21 : goal.returns-in-21
returns-in-21 c = c.lone-in-21.ensures ∙ named_by_length c.args.word.now 21 c.in-21.is

pub returns-in-23 : goal.returns-in-23
returns-in-23 c = c.lone-in-23.ensures ∙ named_by_length c.args.word.now 23 c.in-23.is

pub returns-in-24 : goal.returns-in-24
returns-in-24 c = c.lone-in-24.ensures ∙ named_by_length c.args.word.now 24 c.in-24.is
