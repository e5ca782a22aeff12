use Rattle.std.proofs.Common.{◌≡◌, ◌∙◌}
use Rattle.flat_forms.specs.Ahead.{head_of}
use Rattle.flat_script.specs.declared.ahead.Ahead.TheVariants.{Skipped, Said}
use Rattle.flat_script.proofs.AheadLemmas.{known_said, known_skipped, said_step}
use Rattle.flat_script.proofs.apart.take_line.Goals as goal

pub returns-in-Some-Said-clause-steps : goal.returns-in-Some-Said-clause-steps
returns-in-Some-Said-clause-steps c =
    let s = c.args.parser.now.text.script in
    let whole = c.in-Some-Said.is in
    let what = c.in-Some-Said.field-0-is in
    let is : c.in-Some-Said.field-0 ≡ Said c.in-Some-Said.actor c.in-Some-Said.body = cc in
    said_step c.take_said.result s _ _ _ c.args.number c.args.line.now _ _ c.requires.body (c.take_said.ensures.part ∙ c.requires.body)
    (known_said (head_of s) c.args.line.now c.args.known c.in-Some-Said.field-0 _ _ whole is c.requires.known) c.take_said.ensures.steps

pub returns-in-Some-Skipped-clause-steps : goal.returns-in-Some-Skipped-clause-steps
returns-in-Some-Skipped-clause-steps c =
    let whole = c.in-Some-Skipped.is in
    let what = c.in-Some-Skipped.field-0-is in
    let is : c.in-Some-Skipped.field-0 ≡ Skipped = cc in
    known_skipped (head_of c.args.parser.now.text.script) c.args.line.now c.args.known c.in-Some-Skipped.field-0 c.args.number _ whole is c.requires.known
