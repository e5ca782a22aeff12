use Rattle.std.proofs.Common.{◌≡◌, ap, sym, ◌∙◌, Ok, Err, subst}
use Rattle.flat_script.specs.declared.script.ScriptError.TheVariants as error
use Rattle.flat_script.specs.Grammar.{text_read}
use Rattle.flat_script.specs.Answers.{Fails}
use Rattle.flat_run.proofs.load.load_script.Goals as goal

pub unreachable-requires : goal.unreachable-requires
unreachable-requires c =
    let whole = c.in-Err-Fault.is in
    let why = c.in-Err-Fault.field-0-is in
    let is : c.in-Err-Fault.field-0 ≡ error.Fault c.in-Err-Fault.field-0-0 = cc in
    let law = c.loads_are_scripts.ensures c.args.frames c.requires.first c.requires.last in
    let fails : text_read c.as_slice.result.now ≡ Err c.in-Err-Fault.field-0-0 =
    subst (λ e. Fails e (text_read c.as_slice.result.now)) is c.in-Err-Fault.ensures in
    let reads : text_read c.as_slice.result.now ≡ Ok law.0 = ap text_read (c.as_slice.ensures.value ∙ c.in_ok-load.ensures) ∙ law.1 in
    let both : Ok law.0 ≡ Err c.in-Err-Fault.field-0-0 = sym reads ∙ fails in
    cc
