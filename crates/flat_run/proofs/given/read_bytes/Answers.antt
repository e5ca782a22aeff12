use Rattle.std.proofs.Common.{◌≡◌, Err, subst}
use borrow.Enum.Total.{values_d}
use Rattle.flat_places.specs.declared.kinds.FaultKind.TheVariants.{TooLong}
use Rattle.flat_script.specs.contracts.script.ScriptError as the_error
use Rattle.flat_script.specs.declared.script.ScriptError.{ScriptError}
use Rattle.flat_script.specs.declared.script.ScriptError.TheVariants as error
use Rattle.flat_extra.specs.Readers.{Reads}
use Rattle.flat_run.specs.declared.reading.ParsedText.{ParsedText}
use Rattle.flat_run.specs.Forms.{form_read}
use Rattle.flat_run.specs.Judging.{fault_line}
use Rattle.flat_run.proofs.Answering.{denied}
use Rattle.flat_run.proofs.Runnable.{runnable}
use Rattle.flat_run.proofs.given.read_bytes.Goals as goal

pub fitting-requires : goal.fitting-requires
fitting-requires g c =
    record {
      runnable = runnable c.scripts_are_playable.ensures.playable c.rests_are_read.ensures.focus c.rests_are_read.ensures.pointers c.pointers_rise.ensures
          c.extra_laws.ensures.pointers_are_known
          c.args.form c.args.bytes.now c.in-Ok.reading c.in-Ok.ensures;
    }

pub returns-in_ok-refusal-in-Err-Fault : goal.returns-in_ok-refusal-in-Err-Fault
returns-in_ok-refusal-in-Err-Fault g c =
    let whole = c.in-Err-Fault.is in
    let why = c.in-Err-Fault.field-0-is in
    let is : c.in-Err-Fault.field-0 ≡ error.Fault c.in-Err-Fault.fault = cc in
    let answer = c.in_ok-refusal-in-Err-Fault.field-0 in
    let V : ScriptError → Type 0 = λ e. answer.text ≡ fault_line (values_d the_error.enum 0 (record { line = 0; kind = TooLong }, tt {0}) e).0 in
    let R : ScriptError → Type 0 = λ e. Reads {A = ParsedText} (Err e) (form_read c.args.form c.args.bytes.now) in
    denied c.args.form c.args.bytes.now c.in-Err-Fault.fault (subst R is c.in-Err-Fault.ensures) answer.status answer.text
    c.in_ok-refusal-in-Err-Fault.ensures.status (subst V is c.in_ok-refusal-in-Err-Fault.ensures.text)
