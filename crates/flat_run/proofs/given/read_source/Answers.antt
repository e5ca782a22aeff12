use Rattle.std.proofs.Common.{◌≡◌, length, subst}
use Rattle.flat_base.specs.declared.limits.TheConstants.{SCRIPT_BYTES_MAX}
use Rattle.flat_io.specs.declared.whole.ReadAll.TheVariants.{TooLong}
use Rattle.flat_io.specs.Reads.{Given, IsTooLong}
use Rattle.flat_run.proofs.Answering.{long_is_refused, whole_is_given}
use Rattle.flat_run.proofs.given.read_source.Goals as goal

pub returns-in_ok-read_bytes-in-Ok-clause-is : goal.returns-in_ok-read_bytes-in-Ok-clause-is
returns-in_ok-read_bytes-in-Ok-clause-is g c =
    whole_is_given c.args.form (g.R.Source.left c.args.source.now) (g.R.Source.left c.read_all.new.source) _ _ _ c.as_slice.ensures.value c.in-Ok.ensures.whole
    c.in_ok-read_bytes-in-Ok.ensures

pub returns-in_ok-refusal-in-Err-TooLong-clause-is : goal.returns-in_ok-refusal-in-Err-TooLong-clause-is
returns-in_ok-refusal-in-Err-TooLong-clause-is g c =
    let x = c.in_ok-refusal-in-Err-TooLong.field-0 in
    let left = g.R.Source.left c.args.source.now in
    let left' = g.R.Source.left c.read_all.new.source in
    let whole = c.in-Err-TooLong.is in
    let why = c.in-Err-TooLong.field-0-is in
    let is : c.in-Err-TooLong.field-0 ≡ TooLong = cc in
    long_is_refused c.args.form left left' (subst (λ e. Given left left' (λ given after. IsTooLong SCRIPT_BYTES_MAX (length given) e)) is
    c.in-Err-TooLong.ensures.refused) x.status x.text
    c.in_ok-refusal-in-Err-TooLong.ensures.status c.in_ok-refusal-in-Err-TooLong.ensures.text
