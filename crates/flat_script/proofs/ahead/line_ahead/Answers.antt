use Rattle.std.proofs.Common.{sym, ◌∙◌}
use Rattle.flat_script.proofs.AheadLemmas.{read_skipped, said_behind}
use Rattle.flat_script.proofs.ahead.line_ahead.Goals as goal

pub returns-then-is_skipped : goal.returns-then-is_skipped
returns-then-is_skipped c = λ n sofar.
    read_skipped n sofar c.args.line.now (sym c.is_plain_line.ensures ∙ c.if-not-is_plain_line.false) c.if-line-gt-LINE_BYTES_MAX.false
    (sym c.is_skipped.ensures ∙ c.if-is_skipped.true)

pub returns-in-Some : goal.returns-in-Some
returns-in-Some c =
    said_behind c.args.script.now.script c.args.line.now _ _ (sym c.is_plain_line.ensures ∙ c.if-not-is_plain_line.false) c.if-line-gt-LINE_BYTES_MAX.false
    (sym c.is_skipped.ensures ∙ c.if-is_skipped.false) c.in-Some.ensures
