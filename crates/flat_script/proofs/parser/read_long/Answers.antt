use Rattle.std.proofs.Common.{◌≡◌, ◌∙◌, [], Result, Ok, IfOk, IfErr, ap, sym, subst, append-nil}
use Rattle.flat_text.specs.Pieces.{lines_of}
use Rattle.flat_places.specs.declared.script.Script.{Script}
use Rattle.flat_forms.specs.Progress.{sofar_of}
use Rattle.flat_script.specs.declared.script.ScriptFault.{ScriptFault}
use Rattle.flat_script.specs.Answers.{Fails}
use Rattle.flat_script.specs.Grammar.{lines_read}
use Rattle.flat_script.proofs.AheadLemmas.{reads_to_end, whole_text}
use Rattle.flat_script.proofs.parser.read_long.Goals as goal

pub returns-in-Ok-clause-ok : goal.returns-in-Ok-clause-ok
returns-in-Ok-clause-ok g c =
    let all = whole_text c.args.bytes.now (sofar_of c.args.parser.now) c.if-bytes-gt-SCRIPT_BYTES_MAX.false c.requires.new ∙ sym c.in_ok-number.ensures.ok
    ∙ reads_to_end (lines_of c.in_ok-number.text.now) c.in_ok-number.number c.in-Ok.end (sofar_of c.read_head.new.parser) (sofar_of c.read_apart.new.parser)
    c.in-Ok.ensures.reads in
    subst (λ (r : Result Script ScriptFault). IfOk c.ended.result (λ lines. r ≡ Ok (record (sofar_of c.read_apart.new.parser).1 { count = lines }))) (sym all)
    c.ended.ensures.ok

pub returns-in-Ok-clause-err : goal.returns-in-Ok-clause-err
returns-in-Ok-clause-err g c =
    let all = whole_text c.args.bytes.now (sofar_of c.args.parser.now) c.if-bytes-gt-SCRIPT_BYTES_MAX.false c.requires.new ∙ sym c.in_ok-number.ensures.ok
    ∙ reads_to_end (lines_of c.in_ok-number.text.now) c.in_ok-number.number c.in-Ok.end (sofar_of c.read_head.new.parser) (sofar_of c.read_apart.new.parser)
    c.in-Ok.ensures.reads in
    subst (λ (r : Result Script ScriptFault). IfErr c.ended.result (λ e. Fails e r)) (sym all) c.ended.ensures.err

pub returns-in-Err-clause-err : goal.returns-in-Err-clause-err
returns-in-Err-clause-err g c =
    let all = whole_text c.args.bytes.now (sofar_of c.args.parser.now) c.if-bytes-gt-SCRIPT_BYTES_MAX.false c.requires.new ∙ sym c.in_ok-number.ensures.ok
    ∙ ap (λ ls. lines_read c.in_ok-number.number (sofar_of c.read_head.new.parser) ls) (sym (append-nil (lines_of c.in_ok-number.text.now))) in
    subst (λ (r : Result Script ScriptFault). Fails c.in-Err.error r) (sym all) (c.in-Err.ensures.reads [])
