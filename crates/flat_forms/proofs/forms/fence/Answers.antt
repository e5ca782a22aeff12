use Rattle.std.proofs.Common.{sym, Ok, Err}
use Rattle.flat_forms.specs.Head.{fence}
use Rattle.flat_places.specs.declared.kinds.FaultKind.TheVariants.{Limit}
use Rattle.flat_places.proofs.lemmas.ReadsLemmas.{read_unless, mapped_finished, then, begin}
use Rattle.flat_forms.proofs.forms.fence.Goals as goal

pub returns-in-Err : goal.returns-in-Err
returns-in-Err c =
    let read = then (begin (λ name actors. (name, record { owners = actors })) c.new_name-name.ensures) c.in_ok-owners.ensures in
    sym (read_unless (fence c.args.script.now.script) Limit c.args.room c.new-places.result c.new-places.ensures.words c.new-places.ensures.sofar
    c.note_unless.ensures.words c.note_unless.ensures.lower read
    (mapped_finished (λ d. (d.0.now, d.1)) _ c.owners.new.self (Err c.in-Err.k) c.in-Err.ensures.reads))

pub returns-in-Ok : goal.returns-in-Ok
returns-in-Ok c =
    let read = then (begin (λ name actors. (name, record { owners = actors })) c.new_name-name.ensures) c.in_ok-owners.ensures in
    sym (read_unless (fence c.args.script.now.script) Limit c.args.room c.new-places.result c.new-places.ensures.words c.new-places.ensures.sofar
    c.note_unless.ensures.words c.note_unless.ensures.lower read
    (mapped_finished (λ d. (d.0.now, d.1)) _ c.owners.new.self (Ok c.in-Ok.found) c.in-Ok.ensures.reads))
