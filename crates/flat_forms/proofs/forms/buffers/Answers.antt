use Rattle.flat_forms.specs.Head.{buffers}
use Rattle.flat_places.specs.declared.kinds.FaultKind.TheVariants.{Limit}
use Rattle.flat_places.proofs.lemmas.ReadsLemmas.{read_unless, mapped_finished, then, begin}
use Rattle.flat_forms.proofs.forms.buffers.Goals as goal

pub returns : goal.returns
returns c =
    let read = then (then (then (then (begin (λ name a n x y. (name, record { owner = a; count = n; w = x; h = y })) c.new_name-name.ensures)
    c.session-owner.ensures) c.number_from-count.ensures) c.number_from-w.ensures) c.number_from-h.ensures in
    read_unless (buffers c.args.script.now.script) Limit c.args.room c.new-places.result c.new-places.ensures.words c.new-places.ensures.sofar
    c.note_unless.ensures.words c.note_unless.ensures.lower read
    (mapped_finished (λ d. (d.0.now, d.1)) _ c.number_from-h.new.self c.finish.result c.finish.ensures.reads)
