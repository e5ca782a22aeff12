use Rattle.flat_forms.specs.Head.{pair}
use Rattle.flat_places.specs.declared.kinds.FaultKind.TheVariants.{Limit}
use Rattle.flat_places.proofs.lemmas.ReadsLemmas.{read_unless, mapped_finished, then, begin}
use Rattle.flat_forms.proofs.forms.pair.Goals as goal

pub returns : goal.returns
returns c =
    let read = then (then (begin (λ name x y. (name, record { viewport = x; view = y })) c.new_name-name.ensures) c.pair_owner-viewport.ensures)
    c.session-view.ensures in
    read_unless (pair c.args.script.now.script) Limit c.args.room c.new-places.result c.new-places.ensures.words c.new-places.ensures.sofar
    c.note_unless.ensures.words c.note_unless.ensures.lower read
    (mapped_finished (λ d. (d.0.now, d.1)) _ c.session-view.new.self c.finish.result c.finish.ensures.reads)
