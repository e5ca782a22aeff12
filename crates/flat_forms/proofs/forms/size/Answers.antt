use Rattle.flat_forms.specs.Head.{size}
use Rattle.flat_places.specs.declared.kinds.FaultKind.TheVariants.{BadHead}
use Rattle.flat_places.proofs.lemmas.ReadsLemmas.{read_unless, then, begin}
use Rattle.flat_forms.proofs.forms.size.Goals as goal

pub returns : goal.returns
returns c = read_unless (size c.args.version) BadHead c.args.fresh c.new-places.result c.new-places.ensures.words c.new-places.ensures.sofar
    c.note_unless.ensures.words c.note_unless.ensures.lower
    (then (then (begin (λ w h q. (w, h, q)) c.number_from-w.ensures) c.number_from-h.ensures) c.first_ratio-ratio.ensures) c.finish.ensures.reads
