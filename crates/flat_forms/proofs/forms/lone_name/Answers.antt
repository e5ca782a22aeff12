use Rattle.flat_places.specs.declared.kinds.FaultKind.TheVariants.{Limit}
use Rattle.flat_places.specs.Places.{new_name}
use Rattle.flat_places.proofs.lemmas.ReadsLemmas.{read_unless, mapped_finished}
use Rattle.flat_forms.proofs.forms.lone_name.Goals as goal

pub returns : goal.returns
returns c = read_unless (new_name c.args.script.now.script) Limit c.args.room c.new-places.result c.new-places.ensures.words c.new-places.ensures.sofar
    c.note_unless.ensures.words c.note_unless.ensures.lower c.new_name-name.ensures
    (mapped_finished (λ w. w.now) c.new_name-name.result c.new_name-name.new.self c.finish.result c.finish.ensures.reads)
