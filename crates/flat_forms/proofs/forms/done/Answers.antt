use Rattle.flat_scene.specs.declared.script.DisplayLine.TheVariants.{Done}
use Rattle.flat_places.specs.declared.kinds.FaultKind.TheVariants.{BadOrder}
use Rattle.flat_places.specs.Forms.{give}
use Rattle.flat_places.proofs.lemmas.ReadsLemmas.{read_unless, given}
use Rattle.flat_forms.proofs.forms.done.Goals as goal

pub returns : goal.returns
returns c = read_unless (give Done) BadOrder c.args.in_frame c.new-places.result c.new-places.ensures.words c.new-places.ensures.sofar
    c.note_unless.ensures.words c.note_unless.ensures.lower (given Done c.note_unless.new.self) c.finish.ensures.reads
