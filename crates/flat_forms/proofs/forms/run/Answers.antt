use Rattle.flat_places.specs.declared.kinds.FaultKind.TheVariants.{BadHead}
use Rattle.flat_places.specs.Forms.{give}
use Rattle.flat_places.proofs.lemmas.ReadsLemmas.{read_unless, given}
use Rattle.flat_forms.proofs.forms.run.Goals as goal

pub returns : goal.returns
returns c = read_unless (give (tt {0})) BadHead c.args.ready c.new-places.result c.new-places.ensures.words c.new-places.ensures.sofar
    c.note_unless.ensures.words c.note_unless.ensures.lower (given (tt {0}) c.note_unless.new.self) c.finish.ensures.reads
