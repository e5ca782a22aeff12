use Rattle.flat_places.specs.Places.{version}
use Rattle.flat_places.proofs.lemmas.ReadsLemmas.{read_whole}
use Rattle.flat_forms.proofs.forms.version.Goals as goal

pub returns : goal.returns
returns c = read_whole version c.new-places.ensures.words c.new-places.ensures.sofar c.version-version.ensures c.finish.ensures.reads
