use Rattle.flat_places.specs.Places.{u32}
use Rattle.flat_places.proofs.lemmas.ReadsLemmas.{read_whole}
use Rattle.flat_forms.proofs.conditions.count.Goals as goal

pub returns : goal.returns
returns c = read_whole u32 c.new-places.ensures.words c.new-places.ensures.sofar c.u32-n.ensures c.finish.ensures.reads
