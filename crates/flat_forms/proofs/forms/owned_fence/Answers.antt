use Rattle.flat_places.specs.Places.{fence}
use Rattle.flat_places.proofs.lemmas.ReadsLemmas.{read_whole}
use Rattle.flat_forms.proofs.forms.owned_fence.Goals as goal

pub returns : goal.returns
returns c = read_whole (fence c.args.script.now.script c.args.owner) c.new-places.ensures.words c.new-places.ensures.sofar c.fence-found.ensures
    c.finish.ensures.reads
