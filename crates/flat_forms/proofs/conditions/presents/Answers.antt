use Rattle.flat_scene.specs.declared.script.WaitCondition.TheVariants as asks
use Rattle.flat_forms.specs.Body.{presents_asked}
use Rattle.flat_places.proofs.lemmas.ReadsLemmas.{read_whole, then, begin}
use Rattle.flat_forms.proofs.conditions.presents.Goals as goal

pub returns : goal.returns
returns c = read_whole (presents_asked c.args.script.now.script) c.new-places.ensures.words c.new-places.ensures.sofar
    (then (begin (λ s n. asks.Presents s n) c.session-s.ensures) c.u32-n.ensures) c.finish.ensures.reads
