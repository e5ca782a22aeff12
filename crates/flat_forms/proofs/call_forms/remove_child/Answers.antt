use Rattle.flat_scene.specs.declared.calls.Call.TheVariants as call
use Rattle.flat_places.proofs.lemmas.ReadsLemmas.{then, begin}
use Rattle.flat_forms.proofs.call_forms.remove_child.Goals as goal

pub returns : goal.returns
returns c = λ s a. then (begin (λ p k. call.RemoveChild p k) c.transform-p.ensures) c.transform-k.ensures
