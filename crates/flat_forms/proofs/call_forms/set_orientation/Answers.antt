use Rattle.flat_scene.specs.declared.calls.Call.TheVariants as call
use Rattle.flat_places.proofs.lemmas.ReadsLemmas.{then, begin}
use Rattle.flat_forms.proofs.call_forms.set_orientation.Goals as goal

pub returns : goal.returns
returns c = λ s a. then (begin (λ t o. call.SetOrientation t o) c.transform-t.ensures) c.orientation-o.ensures
