use Rattle.flat_scene.specs.declared.calls.Call.TheVariants as call
use Rattle.flat_places.proofs.lemmas.ReadsLemmas.{then, begin}
use Rattle.flat_forms.proofs.call_forms.set_content.Goals as goal

pub returns : goal.returns
returns c = λ s a. then (begin (λ t d. call.SetContent t d) c.transform-t.ensures) c.content-c.ensures
