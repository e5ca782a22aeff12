use Rattle.flat_scene.specs.declared.calls.Call.TheVariants as call
use Rattle.flat_places.proofs.lemmas.ReadsLemmas.{then, begin}
use Rattle.flat_forms.proofs.call_forms.set_image_destination_size.Goals as goal

pub returns : goal.returns
returns c = λ s a. then (then (begin (λ d w h. call.SetImageDestinationSize d w h) c.content-c.ensures) c.u32-w.ensures) c.u32-h.ensures
