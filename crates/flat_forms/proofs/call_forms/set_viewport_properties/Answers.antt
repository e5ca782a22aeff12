use Rattle.flat_scene.specs.declared.calls.Call.TheVariants as call
use Rattle.flat_places.proofs.lemmas.ReadsLemmas.{then, begin}
use Rattle.flat_forms.proofs.call_forms.set_viewport_properties.Goals as goal

pub returns : goal.returns
returns c = λ s a. then (then (then (begin (λ d w h i. call.SetViewportProperties d w h i) c.content-c.ensures) c.u32-w.ensures) c.u32-h.ensures)
    c.inset_if_any-inset.ensures
