use Rattle.flat_scene.specs.declared.calls.Call.TheVariants as call
use Rattle.flat_places.proofs.lemmas.ReadsLemmas.{then, begin}
use Rattle.flat_forms.proofs.call_forms.create_image.Goals as goal

pub returns : goal.returns
returns c = then (then (then (then (begin (λ d b i w h. call.CreateImage d b i w h) c.content-c.ensures) c.collection-buffers.ensures) c.u32-i.ensures)
    c.u32-w.ensures) c.u32-h.ensures
