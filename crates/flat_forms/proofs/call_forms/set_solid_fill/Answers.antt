use Rattle.flat_scene.specs.declared.calls.Call.TheVariants as call
use Rattle.flat_places.proofs.lemmas.ReadsLemmas.{then, begin}
use Rattle.flat_forms.proofs.call_forms.set_solid_fill.Goals as goal

pub returns : goal.returns
returns c = λ s o. then (then (then (then (then (then (begin (λ d r g b a w h. call.SetSolidFill d r g b a w h) c.content-c.ensures) c.colour-r.ensures)
    c.colour-g.ensures) c.colour-b.ensures) c.colour-a.ensures) c.u32-w.ensures) c.u32-h.ensures
