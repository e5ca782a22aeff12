use Rattle.flat_scene.specs.declared.calls.Call.TheVariants as call
use Rattle.flat_forms.specs.Calls.{inset_or_none}
use Rattle.flat_places.proofs.lemmas.ReadsLemmas.{then, begin}
use Rattle.flat_forms.proofs.call_forms.create_viewport.Goals as goal

pub returns : goal.returns
returns c =
    rw c.inset_or_none.ensures
    (then (then (then (then (begin (λ d p w h i. call.CreateViewport d p w h (inset_or_none i)) c.content-c.ensures) c.viewport_end-pair.ensures)
    c.u32-w.ensures) c.u32-h.ensures) c.inset_if_any-given.ensures)
