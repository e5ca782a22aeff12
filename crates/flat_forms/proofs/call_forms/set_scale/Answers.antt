use Rattle.flat_scene.specs.declared.calls.Call.TheVariants as call
use Rattle.flat_places.proofs.lemmas.ReadsLemmas.{then, begin}
use Rattle.flat_forms.proofs.call_forms.set_scale.Goals as goal

pub returns : goal.returns
returns c = λ s a. then (then (begin (λ t x y. call.SetScale t x y) c.transform-t.ensures) c.u32-sx.ensures) c.u32-sy.ensures
