use Rattle.flat_scene.specs.declared.calls.Call.TheVariants as call
use Rattle.flat_places.proofs.lemmas.ReadsLemmas.{then, begin}
use Rattle.flat_forms.proofs.call_forms.set_infinite_hit_region.Goals as goal

pub returns : goal.returns
returns c = λ s a. then (begin (λ t i. call.SetInfiniteHitRegion t i) c.transform-t.ensures) c.interaction-i.ensures
