use Rattle.flat_scene.specs.declared.calls.Call.TheVariants as call
use Rattle.flat_places.proofs.lemmas.ReadsLemmas.{then, begin}
use Rattle.flat_forms.proofs.call_forms.content_fields.Goals as goal

pub returns-in-SetImageSampleRegion : goal.returns-in-SetImageSampleRegion
returns-in-SetImageSampleRegion c = rw c.in-SetImageSampleRegion.is
    (then (begin (λ d r. call.SetImageSampleRegion d r) c.content-in-SetImageSampleRegion.ensures) c.int_rect.ensures)

pub returns-in-SetImageBlendingFunction : goal.returns-in-SetImageBlendingFunction
returns-in-SetImageBlendingFunction c = rw c.in-SetImageBlendingFunction.is
    (then (begin (λ d m. call.SetImageBlendingFunction d m) c.content-in-SetImageBlendingFunction.ensures) c.blend.ensures)

pub returns-in-SetImageFlip : goal.returns-in-SetImageFlip
returns-in-SetImageFlip c = rw c.in-SetImageFlip.is (then (begin (λ d f. call.SetImageFlip d f) c.content-in-SetImageFlip.ensures) c.flip.ensures)

pub returns-in-SetImageOpacity : goal.returns-in-SetImageOpacity
returns-in-SetImageOpacity c = rw c.in-SetImageOpacity.is (then (begin (λ d v. call.SetImageOpacity d v) c.content-in-SetImageOpacity.ensures) c.u32.ensures)

pub returns-in-SetViewportProperties : goal.returns-in-SetViewportProperties
returns-in-SetViewportProperties c = rw c.in-SetViewportProperties.is (c.set_viewport_properties.ensures c.args.script.now.script c.args.session)

pub returns-in-SetImageDestinationSize : goal.returns-in-SetImageDestinationSize
returns-in-SetImageDestinationSize c = rw c.in-SetImageDestinationSize.is (c.set_image_destination_size.ensures c.args.script.now.script c.args.session)

pub returns-in-SetSolidFill : goal.returns-in-SetSolidFill
returns-in-SetSolidFill c = rw c.in-SetSolidFill.is (c.set_solid_fill.ensures c.args.script.now.script c.args.session)
