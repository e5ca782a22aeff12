use Rattle.flat_scene.specs.declared.calls.Call.TheVariants as call
use Rattle.flat_places.proofs.lemmas.ReadsLemmas.{then, begin}
use Rattle.flat_forms.proofs.call_forms.fields.Goals as goal

pub returns-in-SetOrientation : goal.returns-in-SetOrientation
returns-in-SetOrientation c = rw c.in-SetOrientation.is (c.set_orientation.ensures c.args.script.now.script c.args.session)

pub returns-in-SetOpacity : goal.returns-in-SetOpacity
returns-in-SetOpacity c = rw c.in-SetOpacity.is (c.set_opacity.ensures c.args.script.now.script c.args.session)

pub returns-in-SetClipBoundary : goal.returns-in-SetClipBoundary
returns-in-SetClipBoundary c = rw c.in-SetClipBoundary.is (c.set_clip_boundary.ensures c.args.script.now.script c.args.session)

pub returns-in-AddChild : goal.returns-in-AddChild
returns-in-AddChild c = rw c.in-AddChild.is (c.add_child.ensures c.args.script.now.script c.args.session)

pub returns-in-RemoveChild : goal.returns-in-RemoveChild
returns-in-RemoveChild c = rw c.in-RemoveChild.is (c.remove_child.ensures c.args.script.now.script c.args.session)

pub returns-in-SetInfiniteHitRegion : goal.returns-in-SetInfiniteHitRegion
returns-in-SetInfiniteHitRegion c = rw c.in-SetInfiniteHitRegion.is (c.set_infinite_hit_region.ensures c.args.script.now.script c.args.session)

pub returns-in-SetContent : goal.returns-in-SetContent
returns-in-SetContent c = rw c.in-SetContent.is (c.set_content.ensures c.args.script.now.script c.args.session)

pub returns-in-SetTranslation : goal.returns-in-SetTranslation
returns-in-SetTranslation c = rw c.in-SetTranslation.is (c.set_translation.ensures c.args.script.now.script c.args.session)

pub returns-in-SetScale : goal.returns-in-SetScale
returns-in-SetScale c = rw c.in-SetScale.is (c.set_scale.ensures c.args.script.now.script c.args.session)

pub returns-in_ok-regions-in-SetHitRegions : goal.returns-in_ok-regions-in-SetHitRegions
returns-in_ok-regions-in-SetHitRegions c =
    rw c.in-SetHitRegions.is (then (begin (λ t r. call.SetHitRegions t r) c.transform-in-SetHitRegions.ensures) c.in_ok-regions-in-SetHitRegions.ensures)

pub returns-in_ok-transforms-in-ReplaceChildren : goal.returns-in_ok-transforms-in-ReplaceChildren
returns-in_ok-transforms-in-ReplaceChildren c =
    rw c.in-ReplaceChildren.is (then (begin (λ p ks. call.ReplaceChildren p ks) c.transform-in-ReplaceChildren.ensures)
    c.in_ok-transforms-in-ReplaceChildren.ensures)
