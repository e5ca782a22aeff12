use Rattle.std.proofs.Common.{refl}
use Rattle.flat_scene.specs.Misuse.{is_image}
use Rattle.flat_content.specs.Reasons as content
use Rattle.flat_content.proofs.lemmas.Standing.{content_calls_stand}
use Rattle.flat_draft.proofs.Applying.{made-applied, done-applied}
use Rattle.flat_draft.proofs.draft.Draft.apply_to_images.Goals as goal

pub returns-in-CreateImage-clause-applied : goal.returns-in-CreateImage-clause-applied
returns-in-CreateImage-clause-applied c = λ setup draft s.
    made-applied setup draft _ _ _ _ c.self.inside.contents _ _ _ _
    (content.image_tests c.self.inside.contents c.in-CreateImage.c.0 c.in-CreateImage.buffers c.in-CreateImage.i c.in-CreateImage.w c.in-CreateImage.h)
    c.create_image.result _ c.made.ensures c.in-CreateImage.is c.self.view_is refl refl s
    (λ t. (content_calls_stand setup _ draft t).create_image c.in-CreateImage.c c.in-CreateImage.buffers c.in-CreateImage.i c.in-CreateImage.w
    c.in-CreateImage.h) refl c.create_image.ensures.created c.create_image.ensures.allowed c.create_image.ensures.fault c.create_image.ensures.kept

pub returns-in-SetImageSampleRegion-clause-applied : goal.returns-in-SetImageSampleRegion-clause-applied
returns-in-SetImageSampleRegion-clause-applied c = λ setup draft s.
    done-applied setup draft _ _ _ _ c.self.inside.contents _ _ _ _
    (content.sample_tests c.self.inside.contents c.in-SetImageSampleRegion.c.0 c.in-SetImageSampleRegion.rect) c.set_image_sample_region.result _
    c.done.ensures c.in-SetImageSampleRegion.is c.self.view_is refl refl s
    (λ t. (content_calls_stand setup _ draft t).set_image_sample_region c.in-SetImageSampleRegion.c c.in-SetImageSampleRegion.rect) refl
    c.set_image_sample_region.ensures.set c.set_image_sample_region.ensures.allowed c.set_image_sample_region.ensures.fault
    c.set_image_sample_region.ensures.kept

pub returns-in-SetImageDestinationSize-clause-applied : goal.returns-in-SetImageDestinationSize-clause-applied
returns-in-SetImageDestinationSize-clause-applied c = λ setup draft s.
    done-applied setup draft _ _ _ _ c.self.inside.contents _ _ _ _
    (content.size_tests c.self.inside.contents c.in-SetImageDestinationSize.c.0 c.in-SetImageDestinationSize.w c.in-SetImageDestinationSize.h)
    c.set_image_destination_size.result _ c.done-in-SetImageDestinationSize.ensures c.in-SetImageDestinationSize.is c.self.view_is refl refl s
    (λ t. (content_calls_stand setup _ draft t).set_image_destination_size c.in-SetImageDestinationSize.c c.in-SetImageDestinationSize.w
    c.in-SetImageDestinationSize.h) refl c.set_image_destination_size.ensures.set c.set_image_destination_size.ensures.allowed
    c.set_image_destination_size.ensures.fault c.set_image_destination_size.ensures.kept

pub returns-in-SetImageBlendingFunction-clause-applied : goal.returns-in-SetImageBlendingFunction-clause-applied
returns-in-SetImageBlendingFunction-clause-applied c = λ setup draft s.
    done-applied setup draft _ _ _ _ c.self.inside.contents _ _ _ _ (content.sort_tests c.self.inside.contents is_image c.in-SetImageBlendingFunction.c.0)
    c.set_image_blending_function.result _ c.done-in-SetImageBlendingFunction.ensures c.in-SetImageBlendingFunction.is c.self.view_is refl refl s
    (λ t. (content_calls_stand setup _ draft t).set_image_blending_function c.in-SetImageBlendingFunction.c c.in-SetImageBlendingFunction.m) refl
    c.set_image_blending_function.ensures.set c.set_image_blending_function.ensures.allowed c.set_image_blending_function.ensures.fault
    c.set_image_blending_function.ensures.kept

pub returns-in-SetImageFlip-clause-applied : goal.returns-in-SetImageFlip-clause-applied
returns-in-SetImageFlip-clause-applied c = λ setup draft s.
    done-applied setup draft _ _ _ _ c.self.inside.contents _ _ _ _ (content.sort_tests c.self.inside.contents is_image c.in-SetImageFlip.c.0)
    c.set_image_flip.result _ c.done-in-SetImageFlip.ensures c.in-SetImageFlip.is c.self.view_is refl refl s
    (λ t. (content_calls_stand setup _ draft t).set_image_flip c.in-SetImageFlip.c c.in-SetImageFlip.f) refl c.set_image_flip.ensures.set
    c.set_image_flip.ensures.allowed c.set_image_flip.ensures.fault c.set_image_flip.ensures.kept

pub returns-in-SetImageOpacity-clause-applied : goal.returns-in-SetImageOpacity-clause-applied
returns-in-SetImageOpacity-clause-applied c = λ setup draft s.
    done-applied setup draft _ _ _ _ c.self.inside.contents _ _ _ _
    (content.opacity_tests c.self.inside.contents c.in-SetImageOpacity.c.0 c.in-SetImageOpacity.v) c.set_image_opacity.result _
    c.done-in-SetImageOpacity.ensures c.in-SetImageOpacity.is c.self.view_is refl refl s
    (λ t. (content_calls_stand setup _ draft t).set_image_opacity c.in-SetImageOpacity.c c.in-SetImageOpacity.v) refl c.set_image_opacity.ensures.set
    c.set_image_opacity.ensures.allowed c.set_image_opacity.ensures.fault c.set_image_opacity.ensures.kept

pub returns-in-ReleaseImage-clause-applied : goal.returns-in-ReleaseImage-clause-applied
returns-in-ReleaseImage-clause-applied c = λ setup draft s.
    done-applied setup draft _ _ _ _ c.self.inside.contents _ _ _ _ (content.sort_tests c.self.inside.contents is_image c.in-ReleaseImage.c.0)
    c.release_image.result _ c.done-in-ReleaseImage.ensures c.in-ReleaseImage.is c.self.view_is refl refl s
    (λ t. (content_calls_stand setup _ draft t).release_image c.in-ReleaseImage.c) refl c.release_image.ensures.released c.release_image.ensures.allowed
    c.release_image.ensures.fault c.release_image.ensures.kept
