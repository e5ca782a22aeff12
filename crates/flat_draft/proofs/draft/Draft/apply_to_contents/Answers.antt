use Rattle.std.proofs.Common.{refl}
use Rattle.flat_scene.specs.Misuse.{is_fill}
use Rattle.flat_content.specs.Reasons as content
use Rattle.flat_content.proofs.lemmas.Standing.{content_calls_stand}
use Rattle.flat_draft.proofs.Applying.{made-applied, done-applied}
use Rattle.flat_draft.proofs.draft.Draft.apply_to_contents.Goals as goal

pub returns-in-CreateViewport-clause-applied : goal.returns-in-CreateViewport-clause-applied
returns-in-CreateViewport-clause-applied c = λ setup draft s.
    made-applied setup draft _ _ _ _ c.self.inside.contents _ _ _ _
    (content.viewport_tests c.self.inside.contents c.in-CreateViewport.c.0 c.in-CreateViewport.w c.in-CreateViewport.h) c.create_viewport.result _
    c.made.ensures c.in-CreateViewport.is c.self.view_is refl refl s
    (λ t. (content_calls_stand setup _ draft t).create_viewport c.in-CreateViewport.c c.in-CreateViewport.pair c.in-CreateViewport.w c.in-CreateViewport.h
    c.in-CreateViewport.inset) refl c.create_viewport.ensures.created c.create_viewport.ensures.allowed c.create_viewport.ensures.fault
    c.create_viewport.ensures.kept

pub returns-in-SetViewportProperties-clause-applied : goal.returns-in-SetViewportProperties-clause-applied
returns-in-SetViewportProperties-clause-applied c = λ setup draft s.
    done-applied setup draft _ _ _ _ c.self-in-SetViewportProperties.inside.contents _ _ _ _
    (content.properties_tests c.self-in-SetViewportProperties.inside.contents c.in-SetViewportProperties.c.0 c.in-SetViewportProperties.w
    c.in-SetViewportProperties.h) c.set_viewport_properties.result _ c.done.ensures c.in-SetViewportProperties.is c.self-in-SetViewportProperties.view_is
    refl refl s
    (λ t. (content_calls_stand setup _ draft t).set_viewport_properties c.in-SetViewportProperties.c c.in-SetViewportProperties.w c.in-SetViewportProperties.h
    c.in-SetViewportProperties.inset) refl c.set_viewport_properties.ensures.set c.set_viewport_properties.ensures.allowed
    c.set_viewport_properties.ensures.fault c.set_viewport_properties.ensures.kept

pub returns-in-CreateFilledRect-clause-applied : goal.returns-in-CreateFilledRect-clause-applied
returns-in-CreateFilledRect-clause-applied c = λ setup draft s.
    made-applied setup draft _ _ _ _ c.self-in-CreateFilledRect.inside.contents _ _ _ _
    (content.create_tests c.self-in-CreateFilledRect.inside.contents c.in-CreateFilledRect.c.0) c.create_fill.result _ c.made-in-CreateFilledRect.ensures
    c.in-CreateFilledRect.is c.self-in-CreateFilledRect.view_is refl refl s
    (λ t. (content_calls_stand setup _ draft t).create_fill c.in-CreateFilledRect.c) refl c.create_fill.ensures.created c.create_fill.ensures.allowed
    c.create_fill.ensures.fault c.create_fill.ensures.kept

pub returns-in-SetSolidFill-clause-applied : goal.returns-in-SetSolidFill-clause-applied
returns-in-SetSolidFill-clause-applied c = λ setup draft s.
    done-applied setup draft _ _ _ _ c.self-in-SetSolidFill.inside.contents _ _ _ _
    (content.solid_tests c.self-in-SetSolidFill.inside.contents c.in-SetSolidFill.c.0 c.in-SetSolidFill.w c.in-SetSolidFill.h) c.set_solid_fill.result _
    c.done-in-SetSolidFill.ensures c.in-SetSolidFill.is c.self-in-SetSolidFill.view_is refl refl s
    (λ t. (content_calls_stand setup _ draft t).set_solid_fill c.in-SetSolidFill.c c.in-SetSolidFill.r c.in-SetSolidFill.g c.in-SetSolidFill.b
    c.in-SetSolidFill.a c.in-SetSolidFill.w c.in-SetSolidFill.h) refl c.set_solid_fill.ensures.set c.set_solid_fill.ensures.allowed
    c.set_solid_fill.ensures.fault c.set_solid_fill.ensures.kept

pub returns-in-ReleaseFilledRect-clause-applied : goal.returns-in-ReleaseFilledRect-clause-applied
returns-in-ReleaseFilledRect-clause-applied c = λ setup draft s.
    done-applied setup draft _ _ _ _ c.self-in-ReleaseFilledRect.inside.contents _ _ _ _
    (content.sort_tests c.self-in-ReleaseFilledRect.inside.contents is_fill c.in-ReleaseFilledRect.c.0) c.release_filled_rect.result _
    c.done-in-ReleaseFilledRect.ensures c.in-ReleaseFilledRect.is c.self-in-ReleaseFilledRect.view_is refl refl s
    (λ t. (content_calls_stand setup _ draft t).release_filled_rect c.in-ReleaseFilledRect.c) refl c.release_filled_rect.ensures.released
    c.release_filled_rect.ensures.allowed c.release_filled_rect.ensures.fault c.release_filled_rect.ensures.kept
