use Rattle.std.proofs.Common.{◌≡◌, refl, sym, ◌∙◌, ap, List, [], ◌∷◌, None, OnOk, rules}
use Rattle.flat_base.specs.declared.ids.TransformId.{TransformId}
use Rattle.flat_scene.specs.declared.calls.Call.TheVariants.{ReplaceChildren, SetHitRegions}
use Rattle.flat_scene.specs.declared.calls.HitRegion.{HitRegion}
use Rattle.flat_graph.specs.Reasons.{add_tests, clip_tests, hits_tests, name_tests, opacity_tests, remove_tests, replace_tests, root_tests, scale_tests}
use Rattle.flat_graph.specs.State.{change_named}
use Rattle.flat_graph.proofs.lemmas.StandingLaws.{graph_calls_stand}
use Rattle.flat_draft.proofs.Applying.{graph-applied, create-applied}
use Rattle.flat_draft.proofs.draft.Draft.apply_to_part.Goals as goal

pub returns-in-ReleaseTransform-clause-applied : goal.returns-in-ReleaseTransform-clause-applied
returns-in-ReleaseTransform-clause-applied c = λ setup draft s.
    graph-applied setup draft _ _ _ c.self-in-ReleaseTransform.inside.graph _ _ _ _ _
    (name_tests c.self-in-ReleaseTransform.inside.graph c.in-ReleaseTransform.t.0) c.release.result c.in-ReleaseTransform.is
    c.self-in-ReleaseTransform.view_is refl refl s
    (λ g. (graph_calls_stand setup _ draft g).release c.in-ReleaseTransform.t) c.release.ensures.released c.release.ensures.allowed c.release.ensures.fault
    c.release.ensures.kept

pub returns-in-SetTranslation-clause-applied : goal.returns-in-SetTranslation-clause-applied
returns-in-SetTranslation-clause-applied c = λ setup draft s.
    let set : OnOk c.set_translation.result (c.set_translation.new.self
    ≡ change_named c.self-in-SetTranslation.inside.graph c.in-SetTranslation.t.0
    (λ node. record node { place = (c.in-SetTranslation.x, c.in-SetTranslation.y) })) = search rules in
    graph-applied setup draft _ _ _ c.self-in-SetTranslation.inside.graph _ _ _ _ _ (name_tests c.self-in-SetTranslation.inside.graph c.in-SetTranslation.t.0)
    c.set_translation.result c.in-SetTranslation.is c.self-in-SetTranslation.view_is refl refl s
    (λ g. (graph_calls_stand setup _ draft g).set_translation c.in-SetTranslation.t c.in-SetTranslation.x c.in-SetTranslation.y) set
    c.set_translation.ensures.allowed c.set_translation.ensures.fault c.set_translation.ensures.kept

pub returns-in-SetOrientation-clause-applied : goal.returns-in-SetOrientation-clause-applied
returns-in-SetOrientation-clause-applied c = λ setup draft s.
    graph-applied setup draft _ _ _ c.self-in-SetOrientation.inside.graph _ _ _ _ _ (name_tests c.self-in-SetOrientation.inside.graph c.in-SetOrientation.t.0)
    c.set_orientation.result c.in-SetOrientation.is c.self-in-SetOrientation.view_is refl refl s
    (λ g. (graph_calls_stand setup _ draft g).set_orientation c.in-SetOrientation.t c.in-SetOrientation.o) c.set_orientation.ensures.set
    c.set_orientation.ensures.allowed c.set_orientation.ensures.fault c.set_orientation.ensures.kept

pub returns-in-SetScale-clause-applied : goal.returns-in-SetScale-clause-applied
returns-in-SetScale-clause-applied c = λ setup draft s.
    graph-applied setup draft _ _ _ c.self-in-SetScale.inside.graph _ _ _ _ _
    (scale_tests c.self-in-SetScale.inside.graph c.in-SetScale.t.0 c.in-SetScale.sx c.in-SetScale.sy) c.set_scale.result c.in-SetScale.is
    c.self-in-SetScale.view_is refl refl s
    (λ g. (graph_calls_stand setup _ draft g).set_scale c.in-SetScale.t c.in-SetScale.sx c.in-SetScale.sy) c.set_scale.ensures.set c.set_scale.ensures.allowed
    c.set_scale.ensures.fault c.set_scale.ensures.kept

pub returns-in-SetOpacity-clause-applied : goal.returns-in-SetOpacity-clause-applied
returns-in-SetOpacity-clause-applied c = λ setup draft s.
    graph-applied setup draft _ _ _ c.self-in-SetOpacity.inside.graph _ _ _ _ _
    (opacity_tests c.self-in-SetOpacity.inside.graph c.in-SetOpacity.t.0 c.in-SetOpacity.v) c.set_opacity.result c.in-SetOpacity.is
    c.self-in-SetOpacity.view_is refl refl s
    (λ g. (graph_calls_stand setup _ draft g).set_opacity c.in-SetOpacity.t c.in-SetOpacity.v) c.set_opacity.ensures.set c.set_opacity.ensures.allowed
    c.set_opacity.ensures.fault c.set_opacity.ensures.kept

pub returns-in-SetClipBoundary-clause-applied : goal.returns-in-SetClipBoundary-clause-applied
returns-in-SetClipBoundary-clause-applied c = λ setup draft s.
    graph-applied setup draft _ _ _ c.self-in-SetClipBoundary.inside.graph _ _ _ _ _
    (clip_tests c.self-in-SetClipBoundary.inside.graph c.in-SetClipBoundary.t.0 c.in-SetClipBoundary.rect) c.set_clip.result c.in-SetClipBoundary.is
    c.self-in-SetClipBoundary.view_is refl refl s
    (λ g. (graph_calls_stand setup _ draft g).set_clip c.in-SetClipBoundary.t c.in-SetClipBoundary.rect) c.set_clip.ensures.set c.set_clip.ensures.allowed
    c.set_clip.ensures.fault c.set_clip.ensures.kept

pub returns-in-AddChild-clause-applied : goal.returns-in-AddChild-clause-applied
returns-in-AddChild-clause-applied c = λ setup draft s.
    graph-applied setup draft _ _ _ c.self-in-AddChild.inside.graph _ _ _ _ _ (add_tests c.self-in-AddChild.inside.graph c.in-AddChild.p.0 c.in-AddChild.k.0)
    c.add_child.result c.in-AddChild.is c.self-in-AddChild.view_is refl refl s
    (λ g. (graph_calls_stand setup _ draft g).add_child c.in-AddChild.p c.in-AddChild.k) c.add_child.ensures.added c.add_child.ensures.allowed
    c.add_child.ensures.fault c.add_child.ensures.kept

pub returns-in-RemoveChild-clause-applied : goal.returns-in-RemoveChild-clause-applied
returns-in-RemoveChild-clause-applied c = λ setup draft s.
    graph-applied setup draft _ _ _ c.self-in-RemoveChild.inside.graph _ _ _ _ _
    (remove_tests c.self-in-RemoveChild.inside.graph c.in-RemoveChild.p.0 c.in-RemoveChild.k.0) c.remove_child.result c.in-RemoveChild.is
    c.self-in-RemoveChild.view_is refl refl s
    (λ g. (graph_calls_stand setup _ draft g).remove_child c.in-RemoveChild.p c.in-RemoveChild.k) c.remove_child.ensures.removed c.remove_child.ensures.allowed
    c.remove_child.ensures.fault c.remove_child.ensures.kept

pub returns-in-ReplaceChildren-clause-applied : goal.returns-in-ReplaceChildren-clause-applied
returns-in-ReplaceChildren-clause-applied c = λ setup draft s.
    let e = c.replace_children.ensures in
    let ks : List TransformId = c.as_slice.result.now in
    graph-applied setup draft _ (ReplaceChildren c.in-ReplaceChildren.p ks) _ c.self-in-ReplaceChildren.inside.graph _ _ _ _ _
    (replace_tests c.self-in-ReplaceChildren.inside.graph c.in-ReplaceChildren.p.0 ks)
    c.replace_children.result (c.in-ReplaceChildren.is ∙ ap (ReplaceChildren c.in-ReplaceChildren.p) (sym c.as_slice.ensures)) c.self-in-ReplaceChildren.view_is
    refl refl s
    (λ g. (graph_calls_stand setup _ draft g).replace_children c.in-ReplaceChildren.p ks)
    e.replaced e.allowed e.fault e.kept

pub returns-in-SetRootTransform-clause-applied : goal.returns-in-SetRootTransform-clause-applied
returns-in-SetRootTransform-clause-applied c = λ setup draft s.
    graph-applied setup draft _ _ _ c.self-in-SetRootTransform.inside.graph _ _ _ _ _
    (root_tests c.self-in-SetRootTransform.inside.graph c.in-SetRootTransform.t.0) c.set_root.result c.in-SetRootTransform.is
    c.self-in-SetRootTransform.view_is refl refl s
    (λ g. (graph_calls_stand setup _ draft g).set_root c.in-SetRootTransform.t) c.set_root.ensures.set c.set_root.ensures.allowed c.set_root.ensures.fault
    c.set_root.ensures.kept

pub returns-in-CreateTransform-clause-applied : goal.returns-in-CreateTransform-clause-applied
returns-in-CreateTransform-clause-applied c = λ setup draft s.
    create-applied setup draft _ c.in-CreateTransform.t _ c.self.inside.graph _ _ _ _ c.create_transform.result c.in-CreateTransform.is c.self.view_is s
    c.create_transform.ensures.created c.create_transform.ensures.allowed c.create_transform.ensures.fault c.create_transform.ensures.kept

pub returns-in-SetHitRegions-clause-applied : goal.returns-in-SetHitRegions-clause-applied
returns-in-SetHitRegions-clause-applied c = λ setup draft s.
    graph-applied setup draft _ (SetHitRegions c.in-SetHitRegions.t c.as_slice-in-SetHitRegions.result.now) _ c.self-in-SetHitRegions.inside.graph _ _ _ _ _
    (hits_tests c.self-in-SetHitRegions.inside.graph c.in-SetHitRegions.t.0 c.as_slice-in-SetHitRegions.result.now)
    c.set_hits.result (c.in-SetHitRegions.is ∙ ap (SetHitRegions c.in-SetHitRegions.t) (sym c.as_slice-in-SetHitRegions.ensures))
    c.self-in-SetHitRegions.view_is refl refl s
    (λ g. (graph_calls_stand setup _ draft g).set_hits c.in-SetHitRegions.t c.as_slice-in-SetHitRegions.result.now)
    c.set_hits.ensures.set c.set_hits.ensures.allowed c.set_hits.ensures.fault c.set_hits.ensures.kept

pub returns-in-SetInfiniteHitRegion-clause-applied : goal.returns-in-SetInfiniteHitRegion-clause-applied
returns-in-SetInfiniteHitRegion-clause-applied c = λ setup draft s.
    let e = c.set_hits-in-SetInfiniteHitRegion.ensures in
    let regions : List HitRegion = (record { area = None; interaction = c.in-SetInfiniteHitRegion.i }) ∷ [] in
    graph-applied setup draft _ _ _ c.self-in-SetInfiniteHitRegion.inside.graph _ _ _ _ _
    (hits_tests c.self-in-SetInfiniteHitRegion.inside.graph c.in-SetInfiniteHitRegion.t.0 regions)
    c.set_hits-in-SetInfiniteHitRegion.result c.in-SetInfiniteHitRegion.is c.self-in-SetInfiniteHitRegion.view_is refl refl s
    (λ g. (graph_calls_stand setup _ draft g).set_infinite c.in-SetInfiniteHitRegion.t c.in-SetInfiniteHitRegion.i regions refl)
    e.set e.allowed e.fault e.kept
