-- The calls on transforms and on the view leave what a table stands for.
use Rattle.std.proofs.Common.{◌≡◌, refl}
use Rattle.flat_scene.specs.declared.calls.Call.TheVariants.{CreateView, ReleaseView, CreateTransform, ReleaseTransform, SetTranslation, SetOrientation}
use Rattle.flat_scene.specs.declared.calls.Call.TheVariants.{SetScale, SetOpacity, SetClipBoundary, AddChild, RemoveChild, ReplaceChildren, SetRootTransform}
use Rattle.flat_scene.specs.declared.calls.Call.TheVariants.{CreateViewport, SetViewportProperties, ReleaseViewport, CreateImage, SetImageSampleRegion}
use Rattle.flat_scene.specs.declared.calls.Call.TheVariants.{SetImageDestinationSize, SetImageBlendingFunction, SetImageFlip, SetImageOpacity, ReleaseImage}
use Rattle.flat_scene.specs.declared.calls.Call.TheVariants.{CreateFilledRect, SetSolidFill, ReleaseFilledRect, SetHitRegions, SetInfiniteHitRegion, SetContent}
use Rattle.flat_scene.specs.declared.calls.Call.TheVariants.{Clear}
use Rattle.flat_scene.specs.declared.setup.Setup.{Setup}
use Rattle.flat_scene.specs.Draft.{Draft}
use Rattle.flat_content.specs.Laws.{OtherCallsStand}
use Rattle.flat_content.specs.Stands.{StandsFor}
use Rattle.flat_content.specs.Table.{TableState}

same-parts : (setup : Setup) (table : TableState) (draft after : Draft) → StandsFor setup table draft → draft.contents ≡ after.contents
    → draft.content_names ≡ after.content_names → draft.viewports ≡ after.viewports
    → StandsFor setup table after
same-parts setup table draft after s contents names viewports = record {
  sound = s.sound;
  buffers = s.buffers;
  contents = rw (← contents) s.contents;
  names = rw (← names) s.names;
  count = rw (← names) s.count;
  once = rw (← names) s.once;
  viewports = rw (← viewports) s.viewports;
}

pub other_calls_stand : OtherCallsStand
other_calls_stand setup table draft (CreateView pair) other s = same-parts setup table draft _ s refl refl refl
other_calls_stand setup table draft ReleaseView other s = same-parts setup table draft _ s refl refl refl
other_calls_stand setup table draft (CreateTransform t) other s = same-parts setup table draft _ s refl refl refl
other_calls_stand setup table draft (ReleaseTransform t) other s = same-parts setup table draft _ s refl refl refl
other_calls_stand setup table draft (SetTranslation t x y) other s = same-parts setup table draft _ s refl refl refl
other_calls_stand setup table draft (SetOrientation t o) other s = same-parts setup table draft _ s refl refl refl
other_calls_stand setup table draft (SetScale t sx sy) other s = same-parts setup table draft _ s refl refl refl
other_calls_stand setup table draft (SetOpacity t v) other s = same-parts setup table draft _ s refl refl refl
other_calls_stand setup table draft (SetClipBoundary t rect) other s = same-parts setup table draft _ s refl refl refl
other_calls_stand setup table draft (AddChild p k) other s = same-parts setup table draft _ s refl refl refl
other_calls_stand setup table draft (RemoveChild p k) other s = same-parts setup table draft _ s refl refl refl
other_calls_stand setup table draft (ReplaceChildren p ks) other s = same-parts setup table draft _ s refl refl refl
other_calls_stand setup table draft (SetRootTransform t) other s = same-parts setup table draft _ s refl refl refl
other_calls_stand setup table draft (CreateViewport c pair w h inset) other s = absurd (cc)
other_calls_stand setup table draft (SetViewportProperties c w h inset) other s = absurd (cc)
other_calls_stand setup table draft (ReleaseViewport c) other s = absurd (cc)
other_calls_stand setup table draft (CreateImage c buffers i w h) other s = absurd (cc)
other_calls_stand setup table draft (SetImageSampleRegion c rect) other s = absurd (cc)
other_calls_stand setup table draft (SetImageDestinationSize c w h) other s = absurd (cc)
other_calls_stand setup table draft (SetImageBlendingFunction c m) other s = absurd (cc)
other_calls_stand setup table draft (SetImageFlip c f) other s = absurd (cc)
other_calls_stand setup table draft (SetImageOpacity c v) other s = absurd (cc)
other_calls_stand setup table draft (ReleaseImage c) other s = absurd (cc)
other_calls_stand setup table draft (CreateFilledRect c) other s = absurd (cc)
other_calls_stand setup table draft (SetSolidFill c r g b a w h) other s = absurd (cc)
other_calls_stand setup table draft (ReleaseFilledRect c) other s = absurd (cc)
other_calls_stand setup table draft (SetHitRegions t regions) other s = same-parts setup table draft _ s refl refl refl
other_calls_stand setup table draft (SetInfiniteHitRegion t i) other s = same-parts setup table draft _ s refl refl refl
other_calls_stand setup table draft (SetContent t c) other s = same-parts setup table draft _ s refl refl refl
other_calls_stand setup table draft Clear other s = absurd (cc)
