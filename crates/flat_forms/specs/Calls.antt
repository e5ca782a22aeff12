-- The calls of a session: how each is written, and the form of what follows.
use Rattle.std.specs.Prelude.{ℕ, List, [], ◌∷◌, Option, None, codes, find, if◌then◌else◌}
use Rattle.std.specs.Option.{option_map_or}
use Rattle.std.specs.Str.{bytes_eq}
use Rattle.flat_base.specs.declared.ids.SessionNo.{SessionNo}
use Rattle.flat_scene.specs.declared.calls.Call.{Call}
use Rattle.flat_scene.specs.declared.calls.Call.TheVariants as call
use Rattle.flat_scene.specs.declared.calls.Inset.{Inset}
use Rattle.flat_scene.specs.Draft.{no_inset}
use Rattle.flat_forms.specs.declared.calls.CallName.{CallName}
use Rattle.flat_forms.specs.declared.calls.CallName.TheVariants.{CreateView, ReleaseView, CreateTransform}
use Rattle.flat_forms.specs.declared.calls.CallName.TheVariants.{ReleaseTransform, SetTranslation, SetOrientation}
use Rattle.flat_forms.specs.declared.calls.CallName.TheVariants.{SetScale, SetOpacity, SetClipBoundary, AddChild}
use Rattle.flat_forms.specs.declared.calls.CallName.TheVariants.{RemoveChild, ReplaceChildren, SetRootTransform}
use Rattle.flat_forms.specs.declared.calls.CallName.TheVariants.{CreateViewport, SetViewportProperties, ReleaseViewport}
use Rattle.flat_forms.specs.declared.calls.CallName.TheVariants.{CreateImage, SetImageSampleRegion}
use Rattle.flat_forms.specs.declared.calls.CallName.TheVariants.{SetImageDestinationSize, SetImageBlendingFunction}
use Rattle.flat_forms.specs.declared.calls.CallName.TheVariants.{SetImageFlip, SetImageOpacity, ReleaseImage}
use Rattle.flat_forms.specs.declared.calls.CallName.TheVariants.{CreateFilledRect, SetSolidFill, ReleaseFilledRect}
use Rattle.flat_forms.specs.declared.calls.CallName.TheVariants.{SetHitRegions, SetInfiniteHitRegion, SetContent, Clear}
use Rattle.flat_places.specs.declared.script.Script.{Script}
use Rattle.flat_places.specs.Known.{knows}
use Rattle.flat_places.specs.Forms.{Word, Form, give, optional, ◌<$>◌, ◌<*>◌}
use Rattle.flat_places.specs.Places.{transform, transforms, content, view_end, viewport_end, collection, i32, u32}
use Rattle.flat_places.specs.Places.{colour, orientation, blend, flip, interaction, int_rect, inset, regions}

-- how a call's name is written
abbrev pub text : CallName → List ℕ
text CreateView = codes "CreateView"
text ReleaseView = codes "ReleaseView"
text CreateTransform = codes "CreateTransform"
text ReleaseTransform = codes "ReleaseTransform"
text SetTranslation = codes "SetTranslation"
text SetOrientation = codes "SetOrientation"
text SetScale = codes "SetScale"
text SetOpacity = codes "SetOpacity"
text SetClipBoundary = codes "SetClipBoundary"
text AddChild = codes "AddChild"
text RemoveChild = codes "RemoveChild"
text ReplaceChildren = codes "ReplaceChildren"
text SetRootTransform = codes "SetRootTransform"
text CreateViewport = codes "CreateViewport"
text SetViewportProperties = codes "SetViewportProperties"
text ReleaseViewport = codes "ReleaseViewport"
text CreateImage = codes "CreateImage"
text SetImageSampleRegion = codes "SetImageSampleRegion"
text SetImageDestinationSize = codes "SetImageDestinationSize"
text SetImageBlendingFunction = codes "SetImageBlendingFunction"
text SetImageFlip = codes "SetImageFlip"
text SetImageOpacity = codes "SetImageOpacity"
text ReleaseImage = codes "ReleaseImage"
text CreateFilledRect = codes "CreateFilledRect"
text SetSolidFill = codes "SetSolidFill"
text ReleaseFilledRect = codes "ReleaseFilledRect"
text SetHitRegions = codes "SetHitRegions"
text SetInfiniteHitRegion = codes "SetInfiniteHitRegion"
text SetContent = codes "SetContent"
text Clear = codes "Clear"

-- all calls
abbrev pub call_names : List CallName
call_names = CreateView ∷ ReleaseView ∷ CreateTransform ∷ ReleaseTransform ∷ SetTranslation ∷ SetOrientation ∷ SetScale
    ∷ SetOpacity ∷ SetClipBoundary ∷ AddChild ∷ RemoveChild ∷ ReplaceChildren ∷ SetRootTransform ∷ CreateViewport
    ∷ SetViewportProperties ∷ ReleaseViewport ∷ CreateImage ∷ SetImageSampleRegion ∷ SetImageDestinationSize
    ∷ SetImageBlendingFunction ∷ SetImageFlip ∷ SetImageOpacity ∷ ReleaseImage ∷ CreateFilledRect ∷ SetSolidFill
    ∷ ReleaseFilledRect ∷ SetHitRegions ∷ SetInfiniteHitRegion ∷ SetContent ∷ Clear ∷ []

-- the call that the word names
abbrev pub call_written : Word → Option CallName
call_written w = find (λ n. bytes_eq w (text n)) call_names

-- the same, where scripts of that version may use the word
abbrev pub call_named : ℕ → Word → Option CallName
call_named version w = if knows version w then call_written w else None

-- the inset that is given, or 0 on all sides
abbrev pub inset_or_none : Option Inset → Inset
inset_or_none o = option_map_or (λ i. i) o no_inset

-- what stands behind a call's name: its fields, in this order
abbrev pub call_form : Script → SessionNo → CallName → Form Call
call_form s a CreateView = call.CreateView <$> view_end s a
call_form s a ReleaseView = give call.ReleaseView
call_form s a CreateTransform = call.CreateTransform <$> transform
call_form s a ReleaseTransform = call.ReleaseTransform <$> transform
call_form s a SetTranslation = (λ t x y. call.SetTranslation t x y) <$> transform <*> i32 <*> i32
call_form s a SetOrientation = (λ t o. call.SetOrientation t o) <$> transform <*> orientation
call_form s a SetScale = (λ t x y. call.SetScale t x y) <$> transform <*> u32 <*> u32
call_form s a SetOpacity = (λ t v. call.SetOpacity t v) <$> transform <*> u32
call_form s a SetClipBoundary = (λ t r. call.SetClipBoundary t r) <$> transform <*> optional int_rect
call_form s a AddChild = (λ p k. call.AddChild p k) <$> transform <*> transform
call_form s a RemoveChild = (λ p k. call.RemoveChild p k) <$> transform <*> transform
call_form s a ReplaceChildren = (λ p ks. call.ReplaceChildren p ks) <$> transform <*> (λ words. (transforms words, []))
call_form s a SetRootTransform = call.SetRootTransform <$> transform
call_form s a CreateViewport = (λ c p w h i. call.CreateViewport c p w h (inset_or_none i))
    <$> content <*> viewport_end s a <*> u32 <*> u32 <*> optional inset
call_form s a SetViewportProperties = (λ c w h i. call.SetViewportProperties c w h i)
    <$> content <*> u32 <*> u32 <*> optional inset
call_form s a ReleaseViewport = call.ReleaseViewport <$> content
call_form s a CreateImage = (λ c b i w h. call.CreateImage c b i w h)
    <$> content <*> collection s a <*> u32 <*> u32 <*> u32
call_form s a SetImageSampleRegion = (λ c r. call.SetImageSampleRegion c r) <$> content <*> int_rect
call_form s a SetImageDestinationSize = (λ c w h. call.SetImageDestinationSize c w h) <$> content <*> u32 <*> u32
call_form s a SetImageBlendingFunction = (λ c m. call.SetImageBlendingFunction c m) <$> content <*> blend
call_form s a SetImageFlip = (λ c f. call.SetImageFlip c f) <$> content <*> flip
call_form s a SetImageOpacity = (λ c v. call.SetImageOpacity c v) <$> content <*> u32
call_form s a ReleaseImage = call.ReleaseImage <$> content
call_form s a CreateFilledRect = call.CreateFilledRect <$> content
call_form s a SetSolidFill = (λ c r g b a w h. call.SetSolidFill c r g b a w h)
    <$> content <*> colour <*> colour <*> colour <*> colour <*> u32 <*> u32
call_form s a ReleaseFilledRect = call.ReleaseFilledRect <$> content
call_form s a SetHitRegions = (λ t r. call.SetHitRegions t r) <$> transform <*> (λ words. (regions words, []))
call_form s a SetInfiniteHitRegion = (λ t i. call.SetInfiniteHitRegion t i) <$> transform <*> interaction
call_form s a SetContent = (λ t c. call.SetContent t c) <$> transform <*> content
call_form s a Clear = give call.Clear
