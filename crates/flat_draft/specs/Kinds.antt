-- Kinds of calls.
use Rattle.std.specs.Prelude.{Bool, true, false}
use Rattle.flat_scene.specs.declared.calls.Call.{Call}
use Rattle.flat_scene.specs.declared.calls.Call.TheVariants.{CreateView, ReleaseView, SetContent, ReleaseViewport}
use Rattle.flat_scene.specs.declared.calls.Call.TheVariants.{Clear, CreateViewport, SetViewportProperties, CreateImage}
use Rattle.flat_scene.specs.declared.calls.Call.TheVariants.{SetImageSampleRegion, SetImageDestinationSize}
use Rattle.flat_scene.specs.declared.calls.Call.TheVariants.{SetImageBlendingFunction, SetImageFlip, SetImageOpacity}
use Rattle.flat_scene.specs.declared.calls.Call.TheVariants.{ReleaseImage, CreateFilledRect, SetSolidFill}
use Rattle.flat_scene.specs.declared.calls.Call.TheVariants.{ReleaseFilledRect}

-- the calls that neither change the view nor look at transforms and contents at once
abbrev pub is_of_one_part : Call → Bool
is_of_one_part (CreateView pair) = false
is_of_one_part ReleaseView = false
is_of_one_part (SetContent t c) = false
is_of_one_part (ReleaseViewport c) = false
is_of_one_part Clear = false
is_of_one_part other = true

-- those that make, change or release an image
abbrev pub is_of_images : Call → Bool
is_of_images (CreateImage c buffers i w h) = true
is_of_images (SetImageSampleRegion c rect) = true
is_of_images (SetImageDestinationSize c w h) = true
is_of_images (SetImageBlendingFunction c m) = true
is_of_images (SetImageFlip c f) = true
is_of_images (SetImageOpacity c v) = true
is_of_images (ReleaseImage c) = true
is_of_images other = false

-- those that make, change or release a content, and leave the transforms alone
abbrev pub is_of_contents_alone : Call → Bool
is_of_contents_alone (CreateViewport c pair w h inset) = true
is_of_contents_alone (SetViewportProperties c w h inset) = true
is_of_contents_alone (CreateFilledRect c) = true
is_of_contents_alone (SetSolidFill c r g b a w h) = true
is_of_contents_alone (ReleaseFilledRect c) = true
is_of_contents_alone other = is_of_images other
