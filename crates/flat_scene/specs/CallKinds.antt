-- Which calls are on viewports, on images and on filled rectangles.
use Rattle.std.specs.Prelude.{Bool, true, false}
use Rattle.flat_scene.specs.declared.calls.Call.{Call}
use Rattle.flat_scene.specs.declared.calls.Call.TheVariants as call

abbrev pub is_viewport_call : Call → Bool
is_viewport_call (call.CreateViewport c pair w h inset) = true
is_viewport_call (call.SetViewportProperties c w h inset) = true
is_viewport_call (call.ReleaseViewport c) = true
is_viewport_call other = false

abbrev pub is_image_call : Call → Bool
is_image_call (call.CreateImage c buffers i w h) = true
is_image_call (call.SetImageSampleRegion c rect) = true
is_image_call (call.SetImageDestinationSize c w h) = true
is_image_call (call.SetImageBlendingFunction c m) = true
is_image_call (call.SetImageFlip c f) = true
is_image_call (call.SetImageOpacity c v) = true
is_image_call (call.ReleaseImage c) = true
is_image_call other = false

abbrev pub is_fill_call : Call → Bool
is_fill_call (call.CreateFilledRect c) = true
is_fill_call (call.SetSolidFill c r g b a w h) = true
is_fill_call (call.ReleaseFilledRect c) = true
is_fill_call other = false
