-- Which calls are of contents.
use Rattle.std.specs.Prelude.{Bool, true, false}
use Rattle.flat_forms.specs.declared.calls.CallName.{CallName}
use Rattle.flat_forms.specs.declared.calls.CallName.TheVariants.{CreateViewport, SetViewportProperties, ReleaseViewport}
use Rattle.flat_forms.specs.declared.calls.CallName.TheVariants.{CreateImage, SetImageSampleRegion}
use Rattle.flat_forms.specs.declared.calls.CallName.TheVariants.{SetImageDestinationSize, SetImageBlendingFunction}
use Rattle.flat_forms.specs.declared.calls.CallName.TheVariants.{SetImageFlip, SetImageOpacity, ReleaseImage}
use Rattle.flat_forms.specs.declared.calls.CallName.TheVariants.{CreateFilledRect, SetSolidFill, ReleaseFilledRect}

-- the call makes, changes or releases a content
abbrev pub is_of_contents : CallName → Bool
is_of_contents CreateViewport = true
is_of_contents SetViewportProperties = true
is_of_contents ReleaseViewport = true
is_of_contents CreateImage = true
is_of_contents SetImageSampleRegion = true
is_of_contents SetImageDestinationSize = true
is_of_contents SetImageBlendingFunction = true
is_of_contents SetImageFlip = true
is_of_contents SetImageOpacity = true
is_of_contents ReleaseImage = true
is_of_contents CreateFilledRect = true
is_of_contents SetSolidFill = true
is_of_contents ReleaseFilledRect = true
is_of_contents other = false
