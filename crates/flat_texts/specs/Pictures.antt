-- The picture of the frame that was finished last.
use Rattle.std.specs.Prelude.{ℕ, List, [], Option}
use Rattle.std.specs.Option.{option_map_or}
use Rattle.flat_base.specs.Last.{last_item}
use Rattle.flat_scene.specs.declared.frames.DrawItem.{DrawItem}
use Rattle.flat_scene.specs.declared.frames.FrameOut.{FrameOut}
use Rattle.flat_scene.specs.declared.setup.Setup.{Setup}
use Rattle.flat_ink.specs.Pixels.{pixel}
use Rattle.flat_render.specs.Ppm.{ppm_bytes}

-- the draw list that is shown after this frame, if there is one
abbrev pub list_of : Option FrameOut → List DrawItem
list_of last = option_map_or (λ frame. frame.items) last []

-- the bytes of the display's picture after this frame; before the first one it is black
abbrev pub picture_of : Setup → Option FrameOut → List ℕ
picture_of setup last = ppm_bytes setup.width setup.height (pixel (list_of last))

-- the same after the last of some frames
abbrev pub picture_text : Setup → List FrameOut → List ℕ
picture_text setup frames = picture_of setup (last_item frames)
