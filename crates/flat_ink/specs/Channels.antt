-- Channels: the red, green and blue of a pixel, each by itself. Their numbers are 0, 1 and 2.
use Rattle.std.specs.Prelude.{ℕ, if◌then◌else◌, List, fold, slice_index}
use Rattle.flat_scene.specs.declared.frames.DrawItem.{DrawItem}
use Rattle.flat_ink.specs.Colours.{laid}
use Rattle.flat_ink.specs.Pixels.{covers, paint_colour}

-- a channel of a pixel that an item covers, after it
unfoldable pub channel_painted : ℕ → DrawItem → ℕ → ℕ → ℕ → ℕ
channel_painted c item px py old =
    laid item.blend item.opacity (slice_index (paint_colour item item.paint px py) 3)
    (slice_index (paint_colour item item.paint px py) c) old

-- a channel of a pixel after an item
abbrev pub channel_step : ℕ → DrawItem → ℕ → ℕ → ℕ → ℕ
channel_step c item px py old = if covers item px py then channel_painted c item px py old else old

-- a channel of a pixel after each of some items in order
abbrev pub channel_after : ℕ → List DrawItem → ℕ → ℕ → ℕ → ℕ
channel_after c items px py old = fold (λ was item. channel_step c item px py was) old items
