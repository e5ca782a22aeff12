-- What is found once of an item, for all tiles on which it is drawn.
use Rattle.std.specs.Prelude.{◌≡◌, ℕ, zero, suc, ◌+◌, ◌-◌, ◌*◌, ◌%◌, ◌<◌, ◌≤◌, ◌^◌, true, List, length}
use Rattle.std.specs.Prelude.{slice_index, slice_index_or}
use Rattle.flat_scene.specs.declared.calls.BlendMode.TheVariants.{Src}
use Rattle.flat_scene.specs.declared.frames.DrawItem.{DrawItem}
use Rattle.flat_ink.specs.declared.area.Area.{Area}
use Rattle.flat_ink.specs.declared.channel_ink.BlendRule.{BlendRule}
use Rattle.flat_ink.specs.declared.channel_ink.BlendRule.TheVariants.{Replace}
use Rattle.flat_tile.specs.declared.prepared_item.PreparedItem.{PreparedItem}
use Rattle.flat_tile.specs.declared.prepared_item.ItemChannels.{ItemChannels}
use Rattle.flat_tile.specs.declared.prepared_item.ItemChannels.TheVariants.{Even, Stepped, Sampled}
use Rattle.flat_tile.specs.declared.image_stamp.ImageStamp.{ImageStamp}
use Rattle.flat_ink.specs.Areas.{has_pixel, IsInArea}
use Rattle.flat_ink.specs.Channels.{channel_painted}
use Rattle.flat_ink.specs.Inks.{mixed}
use Rattle.flat_ink.specs.Pixels.{covers}
use Rattle.flat_ink.specs.Textures.{stride_of}

-- the value of a channel at a pixel of the area that an item covers, as it is mixed; sampled tones give none
abbrev pub toned : Area → ItemChannels → ℕ → ℕ → ℕ → ℕ
toned area (Even tones) c px py = slice_index tones c
toned area (Stepped steps) zero px py = (steps.red + stride_of steps.rises * (px - area.x0)) % 256
toned area (Stepped steps) (suc zero) px py = (steps.green + stride_of steps.sinks * (py - area.y0)) % 256
toned area (Stepped steps) (suc (suc c)) px py = steps.blue
toned area Sampled c px py = 0

-- what a stamp gives a channel of a pixel of its area
abbrev pub stamped : ImageStamp → ℕ → ℕ → ℕ → ℕ
stamped it zero px py = slice_index it.reds (px - it.cut.x0)
stamped it (suc zero) px py = slice_index it.greens (py - it.cut.y0)
stamped it (suc (suc c)) px py = it.blue

-- a stamp has a value for each column and row of its area
pub record IsStamp (it : ImageStamp) : Type 0 where
  pub columns : it.cut.x1 - it.cut.x0 ≤ length it.reds
  pub rows : it.cut.y1 - it.cut.y0 ≤ length it.greens

-- tones give each pixel of an area what an item gives it
abbrev pub Paints : DrawItem → BlendRule → Area → ItemChannels → Type 0
Paints item mix area tones = (c px py old : ℕ) → c < 3 → has_pixel area px py ≡ true
    → mixed mix (toned area tones c px py) old ≡ channel_painted c item px py old

-- tones are those of an item, where they aren't read from the item
abbrev pub AreTonesOf : DrawItem → BlendRule → Area → ItemChannels → Type 0
AreTonesOf item mix area (Even tones) = Paints item mix area (Even tones)
AreTonesOf item mix area (Stepped steps) = Paints item mix area (Stepped steps)
AreTonesOf item mix area Sampled = Unit {0}

-- an area has the pixels that an item covers
abbrev pub IsAreaOf : DrawItem → Area → Type 0
IsAreaOf item area = (px py : ℕ) → px < 2 ^ 29 → py < 2 ^ 29 → has_pixel area px py ≡ covers item px py

-- what was found of an item
pub record IsPrepared (item : DrawItem) (it : PreparedItem) : Type 0 where
  pub area : IsAreaOf item it.area
  pub replaces : it.mix ≡ Replace → item.blend ≡ Src
  pub tones : AreTonesOf item it.mix it.area it.tones

-- what was found of each of some items
pub record ArePrepared (items : List DrawItem) (list : List PreparedItem) : Type 0 where
  pub count : length list ≡ length items
  pub each : (n : ℕ) (d : DrawItem) (e : PreparedItem) → n < length items
      → IsPrepared (slice_index_or items n d) (slice_index_or list n e)

-- an item replaces what is below it, and covers a window
pub record IsOver (it : PreparedItem) (window : Area) : Type 0 where
  pub replaces : it.mix ≡ Replace
  pub within : IsInArea it.area window
