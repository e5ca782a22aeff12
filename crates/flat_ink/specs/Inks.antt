-- Ink: what a draw item lays on one channel of an area of pixels.
use Rattle.std.specs.Prelude.{◌≡◌, ℕ, ◌-◌, ◌*◌, ◌/◌, true, length, slice_index}
use Rattle.flat_base.specs.declared.limits.TheConstants.{ONE}
use Rattle.flat_scene.specs.declared.calls.BlendMode.{BlendMode}
use Rattle.flat_scene.specs.declared.calls.BlendMode.TheVariants.{Src, SrcOver}
use Rattle.flat_scene.specs.declared.frames.DrawItem.{DrawItem}
use Rattle.flat_ink.specs.declared.area.Area.{Area}
use Rattle.flat_ink.specs.declared.channel_ink.ChannelInk.{ChannelInk}
use Rattle.flat_ink.specs.declared.channel_ink.BlendRule.{BlendRule}
use Rattle.flat_ink.specs.declared.channel_ink.BlendRule.TheVariants.{Replace, Cover}
use Rattle.flat_ink.specs.declared.channel_ink.ChannelValues.{ChannelValues}
use Rattle.flat_ink.specs.declared.channel_ink.ChannelValues.TheVariants.{Even, Across, Down}
use Rattle.flat_ink.specs.Areas.{has_pixel}
use Rattle.flat_ink.specs.Channels.{channel_painted}
use Rattle.flat_ink.specs.Colours.{replaced, covered}

-- a channel as it is mixed with what is there: at the opacity where it replaces that
abbrev pub tone : BlendMode → ℕ → ℕ → ℕ
tone Src opacity s = replaced opacity s
tone SrcOver opacity s = s

-- how a colour with that alpha is mixed with what is there
abbrev pub mix_of : BlendMode → ℕ → ℕ → BlendRule
mix_of Src opacity alpha = Replace
mix_of SrcOver opacity alpha = Cover (alpha * opacity / ONE)

-- a channel after it is mixed so
abbrev pub mixed : BlendRule → ℕ → ℕ → ℕ
mixed Replace s old = s
mixed (Cover weight) s old = covered weight s old

-- the value of a shade at a column and a row of its area
abbrev pub shade_at : ChannelValues → ℕ → ℕ → ℕ
shade_at (Even value) i j = value
shade_at (Across values) i j = slice_index values i
shade_at (Down values) i j = slice_index values j

-- a shade has a value for each column or row that an area may have
abbrev pub IsShade : ChannelValues → Type 0
IsShade (Even value) = Unit {0}
IsShade (Across values) = length values ≡ 64
IsShade (Down values) = length values ≡ 64

-- a channel after ink, at a column and a row of its area
abbrev pub inked : ChannelInk → ℕ → ℕ → ℕ → ℕ
inked ink i j old = mixed ink.mix (shade_at ink.shade i j) old

-- ink is that of a channel of an item, in an area that the item covers
pub record IsInk (c : ℕ) (item : DrawItem) (cut : Area) (ink : ChannelInk) : Type 0 where
  pub shade : IsShade ink.shade
  pub paints : (px py old : ℕ) → has_pixel cut px py ≡ true
      → inked ink (px - cut.x0) (py - cut.y0) old ≡ channel_painted c item px py old
