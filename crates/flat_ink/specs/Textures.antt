-- Textures: what an image shows, read along the axes of the display.
use Rattle.std.specs.Prelude.{◌≡◌, ℕ, ◌+◌, ◌*◌, ◌<◌, ◌≤◌, ◌-ℤ◌, unsigned_abs, Bool, true, false, not, pos}
use Rattle.std.specs.Prelude.{int_lt, if◌then◌else◌, List, length}
use Rattle.std.specs.Prelude.{slice_index}
use Rattle.flat_base.specs.declared.ids.BufferNo.{BufferNo}
use Rattle.flat_base.specs.declared.limits.TheConstants.{ONE}
use Rattle.flat_geom.specs.Rectangles.{is_between}
use Rattle.flat_scene.specs.declared.frames.DrawItem.{DrawItem}
use Rattle.flat_scene.specs.declared.frames.Paint.TheVariants.{Image}
use Rattle.flat_scene.specs.declared.calls.ImageFlip.{ImageFlip}
use Rattle.flat_scene.specs.declared.calls.ImageFlip.TheVariants.{LeftRight, UpDown}
use Rattle.flat_ink.specs.declared.area.Area.{Area}
use Rattle.flat_ink.specs.declared.axis.Axis.{Axis}
use Rattle.flat_ink.specs.declared.texture.Texture.{Texture}
use Rattle.flat_ink.specs.Colours.{red_at, green_at, blue_at}
use Rattle.flat_ink.specs.Inks.{tone}
use Rattle.flat_ink.specs.Pixels.{centre, buffer_column, buffer_row, column_axis, row_axis}

-- the red of a texture at a number along its columns' axis, as it is mixed
abbrev pub texture_red : Texture → ℕ → ℕ
texture_red texture p = tone texture.blend texture.opacity
    (red_at texture.index (buffer_column texture.columns texture.sample texture.flip p))

-- its green at a number along its rows' axis
abbrev pub texture_green : Texture → ℕ → ℕ
texture_green texture p = tone texture.blend texture.opacity
    (green_at (buffer_row texture.rows texture.sample texture.flip p))

-- and its blue, which is the same everywhere
abbrev pub texture_blue : Texture → ℕ
texture_blue texture = tone texture.blend texture.opacity (blue_at texture.buffers)

-- a texture lies below the columns of pixels of an area, and below its rows
pub record IsBelow (texture : Texture) (cut : Area) : Type 0 where
  pub across : (px : ℕ) → cut.x0 ≤ px → px < cut.x1
      → is_between (if texture.swap then texture.rows else texture.columns).low
      (if texture.swap then texture.rows else texture.columns).high (centre px) ≡ true
  pub down : (py : ℕ) → cut.y0 ≤ py → py < cut.y1
      → is_between (if texture.swap then texture.columns else texture.rows).low
      (if texture.swap then texture.columns else texture.rows).high (centre py) ≡ true

-- values for the pixels from a first number up to a last one, which isn't among them
pub record IsTable (value : ℕ → ℕ) (from upto : ℕ) (table : List ℕ) : Type 0 where
  pub size : length table ≡ 64
  pub values : (i : ℕ) → from + i < upto → slice_index table i ≡ value (from + i)

-- the texture that an image has
pub record IsTextureOf (item : DrawItem) (texture : Texture) : Type 0 where
  pub buffers : BufferNo
  pub number : buffers.0 ≡ texture.buffers
  pub paint : item.paint ≡ Image buffers texture.index texture.sample texture.flip
  pub swap : texture.swap ≡ item.matrix.swap
  pub columns : texture.columns ≡ column_axis item
  pub rows : texture.rows ≡ row_axis item
  pub blend : texture.blend ≡ item.blend
  pub opacity : texture.opacity ≡ item.opacity

-- a texture isn't turned, its values stay as they are, and each column and row of the buffer is one unit wide
pub record IsPlain (texture : Texture) : Type 0 where
  pub straight : texture.swap ≡ false
  pub full : (s : ℕ) → tone texture.blend texture.opacity s ≡ s
  pub columns : unsigned_abs (texture.columns.high -ℤ texture.columns.low) ≡ unsigned_abs texture.sample.w * ONE
  pub rows : unsigned_abs (texture.rows.high -ℤ texture.rows.low) ≡ unsigned_abs texture.sample.h * ONE

-- whether pixels side by side have columns of the buffer that rise, and not ones that fall
abbrev pub rises_across : Axis → ImageFlip → Bool
rises_across axis LeftRight = not (int_lt (pos 0) axis.entry)
rises_across axis _ = int_lt (pos 0) axis.entry

-- and rows
abbrev pub rises_down : Axis → ImageFlip → Bool
rises_down axis UpDown = not (int_lt (pos 0) axis.entry)
rises_down axis _ = int_lt (pos 0) axis.entry

-- how much a buffer's red grows from a column to the next one, and its green from row to row:
-- up, or else down, which is the rest of 256
abbrev pub stride_of : Bool → ℕ
stride_of rises = if rises then 64 else 192
