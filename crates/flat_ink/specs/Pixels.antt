-- The colour of a pixel under a draw list.
use Rattle.std.specs.Prelude.{ℕ, ℤ, pos, ◌+◌, ◌-◌, ◌*◌, ◌/◌, ◌-ℤ◌, int_lt, Bool, if◌then◌else◌, List, fold}
use Rattle.std.specs.Prelude.{unsigned_abs}
use Rattle.flat_base.specs.declared.shapes.IntRect.{IntRect}
use Rattle.flat_drawable.specs.Drawable.{full_rect}
use Rattle.flat_geom.specs.Rectangles.{has_point}
use Rattle.flat_scene.specs.declared.calls.ImageFlip.{ImageFlip}
use Rattle.flat_scene.specs.declared.calls.ImageFlip.TheVariants.{LeftRight, UpDown}
use Rattle.flat_scene.specs.declared.frames.DrawItem.{DrawItem}
use Rattle.flat_scene.specs.declared.frames.Paint.{Paint}
use Rattle.flat_scene.specs.declared.frames.Paint.TheVariants.{Fill, Image}
use Rattle.flat_ink.specs.declared.axis.Axis.{Axis}
use Rattle.flat_ink.specs.Colours.{texel_of, laid_colour, black}

-- the centre of a pixel along one axis, in places
abbrev pub centre : ℕ → ℤ
centre p = pos (65536 * p + 32768)

-- the axes of the display, as an item lies along them
abbrev pub along_x : DrawItem → Axis
along_x item = record { entry = item.matrix.a; low = (full_rect item).x0; high = (full_rect item).x1 }

abbrev pub along_y : DrawItem → Axis
along_y item = record { entry = item.matrix.b; low = (full_rect item).y0; high = (full_rect item).y1 }

-- how far a pixel lies into the item, from the end at which the item begins: the low one where the entry is positive
abbrev pub depth : Axis → ℕ → ℕ
depth axis p =
    unsigned_abs (if int_lt (pos 0) axis.entry then centre p -ℤ axis.low else (axis.high -ℤ pos 1) -ℤ centre p)

-- in which of so many equal parts of the item a pixel lies
abbrev pub part_of : Axis → ℕ → ℕ → ℕ
part_of axis count p = depth axis p * count / unsigned_abs (axis.high -ℤ axis.low)

-- the axis of the display along which the columns of an image lie
abbrev pub column_axis : DrawItem → Axis
column_axis item = if item.matrix.swap then along_y item else along_x item

-- and the rows
abbrev pub row_axis : DrawItem → Axis
row_axis item = if item.matrix.swap then along_x item else along_y item

-- a column of so many, as a flip takes it
abbrev pub flipped_column : ImageFlip → ℕ → ℕ → ℕ
flipped_column LeftRight count n = count - 1 - n
flipped_column _ count n = n

-- a row of so many, as a flip takes it
abbrev pub flipped_row : ImageFlip → ℕ → ℕ → ℕ
flipped_row UpDown count n = count - 1 - n
flipped_row _ count n = n

-- the column of the buffer that an image shows at a number along its columns' axis
abbrev pub buffer_column : Axis → IntRect → ImageFlip → ℕ → ℕ
buffer_column axis sample flip p =
    unsigned_abs sample.x + flipped_column flip (unsigned_abs sample.w) (part_of axis (unsigned_abs sample.w) p)

-- and the row
abbrev pub buffer_row : Axis → IntRect → ImageFlip → ℕ → ℕ
buffer_row axis sample flip p =
    unsigned_abs sample.y + flipped_row flip (unsigned_abs sample.h) (part_of axis (unsigned_abs sample.h) p)

-- the colour of a paint at a pixel
abbrev pub paint_colour : DrawItem → Paint → ℕ → ℕ → List ℕ
paint_colour item (Fill rgba) px py = rgba
paint_colour item (Image buffers index sample flip) px py =
    texel_of buffers.0 index
    (buffer_column (column_axis item) sample flip (if item.matrix.swap then py else px))
    (buffer_row (row_axis item) sample flip (if item.matrix.swap then px else py))

-- whether an item covers a pixel: its visible rectangle has the centre
abbrev pub covers : DrawItem → ℕ → ℕ → Bool
covers item px py = has_point item.visible (centre px) (centre py)

-- the colour of a pixel that an item covers, after it
unfoldable pub painted : DrawItem → ℕ → ℕ → List ℕ → List ℕ
painted item px py old = laid_colour item.blend item.opacity (paint_colour item item.paint px py) old

-- the colour of a pixel after an item
abbrev pub step : DrawItem → ℕ → ℕ → List ℕ → List ℕ
step item px py old = if covers item px py then painted item px py old else old

-- the colour of a pixel: from black, after each item in order
abbrev pub pixel : List DrawItem → ℕ → ℕ → List ℕ
pixel items px py = fold (λ old item. step item px py old) black items
