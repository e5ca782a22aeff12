-- Colours: what buffers hold, and how a colour is laid on another.
use Rattle.std.specs.Prelude.{ℕ, ◌+◌, ◌-◌, ◌*◌, ◌/◌, ◌%◌, List, [], ◌∷◌, slice_index}
use Rattle.flat_base.specs.declared.limits.TheConstants.{COLOUR_MAX, ONE}
use Rattle.flat_scene.specs.declared.calls.BlendMode.{BlendMode}
use Rattle.flat_scene.specs.declared.calls.BlendMode.TheVariants.{Src, SrcOver}

-- No buffer has any content, so a buffer's colours are a pattern that tells buffers and places apart:
-- red by the column, green by the row.
abbrev pub red_at : ℕ → ℕ → ℕ
red_at i x = (64 * x + 16 * i) % 256

abbrev pub green_at : ℕ → ℕ
green_at y = 64 * y % 256

abbrev pub blue_at : ℕ → ℕ
blue_at b = 32 * b % 256

-- the colour at a place of a buffer
abbrev pub texel_of : ℕ → ℕ → ℕ → ℕ → List ℕ
texel_of b i x y = red_at i x ∷ green_at y ∷ blue_at b ∷ 255 ∷ []

-- a channel at an opacity
abbrev pub replaced : ℕ → ℕ → ℕ
replaced opacity s = s * opacity / ONE

-- a channel over the old one, weighted so
abbrev pub covered : ℕ → ℕ → ℕ → ℕ
covered weight s old = (s * weight + old * (COLOUR_MAX - weight)) / COLOUR_MAX

-- a channel of a colour with that alpha, laid on the old one
abbrev pub laid : BlendMode → ℕ → ℕ → ℕ → ℕ → ℕ
laid Src opacity alpha s old = replaced opacity s
laid SrcOver opacity alpha s old = covered (alpha * opacity / ONE) s old

-- a colour with its alpha, laid on an old colour, channel by channel
abbrev pub laid_colour : BlendMode → ℕ → List ℕ → List ℕ → List ℕ
laid_colour blend opacity rgba old =
    laid blend opacity (slice_index rgba 3) (slice_index rgba 0) (slice_index old 0)
    ∷ laid blend opacity (slice_index rgba 3) (slice_index rgba 1) (slice_index old 1)
    ∷ laid blend opacity (slice_index rgba 3) (slice_index rgba 2) (slice_index old 2) ∷ []

-- the colour of a display on which nothing is drawn
abbrev pub black : List ℕ
black = 0 ∷ 0 ∷ 0 ∷ []
