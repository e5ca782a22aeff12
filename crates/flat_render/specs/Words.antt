-- Words: colours as a display driver reads them.
use Rattle.std.specs.Prelude.{ℕ, ◌+◌, ◌*◌, List, slice_index}

-- a colour as a word of 32 bits: from the top, eight bits that are zero, then its red, its green and its blue
abbrev pub xrgb : List ℕ → ℕ
xrgb colour = 65536 * slice_index colour 0 + 256 * slice_index colour 1 + slice_index colour 2
