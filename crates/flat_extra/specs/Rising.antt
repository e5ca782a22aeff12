-- The pointers' lines of a text, in order.
use Rattle.std.specs.Prelude.{◌≡◌, true, ℕ, List, Ok}
use Rattle.flat_pointer.specs.Lines.{rise_after}
use Rattle.flat_extra.specs.declared.whole.PointerScript.{PointerScript}
use Rattle.flat_extra.specs.Whole.{pointers_read}

-- where a text is read, each of them comes after the one before it
abbrev pub PointersRise : Type 0
PointersRise = (bytes : List ℕ) (read : PointerScript) → pointers_read bytes ≡ Ok read → rise_after 0 read.lines ≡ true
