-- The script of a text with extra lines is that of its rest.
use Rattle.std.specs.Prelude.{◌≡◌, ℕ, List, Ok}
use Rattle.flat_script.specs.Grammar.{text_read}
use Rattle.flat_extra.specs.declared.split.ExtraSet.TheVariants.{Focus, Pointer}
use Rattle.flat_extra.specs.declared.whole.FocusScript.{FocusScript}
use Rattle.flat_extra.specs.declared.whole.PointerScript.{PointerScript}
use Rattle.flat_extra.specs.Extra.{rest_of}
use Rattle.flat_extra.specs.Whole.{focus_read, pointers_read}

abbrev pub FocusRestIsRead : Type 0
FocusRestIsRead = (bytes : List ℕ) (read : FocusScript) → focus_read bytes ≡ Ok read
    → text_read (rest_of Focus bytes) ≡ Ok read.script

abbrev pub PointerRestIsRead : Type 0
PointerRestIsRead = (bytes : List ℕ) (read : PointerScript) → pointers_read bytes ≡ Ok read
    → text_read (rest_of Pointer bytes) ≡ Ok read.script
