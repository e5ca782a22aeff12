-- The words of the load's lines.
use Rattle.std.specs.Prelude.{ℕ, ◌+◌, ◌-◌, List, [], ◌∷◌, ◌++◌, codes}
use Rattle.std.specs.List.{range_with_len}
use Rattle.std.specs.Fmt.{decimal}
use Rattle.flat_page.specs.Words.{line_of}
use Rattle.flat_places.specs.Forms.{Word}

-- the name of a session
abbrev pub session : ℕ → Word
session n = codes "S" ++ decimal n

-- the name of the pair whose view is that session's
abbrev pub pair : ℕ → Word
pair n = codes "t" ++ decimal n

-- a line, with its line feed
abbrev pub line_text : List Word → List ℕ
line_text words = line_of words ++ 10 ∷ []

-- the numbers from the first one on and below the second one
abbrev pub between : ℕ → ℕ → List ℕ
between first end = range_with_len first (end - first)

-- the numbers from the first one to the last one
abbrev pub from_to : ℕ → ℕ → List ℕ
from_to first last = between first (last + 1)
