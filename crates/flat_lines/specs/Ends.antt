-- The first line of a report and its last one.
use Rattle.std.specs.Prelude.{ℕ, List, [], ◌∷◌, codes}
use Rattle.flat_page.specs.Words.{number}
use Rattle.flat_places.specs.Forms.{Word}

-- the first line, of a script of that version
abbrev pub title_line : ℕ → List Word
title_line version = codes "report" ∷ codes "flatland" ∷ number version ∷ []

-- the last line, after so many entries and finished frames
abbrev pub end_line : ℕ → ℕ → List Word
end_line entries finished =
    codes "report" ∷ codes "ends" ∷ codes "entries" ∷ number entries ∷ codes "frames" ∷ number finished ∷ []
