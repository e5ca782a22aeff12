-- A text cut into lines, and a line cut into words.
use Rattle.std.specs.Prelude.{ℕ, ◌==◌, Bool, List, [], ◌∷◌, length, if◌then◌else◌}
use Rattle.std.specs.List.{slice_split}

-- a line feed
abbrev pub is_feed : ℕ → Bool
is_feed b = b == 10

-- a space
abbrev pub is_space : ℕ → Bool
is_space b = b == 32

-- what stands before, between and behind the spaces
abbrev pub words_of : List ℕ → List (List ℕ)
words_of line = slice_split is_space line

-- the pieces, but for a last one that is empty
abbrev pub without_empty_end : List (List ℕ) → List (List ℕ)
without_empty_end [] = []
without_empty_end (x ∷ []) = if length x == 0 then [] else x ∷ []
without_empty_end (x ∷ y ∷ more) = x ∷ without_empty_end (y ∷ more)

-- what stands before and between the line feeds, and behind the last one where that isn't empty
abbrev pub lines_of : List ℕ → List (List ℕ)
lines_of text = without_empty_end (slice_split is_feed text)
