-- The words that a script of a version may use: all of the grammar's but those that the version lacks.
-- A word that it lacks is
-- as if the grammar didn't have it.
use Rattle.std.specs.Prelude.{ℕ, nat_lt, Bool, not, ◌&&◌, List, [], ◌∷◌, codes}
use Rattle.std.specs.List.{list_any}
use Rattle.std.specs.Str.{bytes_eq}
use Rattle.flat_base.specs.declared.limits.TheConstants.{RATIO_SINCE, UNSQUASHABLE_SINCE}

-- the words that came with the second version
abbrev pub words_since_second : List (List ℕ)
words_since_second = codes "ReplaceChildren" ∷ codes "unsquashable" ∷ []

-- the words that came with the third version
abbrev pub words_since_third : List (List ℕ)
words_since_third = codes "dpr" ∷ []

-- scripts of that version may use the word
abbrev pub knows : ℕ → List ℕ → Bool
knows version w =
    not (list_any (bytes_eq w) words_since_third && nat_lt version RATIO_SINCE)
    && not (list_any (bytes_eq w) words_since_second && nat_lt version UNSQUASHABLE_SINCE)
