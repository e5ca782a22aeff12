-- Extra lines of a text, and the rest of it.
use Rattle.std.specs.Prelude.{ℕ, ◌+◌, nat_le, Bool, false, not, ◌&&◌, ◌||◌, cond, List, [], ◌∷◌, ◌++◌, length}
use Rattle.std.specs.Prelude.{slice_get, codes}
use Rattle.std.specs.List.{list_all, slice_split, join_with_byte}
use Rattle.std.specs.Option.{option_map_or}
use Rattle.std.specs.Str.{bytes_eq}
use Rattle.flat_base.specs.declared.limits.TheConstants.{LINE_BYTES_MAX}
use Rattle.flat_text.specs.Pieces.{is_feed, words_of}
use Rattle.flat_script.specs.Grammar.{is_plain, is_skipped}
use Rattle.flat_extra.specs.declared.split.ExtraLine.{ExtraLine}
use Rattle.flat_extra.specs.declared.split.ExtraSet.{ExtraSet}
use Rattle.flat_extra.specs.declared.split.ExtraSet.TheVariants.{Focus, Pointer}

-- whether a word is one of a set's calls
abbrev pub is_call : ExtraSet → List ℕ → Bool
is_call Focus word = bytes_eq word (codes "Focus")
is_call Pointer word = bytes_eq word (codes "Down") || bytes_eq word (codes "Move") || bytes_eq word (codes "Up")

-- whether the second word is
abbrev pub has_call : ExtraSet → List (List ℕ) → Bool
has_call set words = option_map_or (is_call set) (slice_get words 1) false

-- whether a line behind `run` is extra: short enough, plain, not skipped, and its second word is a call of the set
abbrev pub is_extra : ExtraSet → List ℕ → Bool
is_extra set line = nat_le (length line) LINE_BYTES_MAX
    && (list_all is_plain line && (not (is_skipped line) && has_call set (words_of line)))

abbrev pub is_run : List ℕ → Bool
is_run line = bytes_eq line (codes "run")

-- ---- the rest

-- what stands in the rest in place of a line
abbrev pub rest_line : Bool → List ℕ → List ℕ
rest_line extra line = cond extra (codes "#") line

-- the lines of the rest, where this says whether a line `run` stands before them
abbrev pub rest_lines : ExtraSet → Bool → List (List ℕ) → List (List ℕ)
rest_lines set begun [] = []
rest_lines set begun (line ∷ lines) = rest_line (begun && is_extra set line) line
    ∷ rest_lines set (begun || is_run line) lines

-- the text with `#` in place of each extra line
abbrev pub rest_of : ExtraSet → List ℕ → List ℕ
rest_of set text = join_with_byte 10 (rest_lines set false (slice_split is_feed text))

-- ---- the extra lines

abbrev pub if_extra : Bool → ℕ → List ℕ → List ExtraLine
if_extra extra n line = cond extra (record { number = n; text = line } ∷ []) []

-- those of lines that are numbered from n on
abbrev pub extra_from : ExtraSet → Bool → ℕ → List (List ℕ) → List ExtraLine
extra_from set begun n [] = []
extra_from set begun n (line ∷ lines) = if_extra (begun && is_extra set line) n line
    ++ extra_from set (begun || is_run line) (n + 1) lines

-- the extra lines of a text
abbrev pub extra_of : ExtraSet → List ℕ → List ExtraLine
extra_of set text = extra_from set false 1 (slice_split is_feed text)
