-- A text that is a script with a report behind it.
use Rattle.std.specs.Prelude.{◌≡◌, ◌⊎◌, ℕ, Bool, false, true, List, [], ◌∷◌, ◌++◌, codes}
use Rattle.std.specs.List.{list_any, before_first}
use Rattle.std.specs.Str.{bytes_eq}
use Rattle.flat_text.specs.Pieces.{is_feed, lines_of}
use Rattle.flat_places.specs.declared.script.Script.{Script}
use Rattle.flat_script.specs.Grammar.{IsScript, IsFault}
use Rattle.flat_judge.specs.declared.cutting.JudgedText.{JudgedText}
use Rattle.flat_judge.specs.declared.cutting.JudgedText.TheVariants.{Said, Refused}
use Rattle.flat_judge.specs.Verdicts.{IsVerdict}

-- a line that begins a report
abbrev pub is_title : List ℕ → Bool
is_title line = list_any (bytes_eq line)
    (codes "report flatland 1" ∷ codes "report flatland 2" ∷ codes "report flatland 3" ∷ [])

-- A text is cut in two between its lines: no line of the first part begins a report, and the second one, if
-- it has any bytes, begins with a line that does.
pub record IsCut (text first rest : List ℕ) : Type 0 where
  pub whole : text ≡ first ++ rest
  pub lines : lines_of text ≡ lines_of first ++ lines_of rest
  pub none : list_any is_title (lines_of first) ≡ false
  pub titled : (rest ≡ []) ⊎ (is_title (before_first is_feed rest) ≡ true)

-- What is said of a text that is cut so: its first part is a script, of which the rest is judged; or it has this fault.
abbrev pub SaysSo : List ℕ → List ℕ → JudgedText → Type 0
SaysSo first rest (Said verdict) = (script : Script) × IsScript first script × IsVerdict script rest verdict
SaysSo first rest (Refused fault) = IsFault first fault

pub record IsSaid (text : List ℕ) (judged : JudgedText) : Type 0 where
  pub first : List ℕ
  pub rest : List ℕ
  pub cut : IsCut text first rest
  pub is : SaysSo first rest judged
