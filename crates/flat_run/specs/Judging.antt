-- What is written of a script with a report behind it.
use Rattle.std.specs.Prelude.{◌≡◌, ℕ, List, [], ◌∷◌, ◌++◌, Option, Some, None, codes}
use Rattle.std.specs.Fmt.{decimal}
use Rattle.flat_script.specs.declared.script.ScriptFault.{ScriptFault}
use Rattle.flat_places.specs.Kinds.{number}
use Rattle.flat_judge.specs.declared.cutting.JudgedText.{JudgedText}
use Rattle.flat_judge.specs.declared.cutting.JudgedText.TheVariants.{Said, Refused}
use Rattle.flat_judge.specs.declared.judging.ReportVerdict.TheVariants.{Legal, Wrong}
use Rattle.flat_judge.specs.Cuts.{IsSaid}

-- what is written of a script with a fault
abbrev pub fault_line : ScriptFault → List ℕ
fault_line fault =
    codes "script line " ++ decimal fault.line ++ codes " kind " ++ decimal (number fault.kind) ++ 10 ∷ []

-- what is written of the report of a run, with its entries and its finished frames
abbrev pub legal_line : ℕ → ℕ → List ℕ
legal_line entries finished =
    codes "legal entries " ++ decimal entries ++ codes " frames " ++ decimal finished ++ 10 ∷ []

-- what the report of the run has there, where it has such a line
abbrev pub want_line : Option (List ℕ) → List ℕ
want_line (Some line) = codes "want " ++ line ++ 10 ∷ []
want_line None = []

-- what is written of a report that is wrong in a line
abbrev pub wrong_lines : ℕ → Option (List ℕ) → List ℕ
wrong_lines line want = codes "wrong line " ++ decimal line ++ 10 ∷ want_line want

-- the status of what is said
abbrev pub judged_status : JudgedText → ℕ
judged_status (Said (Legal entries finished)) = 0
judged_status (Said (Wrong line want)) = 8
judged_status (Refused fault) = 3

-- its text
abbrev pub judged_text : JudgedText → List ℕ
judged_text (Said (Legal entries finished)) = legal_line entries finished
judged_text (Said (Wrong line want)) = wrong_lines line want
judged_text (Refused fault) = fault_line fault

-- These bytes were judged, and this status and this text say how.
pub record IsJudged (bytes : List ℕ) (status : ℕ) (text : List ℕ) : Type 0 where
  pub judged : JudgedText
  pub is : IsSaid bytes judged
  pub status_is : status ≡ judged_status judged
  pub text_is : text ≡ judged_text judged
