-- The report of a run that followed a text.
use Rattle.std.specs.Prelude.{◌≡◌, ℕ, List}
use Rattle.flat_places.specs.declared.script.Script.{Script}
use Rattle.flat_judge.specs.Verdicts.{IsLegal, IsRead, Run, report_of}

-- A text was written as the report of a run, which has so many entries and finished frames. If a text is the
-- report of any run, it is this one.
pub record IsReported (script : Script) (text report : List ℕ) (entries finished : ℕ) : Type 0 where
  pub legal : IsLegal script report entries finished
  pub only : IsRead script → (run : Run script) → text ≡ report_of script run → text ≡ report
