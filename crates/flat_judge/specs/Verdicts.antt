-- What a judge says of a text: that it is the report of a run of the script, or the line in which it is wrong.
use Rattle.std.specs.Prelude.{◌≡◌, ℕ, List, length, Option, Some}
use Rattle.flat_scene.specs.declared.frames.LostDisplay.{LostDisplay}
use Rattle.flat_scene.specs.declared.journal.Entry.{Entry}
use Rattle.flat_rules.specs.Legal.{frames}
use Rattle.flat_places.specs.declared.script.Script.{Script}
use Rattle.flat_script.specs.Grammar.{IsScript}
use Rattle.flat_report.specs.Runs.{IsRun}
use Rattle.flat_report.specs.Report.{report}
use Rattle.flat_judge.specs.declared.judging.ReportVerdict.{ReportVerdict}
use Rattle.flat_judge.specs.declared.judging.ReportVerdict.TheVariants.{Legal, Wrong}
use Rattle.flat_judge.specs.Parting.{line_of, parts_from}

-- A run of a script: a legal history that interleaves its actors, the displays that were lost, and the frames
-- that its probes saw.
pub record Run (script : Script) : Type 0 where
  pub history : List Entry
  pub lost : List LostDisplay
  pub seen : List ℕ
  pub is : IsRun script history lost seen

-- its report
abbrev pub report_of : (script : Script) → Run script → List ℕ
report_of script run = report script run.history run.lost run.seen

-- The script is read from some text, so that its names are words, and each names one.
abbrev pub IsRead : Script → Type 0
IsRead script = (bytes : List ℕ) × IsScript bytes script

-- No run of a script that is read from a text has this report.
abbrev pub NoRun : Script → List ℕ → Type 0
NoRun script text = IsRead script → (run : Run script) → text ≡ report_of script run → ⊥

-- A text is the report of a run, which has so many entries and finished frames.
pub record IsLegal (script : Script) (text : List ℕ) (entries finished : ℕ) : Type 0 where
  pub run : Run script
  pub is : text ≡ report_of script run
  pub entries_are : entries ≡ length run.history
  pub frames_are : finished ≡ frames run.history

-- A text parts in this line from the report of some run, which has this line there; none, where its report ends before.
pub record PartsAt (script : Script) (text : List ℕ) (line : ℕ) (want : Option (List ℕ)) : Type 0 where
  pub run : Run script
  pub parts : parts_from 1 text (report_of script run) ≡ Some line
  pub wants : want ≡ line_of line (report_of script run)

-- A text is no run's report, and parts in this line from that of some run, which has this line there.
pub record IsWrong (script : Script) (text : List ℕ) (line : ℕ) (want : Option (List ℕ)) : Type 0 where
  pub none : NoRun script text
  pub parts : PartsAt script text line want

-- What is said of a text is so: what is legal is the report of a run, and what is wrong is that of none.
abbrev pub IsVerdict : Script → List ℕ → ReportVerdict → Type 0
IsVerdict script text (Legal entries finished) = IsLegal script text entries finished
IsVerdict script text (Wrong line want) = IsWrong script text line want
