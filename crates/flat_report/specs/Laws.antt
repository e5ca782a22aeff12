-- What a report says of the run: all of it.
use Rattle.std.specs.Prelude.{◌≡◌, ℕ, true, map, List}
use Rattle.flat_scene.specs.declared.frames.LostDisplay.{LostDisplay}
use Rattle.flat_scene.specs.declared.journal.Entry.{Entry}
use Rattle.flat_scene.specs.declared.journal.PostedEvent.{PostedEvent}
use Rattle.flat_scene.specs.declared.script.ScriptLine.{ScriptLine}
use Rattle.flat_scene.specs.declared.setup.Setup.{Setup}
use Rattle.flat_scene.specs.Journals.{history_of}
use Rattle.flat_scene.specs.Interleave.{Interleaves, IsWritten}
use Rattle.flat_rules.specs.Legal.{Legal}
use Rattle.flat_rules.specs.AllPosts.{posts}
use Rattle.flat_places.specs.declared.script.Script.{Script}
use Rattle.flat_forms.specs.Head.{with_version}
use Rattle.flat_script.specs.Grammar.{IsScript}
use Rattle.flat_report.specs.declared.probes.ProbeAnswer.{ProbeAnswer}
use Rattle.flat_report.specs.declared.report.HitAnswer.{HitAnswer}
use Rattle.flat_report.specs.FrameTexts.{frame_text}
use Rattle.flat_report.specs.Handed.{answers_of, handed_report}
use Rattle.flat_report.specs.Probes.{ProbesAnswered, ProbesAsk, frames_seen}
use Rattle.flat_report.specs.Report.{report, finished, is_seeing}
use Rattle.flat_report.specs.Runs.{IsRun}
use Rattle.flat_report.specs.Due.{TakesDue}

-- no rule asks for a script's version, so the script has the same runs if its version is another
abbrev pub VersionsHaveOneRun : Type 0
VersionsHaveOneRun =
    (script : Script) (version : ℕ) (history : List Entry) (lost : List LostDisplay) (seen : List ℕ)
    → IsRun script history lost seen
    → IsRun (with_version script version) history lost seen

-- two runs of a script that is read from a text, with the same report, are one
abbrev pub ReportsDetermineHistories : Type 0
ReportsDetermineHistories = (bytes : List ℕ) (script : Script) → IsScript bytes script
    → (history history' : List Entry) (lost lost' : List LostDisplay) (seen seen' : List ℕ)
    → IsRun script history lost seen
    → IsRun script history' lost' seen'
    → report script history lost seen ≡ report script history' lost' seen' → (history ≡ history') × (lost ≡ lost')
    × (seen ≡ seen')

-- the text of what is handed in is the report, where it is what the rules say of the history: the posts, the
-- texts of the finished frames and the answers to points; and where the probes' lines ask, and were answered
-- by its frames
abbrev pub HandedIsReport : Type 0
HandedIsReport = (script : Script) (entries : List Entry) (sent : List PostedEvent) (texts : List (List ℕ))
    (lost : List LostDisplay)
    (answers : List HitAnswer) (probes : List (List ProbeAnswer))
    → ProbesAnswered script (history_of entries) probes → ProbesAsk script
    → sent ≡ posts script.setup (history_of entries)
    → texts ≡ map (frame_text script) (finished script.setup (history_of entries))
    → answers ≡ answers_of script.setup (history_of entries)
    → handed_report script entries sent texts lost answers probes
    ≡ report script (history_of entries) lost (frames_seen probes)

-- the frames by which probes are answered are such as probes may have seen
abbrev pub FramesAreSeen : Type 0
FramesAreSeen = (script : Script) (history : List Entry) (probes : List (List ProbeAnswer))
    → ProbesAnswered script history probes → is_seeing script history (frames_seen probes) ≡ true

-- two legal histories in written order that interleave the same lines are one
abbrev pub WrittenHistoriesAreOne : Type 0
WrittenHistoriesAreOne =
    (setup : Setup) (count : ℕ) (lines : List ScriptLine) (history history' : List Entry) → Legal setup history
    → Legal setup history'
    → Interleaves setup count lines history → Interleaves setup count lines history' → IsWritten setup history
    → IsWritten setup history' → history ≡ history'

-- in each history frames take what is due
abbrev pub DuePresentsAreTaken : Type 0
DuePresentsAreTaken = (setup : Setup) (history : List Entry) → TakesDue setup history
