-- The report of the run that followed a text is the only one that the text can be.
use Rattle.std.proofs.Common.{◌≡◌, ℕ, true, List, ◌∙◌}
use Rattle.flat_scene.specs.declared.journal.Entry.{Entry}
use Rattle.flat_places.specs.declared.script.Script.{Script}
use Rattle.flat_report.specs.Runs.{IsRun}
use Rattle.flat_report.specs.Report.{is_loss, report}
use Rattle.flat_judge.specs.declared.following.ReplayProgress.{ReplayProgress}
use Rattle.flat_judge.specs.Following.{StoppedBefore}
use Rattle.flat_judge.specs.Verdicts.{IsRead, Run, report_of}
use Rattle.flat_judge.proofs.Ends.{only-whole}
use Rattle.flat_judge.proofs.Growth.{frames-grown}

-- the losses that were read may be those of the whole run
pub whole-loss : (script : Script) (text : List ℕ) (history : List Entry) (along : ReplayProgress) → StoppedBefore script text history along
    → is_loss history along.lost ≡ true
whole-loss script text history along stopped = stopped.stopped.losses.0 history (frames-grown stopped.stop history stopped.grown)

-- where its probes saw what those of each run with this report saw
pub reported-only : (script : Script) (text : List ℕ) (history : List Entry) (along : ReplayProgress) (seen : List ℕ) → StoppedBefore script text history along
    → IsRun script history along.lost seen → IsRead script
    → (run : Run script) → text ≡ report_of script run → (run.history ≡ history → run.seen ≡ seen) → text ≡ report script history along.lost seen
reported-only script text history along seen stopped own read run is sees =
    let only = only-whole script text history along stopped own.legal own.interleaves read run is in
    let entries = only.0 in
    let losses = only.1 in
    let saw = sees entries in
    is ∙ (λ i. report script (entries i) (losses i) (saw i))
