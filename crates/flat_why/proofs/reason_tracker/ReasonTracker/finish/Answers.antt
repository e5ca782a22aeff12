use Rattle.std.proofs.Common.{◌≡◌, true, List, Some, map, refl, ap, sym, ◌∙◌, subst}
use Rattle.std.specs.Option.{option_copied}
use Rattle.flat_base.specs.Last.{last_item}
use Rattle.flat_page.specs.Pages.{WritesLines}
use Rattle.flat_report.specs.Report.{finished}
use Rattle.flat_rules.specs.Legal.{Legal}
use Rattle.flat_scene.specs.declared.journal.Entry.{Entry}
use Rattle.flat_scene.specs.declared.setup.Setup.{Setup}
use Rattle.flat_scene.specs.Frames.{sessions_to}
use Rattle.flat_scene.specs.History.{◌▹◌}
use Rattle.flat_scene.specs.Heads.{owners_declared}
use Rattle.flat_base.proofs.lemmas.Tests.{and-left, and-right}
use Rattle.flat_why.specs.declared.reasons.AttachPoint.{AttachPoint}
use Rattle.flat_why.specs.declared.reasons.PendingPresent.{PendingPresent}
use Rattle.flat_why.specs.declared.reason_tracker.ReasonTracker.{ReasonTracker}
use Rattle.flat_why.specs.Noted.{session_line}
use Rattle.flat_why.specs.Text.{wait_line}
use Rattle.flat_why.proofs.FrameEntries.{finish-noted}
use Rattle.flat_why.proofs.reason_tracker.ReasonTracker.finish.Goals as goal

pub returns : goal.returns
returns c =
    let script = c.args.script.now in
    let history = c.args.board.now.history in
    let was : ReasonTracker = c.args.self.now in
    let shown = c.args.shown.now in
    let frame = c.in-Some.frame.now in
    let old : List Entry = c.requires.before.0 in
    let entry : Entry = c.requires.before.1 in
    let is : history ≡ (old ▹ entry) = c.requires.before.3 in
    let legal : Legal script.setup (old ▹ entry) = (let L : List Entry → Type 0 = λ h. Legal script.setup h in let S : Setup
    → Type 0 = λ st. Legal st history in subst L is (subst S c.requires.of c.journal-journal.ensures.legal)) in
    let last : Some frame ≡ last_item (finished script.setup history) = sym (ap (λ o. option_copied o) c.in-Some.is) ∙ c.requires.frame in
    let mid = c.push_sessions.new.page in
    let owners : owners_declared script.setup ≡ true = and-right _ _ (and-left _ _ c.requires.setup) in
    let P : List AttachPoint → Type 0 = λ xs. WritesLines (map (session_line script c.args.scale shown frame xs) (sessions_to script.setup.sessions)) was.page
    mid in
    let Q : List PendingPresent → Type 0 = λ xs. WritesLines (map (wait_line script frame.frame.0) xs) mid c.push_waits.new.page in
    finish-noted script old history entry c.args.scale shown frame was (record was { page = c.push_waits.new.page; frames = frame.frame.0 }) mid is
    c.requires.before.2 legal.1 owners last c.requires.shown c.requires.ratio c.requires.before.4
    (subst P c.as_slice.ensures.value c.in_ok-push_sessions.ensures) (subst Q c.as_slice-2.ensures.value c.in_ok-push_waits.ensures) refl refl refl refl refl
    refl
