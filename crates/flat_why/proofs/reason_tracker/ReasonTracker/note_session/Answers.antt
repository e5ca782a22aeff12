use Rattle.std.proofs.Common.{◌≡◌, ◌++◌, List, length, ap, ◌∙◌, subst}
use Rattle.std.proofs.lemmas.Result.{on_ok_weaker}
use Rattle.flat_rules.specs.Legal.{Legal}
use Rattle.flat_scene.specs.declared.journal.Entry.{Entry}
use Rattle.flat_scene.specs.declared.setup.Setup.{Setup}
use Rattle.flat_scene.specs.History.{◌▹◌, presents}
use Rattle.flat_why.specs.Reasons.{closing_by, dues_by, used_by}
use Rattle.flat_why.specs.Noted.{with_use}
use Rattle.flat_why.specs.declared.reason_tracker.ReasonTracker.{ReasonTracker}
use Rattle.flat_why.proofs.SessionEntries.{length-closings, length-uses, session-noted}
use Rattle.flat_why.proofs.reason_tracker.ReasonTracker.note_session.Goals as goal

pub returns : goal.returns
returns c =
    let script = c.args.script.now in
    let history = c.args.board.now.history in
    let entry = c.args.entry.now in
    let old : List Entry = c.requires.before.0 in
    let is : history ≡ (old ▹ entry) = c.requires.before.1 in
    let legal : Legal script.setup (old ▹ entry) = (let L : List Entry → Type 0 = λ h. Legal script.setup h in let S : Setup
    → Type 0 = λ st. Legal st history in subst L is (subst S c.requires.of c.journal-journal.ensures.legal)) in
    let first = c.note_closing.ensures.rest in
    let second = c.note_use.ensures.rest in
    let third = c.note_present.ensures.rest in
    let closings = ap (λ (w : ReasonTracker). w.closings.items) third ∙ ap (λ (w : ReasonTracker). w.closings.items) second ∙ c.note_closing.ensures.closings in
    let uses = ap (λ (w : ReasonTracker). w.last_uses.items) third ∙ c.note_use.ensures.uses
    ∙ ap (λ (w : ReasonTracker). with_use (used_by entry.kind entry.reply) (length (presents c.args.s history)) w.last_uses.items) first in
    on_ok_weaker c.note_present.result
    (λ dues. session-noted script old history entry c.args.s c.args.self.now c.note_present.new.self is legal.1 c.requires.by c.requires.before.2 closings uses
    (dues ∙ ap (λ (w : ReasonTracker). w.dues.items ++ dues_by entry.actor entry.kind entry.reply)
    (second ∙ ap (λ (w : ReasonTracker). record w { last_uses = c.note_use.new.self.last_uses }) first))
    (ap (λ (w : ReasonTracker). w.standings) third ∙ ap (λ (w : ReasonTracker). w.standings) second ∙ ap (λ (w : ReasonTracker). w.standings) first)
    (ap (λ (w : ReasonTracker). w.waits) third ∙ ap (λ (w : ReasonTracker). w.waits) second ∙ ap (λ (w : ReasonTracker). w.waits) first)
    (ap (λ (w : ReasonTracker). w.frames) third ∙ ap (λ (w : ReasonTracker). w.frames) second ∙ ap (λ (w : ReasonTracker). w.frames) first)
    (ap (λ (w : ReasonTracker). w.page) third ∙ ap (λ (w : ReasonTracker). w.page) second ∙ ap (λ (w : ReasonTracker). w.page) first)
    (ap length closings ∙ length-closings c.args.s (closing_by entry.line entry.reply) c.args.self.now.closings.items)
    (ap length uses ∙ length-uses (used_by entry.kind entry.reply) (length (presents c.args.s history)) c.args.self.now.last_uses.items))
    c.note_present.ensures.dues
