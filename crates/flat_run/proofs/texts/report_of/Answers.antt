use Rattle.std.proofs.Common.{◌≡◌, ℕ, List, IfOk, subst}
use Rattle.flat_run.specs.Forms.{plain}
use Rattle.flat_run.proofs.Reporting.{handed_whole}
use Rattle.flat_run.proofs.texts.report_of.Goals as goal

pub returns : goal.returns
returns g c =
    let script = c.args.script.now in
    let played = c.args.played in
    let journal = c.journal.result.now in
    let text = handed_whole (plain script) played.board played.kept played.answers c.requires.playable c.requires.played c.handed_is_report.ensures
    c.into_texts-frames.result c.into_texts-frames.ensures played.probes.items c.as_slice-answered.result.now c.requires.probes
    c.as_slice-answered.ensures.value played.set.lost c.lost-lost.result.now journal.entries.items journal.posts.items
    c.journal.ensures.entries c.journal.ensures.posts c.lost-lost.ensures in
    let P : List ℕ → Type 0 = λ bytes. IfOk c.print_report_on-text.result (λ written. written ≡ bytes) in
    subst P text c.print_report_on-text.ensures
