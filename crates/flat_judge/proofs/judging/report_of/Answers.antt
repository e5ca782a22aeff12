use Rattle.std.proofs.Common.{rules, ◌≡◌, List, length, sym, ap, ◌∙◌}
use Rattle.flat_scene.specs.declared.frames.LostDisplay.{LostDisplay}
use Rattle.flat_rules.specs.Legal.{frames}
use Rattle.flat_report.specs.Handed.{handed_report}
use Rattle.flat_judge.proofs.Reported.{reported-only, whole-loss}
use Rattle.flat_judge.proofs.WholeRuns.{entries-many, handed, run}
use Rattle.flat_judge.proofs.judging.report_of.Goals as goal

pub returns : goal.returns
returns c =
    let script = c.args.script.now in
    let guided = c.args.followed.run in
    let along = c.args.followed.along in
    let whole = c.requires.whole in
    let history = guided.screen.board.history in
    let many : guided.screen.store.last.frame.0 ≡ frames history = whole.stands.screen.frames.stored.ends.number in
    let lost : List LostDisplay = along.lost in
    let journal = c.journal-2.result.now in
    let many_entries : c.len-entries.result ≡ length c.journal.result.now.entries.items = search rules in
    let its = run script c.requires.playable guided whole c.frames_are_seen.ensures c.journal.ensures.legal lost
    (whole-loss script c.args.text.now history along c.requires.stopped) c.requires.stopped.stopped.losses.1 in
    let report_is = c.in_ok-report.ensures
    ∙ ap (λ (ls : List LostDisplay). handed_report script journal.entries.items journal.posts.items c.into_texts-texts.result.texts.items ls
    guided.screen.store.answers
    c.as_slice-2.result.now) c.as_slice.ensures
    ∙ handed script c.requires.playable guided whole c.handed_is_report.ensures c.into_texts-texts.result c.into_texts-texts.ensures lost journal.entries.items
    journal.posts.items c.as_slice-2.result.now c.as_slice-2.ensures.value c.journal-2.ensures.entries c.journal-2.ensures.posts in
    record {
      legal = record {
        run = its;
        is = report_is;
        entries_are = many_entries ∙ entries-many c.journal.result.now.entries.items history c.journal.ensures.entries;
        frames_are = many;
      };
      only = λ read other is. reported-only script c.args.text.now history along its.seen c.requires.stopped its.is read other is
          (c.requires.sees read other is) ∙ sym report_is;
    }
