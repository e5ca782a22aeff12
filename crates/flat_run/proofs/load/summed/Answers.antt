use Rattle.std.proofs.Common.{◌≡◌, List, ap, sym, ◌∙◌}
use Rattle.flat_base.specs.Last.{last_item}
use Rattle.flat_scene.specs.declared.journal.Entry.{Entry}
use Rattle.flat_report.specs.Probes.{frames_seen}
use Rattle.flat_report.specs.Report.{finished}
use Rattle.flat_stress.specs.Load.{load_text}
use Rattle.flat_stress.specs.Summary.{summary_line}
use Rattle.flat_run.specs.Totals.{totals_of}
use Rattle.flat_words.specs.declared.service_word.ServiceWord.TheVariants.{Stress}
use Rattle.flat_run.specs.Answering.{ran_of}
use Rattle.flat_run.specs.Forms.{plain, read_as}
use Rattle.flat_run.proofs.Reporting.{if_ok, has_run, have_had, load_asked}
use Rattle.flat_run.proofs.load.summed.Goals as goal

pub totals_of-totals-requires : goal.totals_of-totals-requires
totals_of-totals-requires g c = c.last.ensures c.args.script.now _ c.in_ok-played.ensures.run.run.played.keeps
    ∙ ap (λ (h : List Entry). last_item (finished c.args.script.now.setup h)) (sym c.journal-journal.ensures.entries)

pub returns-clause-told : goal.returns-clause-told
returns-clause-told g c =
    let script = c.args.script.now in
    let board = c.in_ok-played.played.board in
    let lost = c.in_ok-played.played.set.lost in
    let playable = c.scripts_are_playable.ensures.playable (load_text c.args.frames) script c.requires.read in
    let run = c.in_ok-played.ensures.run in
    let journal = c.journal-journal.ensures in
    let asked = load_asked (plain script) board _ _ playable run.run.played c.args.frames journal.legal
    (c.loads_have_their_frames.ensures c.args.frames script c.requires.first c.requires.last c.requires.read) in
    let probes = c.in_ok-played.played.probes.items in
    let seeing = c.frames_are_seen.ensures script board.history probes run.run.probes in
    let ran = has_run (plain script) board _ _ playable run.run.played _ _ (Stress c.args.frames) lost (frames_seen probes) _ _
    (λ no_race. run.written) (λ no_race. run.in_turn) run.run.seen c.families_are_alone.ensures
    c.due_presents_are_taken.ensures journal.legal asked tt seeing in
    let had = have_had (plain script) board _ _ playable run.run.played _ _ lost _ _ run.run.seen in
    if_ok (λ text. text.items ≡ summary_line c.totals_of-totals.result) _ c.summary.result
    (λ text is. (
      record {
        ran = ran_of (plain script) board.history lost (frames_seen probes);
        read = ap (read_as plain) c.requires.read;
        has_run = ran;
        is = is ∙ ap summary_line c.totals_of-totals.ensures ∙ ap (λ (h : List Entry). summary_line (totals_of c.args.frames script.setup h)) journal.entries;
      },
      had,
    )) c.summary.ensures
