use Rattle.flat_report.specs.Probes.{frames_seen}
use Rattle.flat_words.specs.declared.service_word.ServiceWord.TheVariants.{Why}
use Rattle.flat_run.specs.Answering.{ran_of}
use Rattle.flat_run.proofs.Reporting.{if_ok, has_run, have_had}
use Rattle.std.proofs.Common.{refl, ap, ◌∙◌}
use Rattle.flat_run.proofs.why.why_told.Goals as goal

pub returns-clause-told : goal.returns-clause-told
returns-clause-told g c = λ bytes read.
    let reading = c.args.reading.now in
    let board = c.in_ok-played.played.board in
    let lost = c.in_ok-played.played.set.lost in
    let run = c.in_ok-played.ensures.run in
    let playable = c.requires.runnable.playable in
    let probes = c.in_ok-played.played.probes.items in
    let seeing = c.frames_are_seen.ensures reading.script board.history probes run.run.probes in
    let ran = has_run reading board _ _ playable run.run.played _ _ Why lost (frames_seen probes) _ _ (λ _. run.written)
    (λ _. run.in_turn) run.run.seen c.families_are_alone.ensures c.due_presents_are_taken.ensures
    c.journal-journal.ensures.legal tt tt seeing in
    let had = have_had reading board _ _ playable run.run.played _ _ lost _ _ run.run.seen in
    if_ok _ _ c.one-pieces.result (λ written is. (
      record
          { ran = ran_of reading board.history lost (frames_seen probes); read = read; has_run = ran; is = is ∙ c.in_ok-played.ensures.text },
      had,
    ))
    c.one-pieces.ensures
