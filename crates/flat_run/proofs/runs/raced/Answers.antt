use Rattle.std.proofs.Common.{refl}
use Rattle.flat_words.specs.declared.service_word.ServiceWord.TheVariants.{Race}
use Rattle.flat_report.specs.Probes.{frames_seen}
use Rattle.flat_run.specs.Answering.{ran_of}
use Rattle.flat_run.proofs.Reporting.{if_ok, has_run, have_had}
use Rattle.flat_run.proofs.runs.raced.Goals as goal

pub text_of-requires-clause-keeping : goal.text_of-requires-clause-keeping
text_of-requires-clause-keeping g c κs within = c.in_ok-played.ensures.run.keeping

pub text_of-requires-clause-played : goal.text_of-requires-clause-played
text_of-requires-clause-played g c κs within = c.in_ok-played.ensures.run.played

pub text_of-requires-clause-probes : goal.text_of-requires-clause-probes
text_of-requires-clause-probes g c κs within = c.in_ok-played.ensures.run.probes

pub returns-clause-told : goal.returns-clause-told
returns-clause-told g c = λ bytes read.
    let reading = c.args.reading.now in
    let board = c.in_ok-played.played.board in
    let lost = c.in_ok-played.played.set.lost in
    let run = c.in_ok-played.ensures.run in
    let playable = c.requires.runnable.playable in
    let probes = c.in_ok-played.played.probes.items in
    let seeing = c.frames_are_seen.ensures reading.script board.history probes run.probes in
    let ran = has_run reading board _ _ playable run.played _ _ Race lost (frames_seen probes) _ _ (λ no_race. absurd (no_race refl))
    (λ no_race. absurd (no_race refl)) run.seen c.families_are_alone.ensures c.due_presents_are_taken.ensures
    c.journal-journal.ensures.legal tt tt seeing in
    let had = have_had reading board _ _ playable run.played _ _ lost _ _ run.seen in
    if_ok _ _ c.text_of.result (λ written is. (
      record { ran = ran_of reading board.history lost (frames_seen probes); read = read; has_run = ran; is = is },
      had,
    )) c.text_of.ensures
