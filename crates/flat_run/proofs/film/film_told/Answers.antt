use Rattle.std.proofs.Common.{[], refl, ap, ◌∙◌}
use Rattle.flat_play.proofs.lemmas.Begun.{none-begun}
use Rattle.flat_play.proofs.lemmas.Places.{setup_is}
use Rattle.flat_play.proofs.lemmas.Seen.{kept_none}
use Rattle.flat_report.specs.Probes.{frames_seen}
use Rattle.flat_report.specs.Report.{finished}
use Rattle.flat_words.specs.declared.service_word.ServiceWord.TheVariants.{Film}
use Rattle.flat_run.specs.Answering.{ran_of}
use Rattle.flat_run.proofs.Reporting.{if_ok, has_run, have_had}
use Rattle.flat_run.proofs.Written.{wide, high}
use Rattle.flat_run.proofs.film.film_told.Goals as goal

pub new-requires-clause-width : goal.new-requires-clause-width
new-requires-clause-width g c κs within = wide c.args.reading.now.script.setup (setup_is c.args.reading.now.script c.requires.runnable.playable)

pub new-requires-clause-height : goal.new-requires-clause-height
new-requires-clause-height g c κs within = high c.args.reading.now.script.setup (setup_is c.args.reading.now.script c.requires.runnable.playable)

pub new-requires-clause-size : goal.new-requires-clause-size
new-requires-clause-size g c κs within = c.requires.fits.0

pub returns-in_err-empty-clause-kept : goal.returns-in_err-empty-clause-kept
returns-in_err-empty-clause-kept g c = kept_none _ _ _ _ _ (none-begun c.args.reading.now.script)

pub returns-clause-told : goal.returns-clause-told
returns-clause-told g c = λ bytes read.
    let reading = c.args.reading.now in
    let board = c.in_ok-played.played.board in
    let lost = c.in_ok-played.played.set.lost in
    let run = c.in_ok-played.ensures.run in
    let playable = c.requires.runnable.playable in
    let probes = c.in_ok-played.played.probes.items in
    let setup = reading.script.setup in
    let seeing = c.frames_are_seen.ensures reading.script board.history probes run.run.probes in
    let ran = has_run reading board _ _ playable run.run.played _ _ Film lost (frames_seen probes) _ _ (λ _. run.written)
    (λ _. run.in_turn) run.run.seen c.families_are_alone.ensures c.due_presents_are_taken.ensures
    c.journal-journal.ensures.legal tt c.requires.fits seeing in
    let had = have_had reading board _ _ playable run.run.played _ _ lost _ _ run.run.seen in
    if_ok _ _ c.into_text.result (λ written is. (
      record { ran = ran_of reading board.history lost (frames_seen probes); read = read; has_run = ran; is = is },
      had,
    )) (c.into_text.ensures setup (finished setup board.history) c.in_ok-played.ensures.film)
