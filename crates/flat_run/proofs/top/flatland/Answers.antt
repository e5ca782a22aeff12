use Rattle.std.proofs.Common.{◌≡◌, ◌∙◌, ap, sym}
use Rattle.flat_words.specs.declared.service_word.ServiceWord.TheVariants.{Race}
use Rattle.flat_run.specs.Serving.{SinkState, SourceState}
use Rattle.flat_run.proofs.lemmas.Serving.{serves_by, serves_from, untouched_by, unwritten_by}
use Rattle.flat_run.proofs.top.flatland.Goals as goal

pub returns-in-None-clause-serves : goal.returns-in-None-clause-serves
returns-in-None-clause-serves g c =
    let race = c.serve.ensures.race c.in-None.is in
    let same = c.serve.ensures.nothing c.in-None.is in
    let wrote = c.write_answer.ensures in
    serves_from _ _ _ _ _ _ _ _ _ _ _ _ _ _
    (ap (λ s. let r : SourceState = record { left = g.R.Source.left s; faults = g.R.Source.faults s } in r) same.0)
    (ap (λ s. let r : SinkState = record { held = g.W.Sink.held s; faults = g.W.Sink.faults s; stalls = g.W.Sink.stalls s } in r) same.1)
    (ap (λ v. v.items) same.2)
    (serves_by _ _ _ _ _ _ _ _ _ _ Race race.0 race.1 c.answer_race-answer.result c.write_answer.result c.answer_race-answer.ensures.answers wrote.writes
    (λ is. let both = wrote.fault is in (
      both.0,
      ap (λ s. let r : SinkState =
          record { held = g.W.Sink.held s; faults = g.W.Sink.faults s; stalls = g.W.Sink.stalls s } in r) both.1,
    ))
    (λ is. let both = wrote.memory is in (
      both.0,
      ap (λ s. let r : SinkState =
          record { held = g.W.Sink.held s; faults = g.W.Sink.faults s; stalls = g.W.Sink.stalls s } in r) both.1,
    )))

pub returns-in-None-clause-untouched : goal.returns-in-None-clause-untouched
returns-in-None-clause-untouched g c =
    let same = c.serve.ensures.nothing c.in-None.is in
    let wrote = c.write_answer.ensures in
    let made = c.answer_race-answer.ensures in
    λ among. untouched_by c.answer_race-answer.result c.write_answer.result _ _ wrote.writes (λ is. (wrote.memory is).0) made.untouched made.failed among
    ∙ same.2

pub returns-in-None-clause-unwritten : goal.returns-in-None-clause-unwritten
returns-in-None-clause-unwritten g c =
    let same = c.serve.ensures.nothing c.in-None.is in
    let wrote = c.write_answer.ensures in
    λ among. unwritten_by c.answer_race-answer.result c.write_answer.result _ _ wrote.writes c.answer_race-answer.ensures.answers.statuses
    (λ is. (wrote.fault is).1) (λ is. (wrote.memory is).1) among ∙ same.1

pub returns-in-None-clause-unread : goal.returns-in-None-clause-unread
returns-in-None-clause-unread g c = λ unread.
    let race = c.serve.ensures.race c.in-None.is in
    absurd (let wrong = unread Race race.0 in cc)
