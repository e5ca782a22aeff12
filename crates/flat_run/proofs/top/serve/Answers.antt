use Rattle.std.proofs.Common.{◌≡◌, ◌∙◌, ap, refl, None, Some, Ok, map}
use Rattle.std.specs.String.{string_bytes}
use Rattle.flat_words.specs.declared.service_word.ServiceWord.{ServiceWord}
use Rattle.flat_words.specs.Forms.{CallFor}
use Rattle.flat_run.specs.Serving.{SinkState}
use Rattle.flat_run.proofs.Answering.{called_for, none_called, one_form}
use Rattle.flat_run.proofs.lemmas.Serving.{serves_by, serves_nothing, serves_usage, untouched_by, unwritten_by}
use Rattle.flat_run.proofs.top.serve.Goals as goal

pub returns-in-Ok-Some : goal.returns-in-Ok-Some
returns-in-Ok-Some g c =
    let calls = called_for _ c.in-Ok-Some.field-0 c.in-Ok-Some.form c.in-Ok-Some.field-0-is c.in-Ok-Some.ensures.form in
    let one : (f : ServiceWord) → CallFor (map string_bytes c.args.words.now) f → f ≡ c.in-Ok-Some.form =
    λ f called. one_form c.in-Ok-Some.field-0 c.in-Ok-Some.form f c.in-Ok-Some.field-0-is (c.in-Ok-Some.ensures.only f called) in
    let wrote = c.write_answer.ensures in
    let made = c.answer_in_order-answer.ensures in
    let answer = c.answer_in_order-answer.result in
    record {
      race = λ none. absurd (let wrong : Some c.write_answer.result ≡ None = none in cc);
      nothing = λ none. absurd (let wrong : Some c.write_answer.result ≡ None = none in cc);
      serves = serves_by _ _ _ _ _ _ _ _ _ _ c.in-Ok-Some.form calls one answer c.write_answer.result made.answers wrote.writes
          (λ is. let both = wrote.fault is in (
            both.0,
            ap (λ s. let r : SinkState =
                record { held = g.W.Sink.held s; faults = g.W.Sink.faults s; stalls = g.W.Sink.stalls s } in r) both.1,
          ))
          (λ is. let both = wrote.memory is in (
            both.0,
            ap (λ s. let r : SinkState =
                record { held = g.W.Sink.held s; faults = g.W.Sink.faults s; stalls = g.W.Sink.stalls s } in r) both.1,
          ));
      untouched = untouched_by answer c.write_answer.result _ _ wrote.writes (λ is. (wrote.memory is).0) made.untouched made.failed;
      unwritten = unwritten_by answer c.write_answer.result _ _ wrote.writes made.answers.statuses (λ is. (wrote.fault is).1) (λ is. (wrote.memory is).1);
      unread = λ unread. made.unread (unread c.in-Ok-Some.form calls);
    }

pub returns-in-Ok-None-clause-serves : goal.returns-in-Ok-None-clause-serves
returns-in-Ok-None-clause-serves g c =
    let text = c.write_text.ensures in
    serves_usage _ _ _ _ _ _ _ _ (none_called _ c.read.result (c.in-Ok-None.is ∙ ap Ok c.in-Ok-None.field-0-is) c.read.ensures.only) c.write_text.result
    (record {
      either = text.either;
      whole = text.whole;
      part = text.part;
      fault = text.fault;
      gains = text.gains;
      counts = (text.faults, text.stalls);
      steady = λ not_5. (text.steady not_5, text.flows not_5);
    })

pub returns-in-Err-clause-serves : goal.returns-in-Err-clause-serves
returns-in-Err-clause-serves g c = serves_nothing _ _ _ _ _ _ _ _ refl
