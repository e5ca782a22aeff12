use Rattle.std.proofs.Common.{rules, ◌≡◌, ◌∙◌, ap, refl}
use Rattle.flat_run.specs.Serving.{SinkState, SourceState}
use Rattle.flat_prog.proofs.Saying.{says_nothing, says_same}
use Rattle.flat_prog.proofs.status.status.Goals as goal

pub returns-in_default : goal.returns-in_default
returns-in_default g c = record { says = says_nothing _ _ _ _ _ refl refl }

pub returns-in_default-answer : goal.returns-in_default-answer
returns-in_default-answer g c =
    let source : c.answer.new.source ≡ c.args.source.now = search rules in
    let sink : c.answer.new.sink ≡ c.args.sink.now = search rules in
    record {
      says = says_nothing _ _ _ _ _ (ap (λ s. let r : SourceState = record { left = g.R.Source.left s; faults = g.R.Source.faults s } in r) source)
          (ap (λ s. let r : SinkState = record { held = g.W.Sink.held s; faults = g.W.Sink.faults s; stalls = g.W.Sink.stalls s } in r) sink);
    }

pub returns : goal.returns
returns g c = record { says = says_same _ _ _ _ _ _ _ _ (c.as_slice.ensures.value ∙ c.in-Ok.ensures) c.in-Ok-answer.ensures.says }
