use Rattle.std.proofs.Common.{◌∙◌, sym}
use Rattle.flat_forms.specs.Body.{present}
use Rattle.flat_places.proofs.lemmas.ReadsLemmas.{begin, read_whole, then}
use Rattle.flat_forms.proofs.session_forms.present.Goals as goal

pub returns-in-Ok : goal.returns-in-Ok
returns-in-Ok c =
    let read = then (then (begin (λ t alone lists. record { time = t; acquire = lists.0; release = lists.1; unsquashable = alone }) c.time-time.ensures)
    c.unsquashable-unsquashable.ensures) c.in_ok-acquire.ensures in
    sym (read_whole (present c.args.script.now.script c.args.session) c.new-places.ensures.words c.new-places.ensures.sofar read c.finish.ensures.reads)
    ∙ c.in-Ok.is

pub returns-in-Err : goal.returns-in-Err
returns-in-Err c =
    let read = then (then (begin (λ t alone lists. record { time = t; acquire = lists.0; release = lists.1; unsquashable = alone }) c.time-time.ensures)
    c.unsquashable-unsquashable.ensures) c.in_ok-acquire.ensures in
    sym (read_whole (present c.args.script.now.script c.args.session) c.new-places.ensures.words c.new-places.ensures.sofar read c.finish.ensures.reads)
    ∙ c.in-Err.is
