use Rattle.std.proofs.Common.{◌+◌, ℕ, ap, ◌∙◌}
use Rattle.flat_base.specs.declared.ids.FrameNo.{FrameNo}
use Rattle.flat_play.proofs.store.FrameStore.finish.Goals as goal

pub returns-clause-finishes : goal.returns-clause-finishes
returns-clause-finishes c = λ history stands starts.
    let shows = c.in_ok-keep_next.ensures.shows stands.ends.is in
    record {
      kept = c.in_ok-keep_next.ensures.keeps history stands starts;
      number = ap (λ (f : FrameNo). f.0 + 1) c.keep_next.ensures.number ∙ ap (λ (n : ℕ). n + 1) stands.ends.number;
      last = record {
        is = record { count = shows.is.count; fits = shows.is.fits; joined = shows.is.joined };
        shows = shows.shows;
        scales = shows.scales;
      };
      points = c.keep_next.ensures.points;
    }
