use Rattle.flat_play.proofs.store.FrameStore.new.Goals as goal

pub returns-clause-stands : goal.returns-clause-stands
returns-clause-stands c =
    let last = c.in_ok-last.ensures in
    record {
      keeps = c.new.ensures.none c.args.script.now;
      ends = record { number = last.number; is = last.is; shows = last.shows; scales = last.ratio };
      points = c.new-2.ensures;
    }
