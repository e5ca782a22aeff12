use Rattle.flat_damage.proofs.Covers.{turned}
use Rattle.flat_damage.proofs.redrawing.redraw.Goals as goal

pub repaint-requires : goal.repaint-requires
repaint-requires c = c.requires.items

pub returns-clause-ok : goal.returns-clause-ok
returns-clause-ok c = record {
  width = c.repaint.ensures.width;
  height = c.repaint.ensures.height;
  pixels = λ x y low high. turned c.in_ok-rects.rects c.args.old.now c.args.new.now x y _ _ c.in_ok-rects.ensures
      (c.requires.shows.pixels x y low high) (c.repaint.ensures.pixels x y low high);
}

pub returns-clause-err : goal.returns-clause-err
returns-clause-err c = tt
