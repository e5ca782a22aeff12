use Rattle.std.proofs.Common.{sym}
use Rattle.flat_page.proofs.lemmas.LastItems.{last-more}
use Rattle.flat_texts.proofs.damage.FrameDamages.push.Goals as goal

pub returns : goal.returns
returns c = λ frames were. record {
  damaged = c.in_ok-note.ensures frames were;
  last = sym (last-more frames c.args.frame);
}
