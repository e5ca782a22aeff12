use Rattle.std.proofs.lemmas.Result.{on_ok_weaker}
use Rattle.flat_page.proofs.lemmas.PageLemmas.{then}
use Rattle.flat_lines.proofs.frame_words.push_colour.Goals as goal

pub returns : goal.returns
returns c = on_ok_weaker c.counts-2.result (λ last. then c.in_ok-counts.ensures last) c.counts-2.ensures
