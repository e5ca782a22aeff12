use Rattle.flat_page.proofs.lemmas.PageLemmas.{then}
use Rattle.flat_lines.proofs.frame_words.push_lost_words.Goals as goal

pub returns : goal.returns
returns c = then c.in_ok-count.ensures (then c.in_ok-word.ensures (then c.in_ok-word-2.ensures c.in_ok-counted.ensures))
