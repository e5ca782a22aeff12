use Rattle.flat_page.proofs.lemmas.PageLemmas.{then}
use Rattle.flat_lines.proofs.frame_words.push_sample.Goals as goal

pub returns : goal.returns
returns c = then c.in_ok-word.ensures c.in_ok-push_units.ensures
