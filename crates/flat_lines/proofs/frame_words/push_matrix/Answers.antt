use Rattle.flat_page.proofs.lemmas.PageLemmas.{then}
use Rattle.flat_lines.proofs.frame_words.push_matrix.Goals as goal

pub returns : goal.returns
returns c = then c.in_ok-push_swap.ensures c.in_ok-push_entries.ensures
