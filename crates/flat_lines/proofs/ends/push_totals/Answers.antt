use Rattle.flat_page.proofs.lemmas.PageLemmas.{then}
use Rattle.flat_lines.proofs.ends.push_totals.Goals as goal

pub returns : goal.returns
returns c = then c.in_ok-word.ensures (then c.in_ok-word-2.ensures (then c.in_ok-count.ensures (then c.in_ok-word-3.ensures c.in_ok-count-2.ensures)))
