use Rattle.flat_page.proofs.lemmas.PageLemmas.{then, one_line}
use Rattle.flat_lines.proofs.ends.push_title.Goals as goal

pub returns : goal.returns
returns c = one_line c.in_ok-put.ensures (then c.in_ok-word.ensures c.in_ok-count.ensures) c.in_ok-put-2.ensures
