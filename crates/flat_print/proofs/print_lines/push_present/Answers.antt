use Rattle.flat_page.proofs.lemmas.PageLemmas.{then}
use Rattle.flat_print.proofs.print_lines.push_present.Goals as goal

pub returns : goal.returns
returns c = then c.in_ok-word.ensures (then c.in_ok-count.ensures (then c.in_ok-push_unsquashable.ensures c.in_ok-push_lists.ensures))
