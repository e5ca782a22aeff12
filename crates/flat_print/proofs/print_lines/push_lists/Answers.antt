use Rattle.std.proofs.Common.{rules}
use Rattle.flat_page.proofs.lemmas.PageLemmas.{then}
use Rattle.flat_print.proofs.print_lines.push_lists.Goals as goal

pub returns : goal.returns
returns c = search (rules, then c.in_ok-push_list.ensures c.in_ok-push_list-2.ensures)
