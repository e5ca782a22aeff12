use Rattle.flat_page.proofs.lemmas.PageLemmas.{one_line}
use Rattle.flat_lines.proofs.entry_lines.push_entry.Goals as goal

pub returns : goal.returns
returns c = rw (← c.actor_name.ensures) (one_line c.in_ok-put.ensures c.in_ok-push_said.ensures c.in_ok-put-2.ensures)
