use Rattle.flat_page.proofs.lemmas.PageLemmas.{one_line}
use Rattle.flat_lines.proofs.entry_lines.push_post.Goals as goal

pub returns : goal.returns
returns c = one_line c.in_ok-put.ensures c.in_ok-push_posted.ensures c.in_ok-put-2.ensures
