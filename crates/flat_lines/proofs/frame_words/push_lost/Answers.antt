use Rattle.flat_page.proofs.lemmas.PageLemmas.{one_line}
use Rattle.flat_lines.proofs.frame_words.push_lost.Goals as goal

pub returns : goal.returns
returns c = one_line c.in_ok-put.ensures c.in_ok-push_lost_words.ensures c.in_ok-put-2.ensures
