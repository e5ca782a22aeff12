use Rattle.flat_page.proofs.lemmas.PageLemmas.{one_line}
use Rattle.flat_lines.proofs.frame_words.push_apart.Goals as goal

pub returns : goal.returns
returns c = rw (← c.session_name.ensures) (one_line c.in_ok-put.ensures c.in_ok-word.ensures c.in_ok-put-2.ensures)
