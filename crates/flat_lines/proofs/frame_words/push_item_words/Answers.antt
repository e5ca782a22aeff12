use Rattle.flat_page.proofs.lemmas.PageLemmas.{then}
use Rattle.flat_lines.proofs.frame_words.push_item_words.Goals as goal

pub returns : goal.returns
returns c = rw (← c.session_name.ensures) (then (then (then (then c.in_ok-counted.ensures c.in_ok-push_paint.ensures) c.in_ok-push_matrix.ensures)
    c.in_ok-push_visible.ensures) c.in_ok-push_look.ensures)
