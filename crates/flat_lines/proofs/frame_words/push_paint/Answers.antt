use Rattle.flat_page.proofs.lemmas.PageLemmas.{then}
use Rattle.flat_lines.proofs.frame_words.push_paint.Goals as goal

pub returns-in-Fill : goal.returns-in-Fill
returns-in-Fill c = rw c.in-Fill.is c.push_fill.ensures

pub returns-in_ok-push_long-in-Image : goal.returns-in_ok-push_long-in-Image
returns-in_ok-push_long-in-Image c = rw (c.in-Image.is, ← c.flip_number.ensures)
    (then c.in_ok-push_buffer-in-Image.ensures (then c.in_ok-push_sample-in-Image.ensures
    (then c.in_ok-push_size-in-Image.ensures c.in_ok-push_long-in-Image.ensures)))
