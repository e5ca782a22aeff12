use Rattle.std.proofs.lemmas.Result.{on_ok_weaker}
use Rattle.flat_page.proofs.lemmas.PageLemmas.{then}
use Rattle.flat_lines.proofs.frame_words.push_fill.Goals as goal

pub returns : goal.returns
returns c = on_ok_weaker c.counts.result (λ last. then c.in_ok-word.ensures (then c.in_ok-push_colour.ensures last)) c.counts.ensures
