use Rattle.flat_page.proofs.lemmas.PageLemmas.{then_lines}
use Rattle.flat_texts.proofs.damage.push_text.Goals as goal

pub returns : goal.returns
returns c = then_lines c.in_ok-push_all.ensures c.in_ok-ends.ensures
