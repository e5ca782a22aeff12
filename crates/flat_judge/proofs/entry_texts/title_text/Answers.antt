use Rattle.std.proofs.Common.{◌∙◌}
use Rattle.flat_page.proofs.lemmas.PageLemmas.{all-put}
use Rattle.flat_judge.proofs.entry_texts.title_text.Goals as goal

pub returns : goal.returns
returns c = c.into_text.ensures ∙ all-put _ _ _ c.new-page.ensures c.in_ok-push_title.ensures.text
