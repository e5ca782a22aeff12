use Rattle.std.proofs.Common.{◌++◌, ◌∙◌, ap, append-nil}
use Rattle.flat_report.proofs.paged_text.PagedText.turn.Goals as goal

pub returns : goal.returns
returns c = ap (λ t. c.end_page.new.full ++ t) c.in_ok-end_page.ensures.page ∙ append-nil c.end_page.new.full ∙ c.in_ok-end_page.ensures.full ∙ c.self.view_is
