use Rattle.std.proofs.Common.{sym, ◌∙◌}
use Rattle.flat_play.proofs.lemmas.Joining.{all-same}
use Rattle.flat_play.proofs.frame.LastFrame.stays.Goals as goal

pub returns-clause-shown : goal.returns-clause-shown
returns-clause-shown c = λ long same scales. all-same c.args.start.now.changed c.args.self.now.reuse c.args.start.now.shown
    (sym c.has_any.ensures ∙ c.if-has_any.false) long same
