use Rattle.std.proofs.Common.{◌∙◌, ◌++◌, ap}
use Rattle.std.specs.Arc.{arc_value}
use Rattle.flat_report.proofs.Piecing.{run-more}
use Rattle.flat_report.proofs.text_pieces.TextPieces.push.Goals as goal

pub returns : goal.returns
returns c = run-more arc_value c.self.inside.runs.items c.push.new.self.items c.args.run c.in_ok-push.ensures.items
    ∙ ap (λ t. t ++ arc_value c.args.run) c.self.view_is
