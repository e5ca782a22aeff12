use Rattle.std.proofs.Common.{◌≡◌}
use Rattle.flat_report.specs.Report.{finished}
use Rattle.flat_play.specs.Playing.{EndsStand}
use Rattle.flat_play.specs.Touching.{GoesOnByEnds}
use Rattle.flat_play.proofs.play.Play.end_all.Given as goal

abbrev pub invariant-loop-before : goal.invariant-loop-before
invariant-loop-before l = (l.self.store.kept ≡ l.initial.self.store.kept)
    × (finished l.script.setup l.self.board.history ≡ finished l.script.setup l.initial.self.board.history) × EndsStand l.script l.before l.self
    × GoesOnByEnds l.initial.self.board.history l.self.board.history
