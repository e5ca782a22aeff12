use Rattle.std.proofs.Common.{◌-◌, length}
use Rattle.flat_io.proofs.Loops.{Writing}
use Rattle.flat_io.proofs.whole.write_all.Given as goal

abbrev pub invariant-loop-written : goal.invariant-loop-written
invariant-loop-written g l =
    Writing (g.W.Sink.held l.initial.sink) (g.W.Sink.held l.sink) l.text l.written (g.W.Sink.faults l.initial.sink) (g.W.Sink.faults l.sink)
    (g.W.Sink.stalls l.initial.sink) (g.W.Sink.stalls l.sink) (g.W.Sink.writes l.initial.sink) (g.W.Sink.writes l.sink)

abbrev pub decreases-loop-written : goal.decreases-loop-written
decreases-loop-written g l = length l.text - l.written
