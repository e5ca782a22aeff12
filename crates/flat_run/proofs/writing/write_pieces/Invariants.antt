use Rattle.std.proofs.Common.{◌≡◌, ◌++◌, ℕ, List, take, map}
use Rattle.std.specs.Arc.{arc_value}
use Rattle.std.specs.List.{concat}
use Rattle.flat_io.specs.Told.{Appends}
use Rattle.flat_run.proofs.writing.write_pieces.Given as goal

abbrev pub invariant-loop-run : goal.invariant-loop-run
invariant-loop-run g l = record {
  held : (written : List ℕ) × Appends written (g.W.Sink.held l.initial.sink) (g.W.Sink.held l.sink)
      × (concat (take l.run-index (map arc_value l.runs)) ≡ written ++ l.waiting.items);
  faults : g.W.Sink.faults l.sink ≡ g.W.Sink.faults l.initial.sink;
  stalls : g.W.Sink.stalls l.sink ≡ g.W.Sink.stalls l.initial.sink;
}
