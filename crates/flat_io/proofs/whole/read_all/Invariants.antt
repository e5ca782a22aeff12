use Rattle.std.proofs.Common.{◌-◌, length, vec_len}
use Rattle.flat_io.proofs.Loops.{Reading}
use Rattle.flat_io.proofs.whole.read_all.Given as goal

abbrev pub invariant-loop-count : goal.invariant-loop-count
invariant-loop-count g l =
    Reading (g.R.Source.left l.initial.source) (g.R.Source.left l.source) l.text.items l.limit (g.R.Source.faults l.initial.source) (g.R.Source.faults l.source)
    (g.R.Source.reads l.initial.source) (g.R.Source.reads l.source) (length l.chunk.items)

abbrev pub decreases-loop-count : goal.decreases-loop-count
decreases-loop-count g l = l.limit - vec_len l.text
