use Rattle.std.proofs.Common.{◌<◌, length}
use Rattle.flat_report.proofs.Reaching.{Cuts}
use Rattle.flat_report.proofs.apart.sections_of.Given as goal

abbrev pub invariant-loop-rest : goal.invariant-loop-rest
invariant-loop-rest l = record {
  cuts : Cuts l.whole l.sections.items l.cursor l.rest;
  some : 0 < l.size;
}

abbrev pub decreases-loop-rest : goal.decreases-loop-rest
decreases-loop-rest l = length l.rest
