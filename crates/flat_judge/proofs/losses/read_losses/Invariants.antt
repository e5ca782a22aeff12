use Rattle.std.proofs.Common.{◌≤◌, length}
use Rattle.flat_judge.proofs.LossesTold.{Reading}
use Rattle.flat_judge.proofs.losses.read_losses.Given as goal

abbrev pub invariant-loop : goal.invariant-loop
invariant-loop l = Reading l.frame.0 l.initial.lost l.lost l.text l.at l.place × (l.place ≤ length l.text) × (l.counter ≤ l.place)
