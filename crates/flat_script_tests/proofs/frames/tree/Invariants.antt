use Rattle.std.proofs.Common.{◌≡◌, length}
use Rattle.flat_script_tests.proofs.frames.tree.Given as goal

abbrev pub invariant-loop-session : goal.invariant-loop-session
invariant-loop-session l = length l.nodes ≡ l.session-index
