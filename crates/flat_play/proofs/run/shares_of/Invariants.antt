use Rattle.std.proofs.Common.{◌≡◌, take, []}
use Rattle.flat_play.proofs.Shares.{shares_to}
use Rattle.flat_play.proofs.run.shares_of.Given as goal

abbrev pub invariant-loop : goal.invariant-loop
invariant-loop l = l.shares ≡ shares_to [] l.counter

abbrev pub invariant-loop-place : goal.invariant-loop-place
invariant-loop-place l = l.shares ≡ shares_to (take l.place l.script.lines) l.script.setup.sessions
