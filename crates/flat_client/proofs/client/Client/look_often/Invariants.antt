use Rattle.std.proofs.Common.{◌≤◌}
use Rattle.flat_client.specs.Clients.{HasLooked}
use Rattle.flat_client.proofs.client.Client.look_often.Given as goal

abbrev pub invariant-loop : goal.invariant-loop
invariant-loop g l = HasLooked l.c l.value l.fn.self l.self × (l.nap ≤ 2000)
