use Rattle.std.proofs.Common.{arith}
use Rattle.flat_join.proofs.Finding.{all-found, each-joined}
use Rattle.flat_join.proofs.shown_states.ShownStates.find_connected.Goals as goal

pub returns-clause-distances : goal.returns-clause-distances
returns-clause-distances c =
    all-found c.args.setup.now c.args.self.now c.requires.fit c.loop-distance.distance 0 c.loop-distance.distances c.loop-distance.invariant
    (omega (arith, c.loop-distance-test.false, c.sessions-distance-end.ensures))

pub returns-clause-connected : goal.returns-clause-connected
returns-clause-connected c =
    each-joined c.args.setup.now c.args.self.now c.requires.fit c.loop-distance.distances
    (all-found c.args.setup.now c.args.self.now c.requires.fit c.loop-distance.distance 0 c.loop-distance.distances c.loop-distance.invariant
    (omega (arith, c.loop-distance-test.false, c.sessions-distance-end.ensures)))
    (c.links_make_a_tree.ensures.connected c.args.setup.now c.args.self.now c.requires.fit)
