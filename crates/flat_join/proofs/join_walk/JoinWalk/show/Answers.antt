use Rattle.std.proofs.Common.{◌-◌, refl, arith}
use Rattle.flat_join.proofs.Walking.{continue-view, work-view}
use Rattle.flat_join.proofs.join_walk.JoinWalk.show.Goals as goal

pub returns-in_ok-push-2-clause-walk : goal.returns-in_ok-push-2-clause-walk
returns-in_ok-push-2-clause-walk c =
    continue-view c.args.shown.now c.args.self.now c.args.pair c.args.views c.args.scope c.args.at c.in-Some.session (c.args.views - 1) c.nodes_shown.result
    (record { nodes = c.args.self.now.nodes; connected = c.push.new.self; left = c.push-in-Some.new.self })
    c.requires.whole (omega arith) c.in-Some.ensures.found c.in-Some.ensures.within c.nodes_shown.ensures refl c.in_ok-push.ensures.ok
    c.in_ok-push-2.ensures.items

pub returns-in_ok-push-2-clause-work : goal.returns-in_ok-push-2-clause-work
returns-in_ok-push-2-clause-work c =
    rw c.in_ok-push-2.ensures.items (work-view c.args.shown.now c.args.self.now.left.items c.args.pair c.args.views c.in-Some.session (c.args.views - 1)
    c.nodes_shown.result c.args.scope
    (omega arith) c.in-Some.ensures.found c.nodes_shown.ensures)
