use Rattle.flat_snap.specs.Flat.{lent}
use Rattle.flat_join.proofs.Walking.{next-within, found-first, low-first, whole-first, continue-first, work-first}
use Rattle.flat_join.proofs.join_walk.JoinWalk.place_first.Goals as goal

pub node-node-requires : goal.node-node-requires
node-node-requires c = next-within c.args.shown.now c.args.s c.deref.result.now _ c.requires.is c.requires.some c.deref.ensures c.in-Some.ensures

pub inner-scope-requires : goal.inner-scope-requires
inner-scope-requires c =
    let f = found-first c.args.shown.now c.args.s c.deref.result.now _ (lent c.node-node.result) c.args.s.scope c.requires.is c.requires.some c.deref.ensures
    c.in-Some.ensures c.node-node.ensures in
    low-first c.args.shown.now c.args.s (lent c.node-node.result) c.args.s.scope 4294967296 f c.requires.low

pub show_linked-requires-clause-whole : goal.show_linked-requires-clause-whole
show_linked-requires-clause-whole c =
    let scope = c.inner-scope.result in
    let f = found-first c.args.shown.now c.args.s c.deref.result.now _ (lent c.node-node.result) scope c.requires.is c.requires.some c.deref.ensures
    c.in-Some.ensures c.node-node.ensures in
    whole-first c.args.shown.now c.args.self.now c.args.s (lent c.node-node.result) scope c.put.new.self f c.in_ok-put.ensures c.requires.whole

pub returns-clause-walk : goal.returns-clause-walk
returns-clause-walk c =
    let scope = c.inner-scope.result in
    let f = found-first c.args.shown.now c.args.s c.deref.result.now _ (lent c.node-node.result) scope c.requires.is c.requires.some c.deref.ensures
    c.in-Some.ensures c.node-node.ensures in
    continue-first c.args.shown.now c.args.self.now c.args.s (lent c.node-node.result) scope c.put.new.self c.show_linked.new.self f c.in_ok-put.ensures
    c.inner-scope.ensures
    (rw c.len-at.ensures at c.in_ok-show_linked.ensures.walk)

pub returns-clause-work : goal.returns-clause-work
returns-clause-work c =
    let scope = c.inner-scope.result in
    let f = found-first c.args.shown.now c.args.s c.deref.result.now _ (lent c.node-node.result) scope c.requires.is c.requires.some c.deref.ensures
    c.in-Some.ensures c.node-node.ensures in
    work-first c.args.shown.now c.args.self.now c.args.s (lent c.node-node.result) scope c.put.new.self c.show_linked.new.self f c.in_ok-put.ensures
    c.in_ok-show_linked.ensures.work
