use Rattle.std.proofs.Common.{ap, sym, ◌∙◌}
use Rattle.flat_lock.proofs.AtHome.{others_home}
use Rattle.flat_lock.proofs.Held.{at_home}
use Rattle.flat_lock.proofs.Closing.{none_whole, some_whole, closed}
use Rattle.flat_lock.proofs.lock.TicketLock.close.Goals as goal

pub gather-requires-clause-home : goal.gather-requires-clause-home
gather-requires-clause-home g c = rw c.into_first-first.ensures.others (others_home c.args.seats.seats c.requires.home)

pub gather-requires-clause-own : goal.gather-requires-clause-own
gather-requires-clause-own g c = ap (λ z. z.lock) c.into_first-first.ensures.others ∙ c.requires.own

pub gather-requires-clause-keeper : goal.gather-requires-clause-keeper
gather-requires-clause-keeper g c =
    let first = c.into_first-first.ensures in
    let rests = at_home _ c.args.seats.lock 0 c.into_first-first.result.0 c.first.invariant c.first.view_is
    (first.in_order.each 0 c.into_first-first.result.0 first.first) in
    ap (λ z. z.table) rests.0 ∙ ap (λ z. z.table) c.requires.own

pub gather-requires-clause-resting : goal.gather-requires-clause-resting
gather-requires-clause-resting g c =
    let first = c.into_first-first.ensures in
    let rests = at_home _ c.args.seats.lock 0 c.into_first-first.result.0 c.first.invariant c.first.view_is
    (first.in_order.each 0 c.into_first-first.result.0 first.first) in
    rests.1

pub gather-requires-clause-first : goal.gather-requires-clause-first
gather-requires-clause-first g c = c.first.invariant.whole

pub close_with-closed-requires : goal.close_with-closed-requires
close_with-closed-requires g c =
    let first = c.into_first-first.ensures in
    let rests = at_home _ c.args.seats.lock 0 c.into_first-first.result.0 c.first.invariant c.first.view_is
    (first.in_order.each 0 c.into_first-first.result.0 first.first) in
    c.gather.ensures.same.0 ∙ ap (λ z. z.table) rests.0 ∙ ap (λ z. z.table) c.requires.own ∙ sym (ap (λ z. z.table) c.self.view_is)

pub unreachable-requires : goal.unreachable-requires
unreachable-requires g c =
    let first = c.into_first-first.ensures in
    none_whole g.T.HasHistory.history g.T.HasHistory.actor g.T.HasHistory.fixed c.args.self c.args.seats.seats c.take.result c.in_default.is
    (closed g.T.HasHistory.history g.T.HasHistory.actor g.T.HasHistory.fixed c.first.inside.seat.table_id c.gather.new.keeper.id c.gather.new.keeper.me
    c.into_first-first.result.0 c.args.self c.args.seats c.into_first-first.result.1 _ _ c.take.result
    c.requires.own first.in_order c.requires.home first.first first.others c.first.invariant c.first.view_is c.gather.ensures.joined
    c.close_with-closed.ensures.values.2 c.take.ensures.value)

pub returns-clause-seats : goal.returns-clause-seats
returns-clause-seats g c =
    let first = c.into_first-first.ensures in
    (some_whole g.T.HasHistory.history g.T.HasHistory.actor g.T.HasHistory.fixed c.args.self c.args.seats.seats c.take.result c.in-Some.value c.in-Some.is
    (closed g.T.HasHistory.history g.T.HasHistory.actor g.T.HasHistory.fixed c.first.inside.seat.table_id c.gather.new.keeper.id c.gather.new.keeper.me
    c.into_first-first.result.0 c.args.self c.args.seats c.into_first-first.result.1 _ _ c.take.result
    c.requires.own first.in_order c.requires.home first.first first.others c.first.invariant c.first.view_is c.gather.ensures.joined
    c.close_with-closed.ensures.values.2 c.take.ensures.value)).each

pub returns-clause-others : goal.returns-clause-others
returns-clause-others g c =
    let first = c.into_first-first.ensures in
    (some_whole g.T.HasHistory.history g.T.HasHistory.actor g.T.HasHistory.fixed c.args.self c.args.seats.seats c.take.result c.in-Some.value c.in-Some.is
    (closed g.T.HasHistory.history g.T.HasHistory.actor g.T.HasHistory.fixed c.first.inside.seat.table_id c.gather.new.keeper.id c.gather.new.keeper.me
    c.into_first-first.result.0 c.args.self c.args.seats c.into_first-first.result.1 _ _ c.take.result
    c.requires.own first.in_order c.requires.home first.first first.others c.first.invariant c.first.view_is c.gather.ensures.joined
    c.close_with-closed.ensures.values.2 c.take.ensures.value)).others

pub returns-clause-fixed : goal.returns-clause-fixed
returns-clause-fixed g c =
    let first = c.into_first-first.ensures in
    (some_whole g.T.HasHistory.history g.T.HasHistory.actor g.T.HasHistory.fixed c.args.self c.args.seats.seats c.take.result c.in-Some.value c.in-Some.is
    (closed g.T.HasHistory.history g.T.HasHistory.actor g.T.HasHistory.fixed c.first.inside.seat.table_id c.gather.new.keeper.id c.gather.new.keeper.me
    c.into_first-first.result.0 c.args.self c.args.seats c.into_first-first.result.1 _ _ c.take.result
    c.requires.own first.in_order c.requires.home first.first first.others c.first.invariant c.first.view_is c.gather.ensures.joined
    c.close_with-closed.ensures.values.2 c.take.ensures.value)).fixed_is
