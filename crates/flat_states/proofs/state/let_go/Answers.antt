use Rattle.std.proofs.Common.{◌∙◌, List, arith, ap, length, length-append}
use Rattle.flat_base.specs.declared.ids.FenceNo.{FenceNo}
use Rattle.flat_rules.proofs.lemmas.ListLemmas.{moved, one-less}
use Rattle.flat_states.proofs.state.let_go.Goals as goal

pub loop-queued-preserved : goal.loop-queued-preserved
loop-queued-preserved c = let first = c.in-Some.ensures.first in record {
  taken = omega (arith, one-less _ _ _ first.waiting, first.taken, c.loop-queued.invariant.taken);
  going = rw c.push_reserved.ensures.items (moved _ _ _ _ _ _ first.waiting c.loop-queued.invariant.going);
  few = omega (arith, one-less _ _ _ first.waiting, ap length c.push_reserved.ensures.items, length-append {A = List FenceNo}, c.loop-queued.invariant.few);
  took = c.loop-queued.invariant.took;
  room = c.push_reserved.ensures.capacity ∙ c.loop-queued.invariant.room;
  closed = c.loop-queued.invariant.closed;
  account = c.loop-queued.invariant.account;
}
