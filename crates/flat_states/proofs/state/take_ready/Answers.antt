use Rattle.std.proofs.Common.{◌≡◌, ◌∙◌, ℕ, Bool, true, false, cond, ◌<◌, [], ◌∷◌, length, All, arith, sym, List, ap, length-append}
use Rattle.std.specs.declared.alloc.Global.{Global}
use Rattle.std.specs.declared.sync.Arc.{Arc}
use Rattle.flat_base.specs.declared.ids.FenceNo.{FenceNo}
use Rattle.flat_fence.specs.Fences.{has}
use Rattle.flat_scene.specs.Frames.{up_to_first}
use Rattle.flat_queue.specs.declared.queue.WaitingPresent.{WaitingPresent}
use Rattle.flat_queue.specs.Line.{ready_of}
use Rattle.flat_snap.specs.declared.snapshot.Snapshot.{Snapshot}
use Rattle.flat_rules.proofs.lemmas.ListLemmas.{drop-next, moved, All-rest, one-less}
use Rattle.flat_states.specs.Presents.{frame_takes}
use Rattle.flat_states.proofs.state.take_ready.Goals as goal

-- what is taken of a list whose first item is ready
takes-first : {T : Type 0} (time : ℕ) (signalled : FenceNo → Bool) (was now : List (WaitingPresent T)) (first : WaitingPresent T)
    → ready_of time signalled was ≡ first ∷ ready_of time signalled now → (b : Bool) → first.args.unsquashable ≡ b
    → frame_takes time signalled was ≡ first ∷ cond b [] (frame_takes time signalled now)
takes-first {T} time signalled was now first ready b is =
    ap (up_to_first (λ (kept : WaitingPresent T). kept.args.unsquashable)) ready ∙ ap (λ b. first ∷ cond b [] (frame_takes time signalled now)) is

pub loop-queued-preserved : goal.loop-queued-preserved
loop-queued-preserved c =
    let first = c.in-Some.ensures.first in
    let kept : WaitingPresent (Arc Snapshot Global) = c.in-Some.queued in
    let ready = takes-first c.args.time (has c.args.fences.now) c.loop-queued.state.queue.waiting c.take.new.self.waiting kept c.in-Some.ensures.ready false
    c.if-unsquashable.false in
    record {
      waiting = drop-next _ _ c.args.state.now.queue.waiting c.loop-queued.state.took (sym first.waiting ∙ c.loop-queued.invariant.waiting);
      took = omega (arith, ap length ready, c.loop-queued.invariant.took);
      taken = omega arith;
      going = rw c.push_reserved.ensures.items (moved _ _ _ _ _ _ ready c.loop-queued.invariant.going);
      last = rw ready at c.loop-queued.invariant.last;
      few = omega (arith, one-less _ _ _ first.waiting, ap length c.push_reserved.ensures.items, length-append {A = List FenceNo}, c.loop-queued.invariant.few);
      count = omega (arith, one-less _ _ _ first.waiting, c.loop-queued.invariant.count);
      within = All-rest (λ kept. All (λ f. f.0 < length c.args.fences.now) kept.args.acquire) _ _ _ first.waiting c.loop-queued.invariant.within;
      room = c.push_reserved.ensures.capacity ∙ c.loop-queued.invariant.room;
      closed = c.loop-queued.invariant.closed;
      let_go = c.loop-queued.invariant.let_go;
      account = c.loop-queued.invariant.account;
    }

-- an unsquashable one is the last
pub returns-then-unsquashable : goal.returns-then-unsquashable
returns-then-unsquashable c =
    let first = c.in-Some.ensures.first in
    let kept : WaitingPresent (Arc Snapshot Global) = c.in-Some.queued in
    let ready = takes-first c.args.time (has c.args.fences.now) c.loop-queued.state.queue.waiting c.take.new.self.waiting kept c.in-Some.ensures.ready true
    c.if-unsquashable.true in
    record {
      took = omega (arith, ap length ready, c.loop-queued.invariant.took);
      taken = omega arith;
      waiting = drop-next _ _ c.args.state.now.queue.waiting c.loop-queued.state.took (sym first.waiting ∙ c.loop-queued.invariant.waiting);
      going = c.push_reserved.ensures.items ∙ (rw ready at c.loop-queued.invariant.going);
      last = rw ready at c.loop-queued.invariant.last;
      room = c.push_reserved.ensures.capacity ∙ c.loop-queued.invariant.room;
      closed = c.loop-queued.invariant.closed;
      let_go = c.loop-queued.invariant.let_go;
      account = c.loop-queued.invariant.account;
    }
