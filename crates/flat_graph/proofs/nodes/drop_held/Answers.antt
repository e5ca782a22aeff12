use Rattle.std.proofs.Common.{sym, ap, arith}
use Rattle.flat_scene.specs.declared.trees.HeldContent.{HeldContent}
use Rattle.std.specs.Prelude.{Option}
use Rattle.flat_graph.specs.State.{without_content}
use Rattle.flat_graph.proofs.Sweeping.{changed-some, changed-none, changed-done}
use Rattle.flat_graph.proofs.nodes.drop_held.Goals.{in-Some, in_default}
use Rattle.flat_graph.proofs.nodes.drop_held.Goals as goal

pub loop-key-preserved : goal.loop-key-preserved
loop-key-preserved c = elim c.match-get_mut.branch [
  | in-Some w ↦
      rw w.nodes-is
      (changed-some (without_content c.args.serial) _ c.args.nodes.now c.loop-key.key w.in-Some.node.now _ c.loop-key.invariant
      (sym (rw w.in-Some.is at c.get_mut.ensures.value))
      (ap (λ (held : Option HeldContent). record w.in-Some.node.now { content = held }) w.held_without-node.ensures))
  | in_default w ↦ rw w.nodes-is (changed-none (without_content c.args.serial) _ c.args.nodes.now c.loop-key.key c.loop-key.invariant
      (sym (rw w.in_default.is at c.get_mut.ensures.value)))
]

pub returns : goal.returns
returns c = changed-done (without_content c.args.serial) _ c.args.nodes.now c.loop-key.key c.loop-key.invariant
    (omega (arith, c.capacity-key-end.ensures.slots, c.capacity-key-end.ensures.value))
