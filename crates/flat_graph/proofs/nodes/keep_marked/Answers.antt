use Rattle.std.proofs.Common.{◌≡◌, sym, ap, ◌∙◌, arith, rules, add-one, slice_index_or, true, false, ℕ, length}
use Rattle.flat_graph.proofs.Sweeping.{marked_below, marked-step, marked-skip, marked-all}
use Rattle.flat_graph.proofs.nodes.keep_marked.Goals.{then-not-marks-key, else-not-marks-key}
use Rattle.flat_graph.proofs.nodes.keep_marked.Goals as goal

pub loop-key-preserved : goal.loop-key-preserved
loop-key-preserved c = elim c.if-not-marks-key.branch [
  | then-not-marks-key w ↦
      (let mark : slice_index_or c.args.marks.now c.loop-key.key false ≡ false = search rules in
      record {
        slots = rw w.nodes-is (w.drop_node-dropped.ensures.slots
            ∙ rw (c.loop-key.invariant.slots, add-one) (marked-step c.loop-key.key c.args.marks.now c.args.nodes.now.slots c.loop-key-test.true mark));
        places = rw w.nodes-is (w.drop_node-dropped.ensures.places ∙ c.loop-key.invariant.places);
        counted = rw (w.nodes-is, w.dropped-is) (omega (arith, w.drop_node-dropped.ensures.dropped, c.loop-key.invariant.counted));
      })
  | else-not-marks-key w ↦
      (let mark : slice_index_or c.args.marks.now c.loop-key.key false ≡ true = search rules in
      record {
        slots = rw w.nodes-is (c.loop-key.invariant.slots ∙ rw add-one (sym (marked-skip c.loop-key.key c.args.marks.now c.args.nodes.now.slots mark)));
        places = rw w.nodes-is c.loop-key.invariant.places;
        counted = rw (w.nodes-is, w.dropped-is) c.loop-key.invariant.counted;
      })
]

pub returns-clause-kept : goal.returns-clause-kept
returns-clause-kept c =
    let end : c.loop-key.key ≡ length c.args.marks.now = omega (arith, c.loop-key-test.false, c.loop-key.auto.key-end) in
    c.loop-key.invariant.slots ∙ ap (λ (n : ℕ). marked_below n c.args.marks.now c.args.nodes.now.slots) end
    ∙ marked-all c.args.marks.now c.args.nodes.now.slots c.requires.covered
