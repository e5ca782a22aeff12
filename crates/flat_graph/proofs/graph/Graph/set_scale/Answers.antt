use Rattle.std.proofs.Common.{sym, refl}
use Rattle.flat_graph.proofs.Soundness.{graph-set}
use Rattle.flat_graph.proofs.graph.Graph.set_scale.Goals.{in-Some, in_default}
use Rattle.std.proofs.Common.{[], ◌∷◌, ◌∙◌, ◌||◌}
use Rattle.flat_base.specs.declared.errors.Reason.TheVariants.{BadScale}
use Rattle.flat_scene.specs.Misuse.{is_bad_scale}
use Rattle.flat_graph.specs.Reasons.{name_tests}
use Rattle.flat_scene.proofs.lemmas.FirstReasons.{allowed_by, refused_by}
use Rattle.flat_graph.proofs.Refusals.{hands_on}
use Rattle.flat_graph.proofs.graph.Graph.set_scale.Goals as goal

pub invariant_of-self : goal.invariant_of-self
invariant_of-self c = elim c.match-get_mut.branch [
  | in-Some w ↦
      (let there = rw w.in-Some.is at c.get_mut.ensures.value in
      rw w.self-inside-is (graph-set _ _ c.in_ok-key.key _ _ c.self.invariant (sym there) refl))
  | in_default w ↦ rw w.self-inside-is c.self.invariant
]

pub returns-in_err-key-clause-fault : goal.returns-in_err-key-clause-fault
returns-in_err-key-clause-fault c = hands_on c.from_residual.result (name_tests c.args.self.now c.args.t.0)
    ((is_bad_scale c.args.x || is_bad_scale c.args.y, BadScale) ∷ []) c.in_err-key.field-0.0 c.from_residual.ensures.1 c.in_err-key.ensures.fault

pub returns-then-has_bad_scale-clause-fault : goal.returns-then-has_bad_scale-clause-fault
returns-then-has_bad_scale-clause-fault c = refused_by (name_tests c.args.self.now c.args.t.0) _ _ c.in_ok-key.ensures.allowed
    (sym c.has_bad_scale.ensures ∙ c.if-has_bad_scale.true)

pub returns-clause-allowed : goal.returns-clause-allowed
returns-clause-allowed c = allowed_by (name_tests c.args.self.now c.args.t.0) _ _ c.in_ok-key.ensures.allowed
    (sym c.has_bad_scale.ensures ∙ c.if-has_bad_scale.false)
