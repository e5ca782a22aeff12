use Rattle.std.proofs.Common.{sym, refl}
use Rattle.flat_graph.proofs.Soundness.{graph-set}
use Rattle.flat_graph.proofs.graph.Graph.set_opacity.Goals.{in-Some, in_default}
use Rattle.std.proofs.Common.{[], ◌∷◌, nat_lt}
use Rattle.std.proofs.lemmas.Bool.{le-ltb, lt-ltb}
use Rattle.flat_base.specs.declared.limits.TheConstants.{OPACITY_MAX}
use Rattle.flat_base.specs.declared.errors.Reason.TheVariants.{BadOpacity}
use Rattle.flat_graph.specs.Reasons.{name_tests}
use Rattle.flat_scene.proofs.lemmas.FirstReasons.{allowed_by, refused_by}
use Rattle.flat_graph.proofs.Refusals.{hands_on}
use Rattle.flat_graph.proofs.graph.Graph.set_opacity.Goals as goal

pub invariant_of-self : goal.invariant_of-self
invariant_of-self c = elim c.match-get_mut.branch [
  | in-Some w ↦
      (let there = rw w.in-Some.is at c.get_mut.ensures.value in
      rw w.self-inside-is (graph-set _ _ c.in_ok-key.key _ _ c.self.invariant (sym there) refl))
  | in_default w ↦ rw w.self-inside-is c.self.invariant
]

pub returns-in_err-key-clause-fault : goal.returns-in_err-key-clause-fault
returns-in_err-key-clause-fault c = hands_on c.from_residual.result (name_tests c.args.self.now c.args.t.0)
    ((nat_lt OPACITY_MAX c.args.opacity, BadOpacity) ∷ []) c.in_err-key.field-0.0 c.from_residual.ensures.1 c.in_err-key.ensures.fault

pub returns-then-opacity-gt-OPACITY_MAX-clause-fault : goal.returns-then-opacity-gt-OPACITY_MAX-clause-fault
returns-then-opacity-gt-OPACITY_MAX-clause-fault c = refused_by (name_tests c.args.self.now c.args.t.0) _ _ c.in_ok-key.ensures.allowed
    (lt-ltb _ _ c.if-opacity-gt-OPACITY_MAX.true)

pub returns-clause-allowed : goal.returns-clause-allowed
returns-clause-allowed c = allowed_by (name_tests c.args.self.now c.args.t.0) _ _ c.in_ok-key.ensures.allowed (le-ltb _ _ c.if-opacity-gt-OPACITY_MAX.false)
