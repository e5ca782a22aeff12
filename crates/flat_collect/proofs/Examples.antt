-- A sweep on a small graph: a root that was released, its released child, a transform with a name, and two that lead to each other.
use Rattle.std.proofs.Common.{ℕ, zero, suc, ◌<◌, ◌≡◌, inl, inr, refl, Bool, true, false, cond, [], ◌∷◌, Option, Some, None, arith}
use Rattle.std.specs.Prelude.{◌==◌}
use Rattle.std.specs.List.{Contains}
use Rattle.flat_scene.specs.Cycles.{Walk}
use Rattle.flat_graph.specs.Reasons.{links_in}
use Rattle.flat_graph.specs.State.{GraphState, IsKept, new_node, node_at}
use Rattle.flat_collect.specs.Sweep.{IsReached, IsStart, IsSwept}

abbrev before : GraphState
before = record {
  nodes = Some (record (new_node 1) { children = 1 ∷ [] }) ∷ Some (new_node 2) ∷ Some (new_node 3) ∷ Some (record (new_node 4) { children = 4 ∷ [] })
      ∷ Some (record (new_node 5) { children = 3 ∷ [] }) ∷ [];
  names = (record { id = 6; key = 2 }) ∷ [];
  root = Some 0;
  made = 5;
}

abbrev after : GraphState
after = record before { nodes = Some (record (new_node 1) { children = 1 ∷ [] }) ∷ Some (new_node 2) ∷ Some (new_node 3) ∷ None ∷ None ∷ [] }

root : IsReached before 0
root = record { start = 0; is_start = inl refl; steps = 0; walk = refl }

child : IsReached before 1
child = record { start = 0; is_start = inl refl; steps = 1; walk = (1, (0, omega arith, refl), refl) }

named : IsReached before 2
named = record { start = 2; is_start = inr (6, refl); steps = 0; walk = refl }

-- only the first three keys are reached
start-low : (key : ℕ) → IsStart before key → key < 3
start-low key (inl is) = let same : 0 ≡ key = cc in omega (arith, same)
start-low key (inr is) = by_id (6 == is.0) is.1
  where
    by_id : (b : Bool) → ◌≡◌ {A = Option ℕ} (cond b (Some 2) None) (Some key) → key < 3
    by_id true e = let same : 2 ≡ key = cc in omega (arith, same)
    by_id false e = absurd (cc)

child-low : (key k : ℕ) → key < 3 → Contains (links_in before key) k → k < 3
child-low zero k low (zero, within, is) = omega (arith, is)
child-low zero k low (suc i, within, is) = absurd (omega (arith, within))
child-low (suc zero) k low has = let none : has.0 < 0 = has.1 in absurd (omega arith)
child-low (suc (suc zero)) k low has = let none : has.0 < 0 = has.1 in absurd (omega arith)
child-low (suc (suc (suc n))) k low has = absurd (omega (arith, low))

walk-low : (steps a b : ℕ) → a < 3 → Walk (links_in before) steps a b → b < 3
walk-low zero a b low is = omega (arith, low, is)
walk-low (suc steps) a b low walk = walk-low steps walk.0 b (child-low a walk.0 low walk.1) walk.2

reached-low : (key : ℕ) → IsReached before key → key < 3
reached-low key reached = walk-low reached.steps reached.start key (start-low reached.start reached.is_start) reached.walk

cycle : ¬ IsReached before 3 × ¬ IsReached before 4
cycle = (λ reached. absurd (omega (arith, reached-low 3 reached)), λ reached. absurd (omega (arith, reached-low 4 reached)))

swept : IsSwept before after
swept = record { kept = λ key reached. same key (reached-low key reached); no_other = there; rest = refl }
  where
    same : (key : ℕ) → key < 3 → node_at after key ≡ node_at before key
    same zero low = refl
    same (suc zero) low = refl
    same (suc (suc zero)) low = refl
    same (suc (suc (suc n))) low = absurd (omega (arith, low))

    there : (key : ℕ) → IsKept after.nodes key → IsReached before key
    there zero kept = root
    there (suc zero) kept = child
    there (suc (suc zero)) kept = named
    there (suc (suc (suc zero))) kept = absurd (cc)
    there (suc (suc (suc (suc zero)))) kept = absurd (cc)
    there (suc (suc (suc (suc (suc n))))) kept = absurd (cc)
