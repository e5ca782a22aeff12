-- What a walk and a search say of the unfolded tree.
use Rattle.std.proofs.Common.{ℕ, zero, suc, ◌+◌, ◌<◌, ◌≤◌, ◌≡◌, ◌⊎◌, inl, inr, refl, sym, ◌∙◌, subst, ◌||◌, List, [], ◌∷◌, Option, Some, None, slice_get, arith}
use Rattle.std.proofs.Common.{zero-add}
use Rattle.std.specs.Prelude.{nat_lt, IsTrue, IsFalse}
use Rattle.std.specs.List.{Contains}
use Rattle.std.proofs.lemmas.Bool.Decides.{nat_tests}
use Rattle.flat_scene.specs.Cycles.{Walk, HasCycle}
use Rattle.flat_graph.specs.Reasons.{links_in}
use Rattle.flat_graph.specs.State.{GraphState}
use Rattle.flat_collect.specs.Forest.{Forest, bare, trees, unfolded, size, height, held}
use Rattle.flat_collect.specs.Judge.{viewport_in, graph_tree, IsCyclic, is_too_large, HasTree}
use Rattle.flat_collect.specs.Walking.{below, IsWalked}
use Rattle.flat_collect.proofs.Walks.{at_contained}

-- the tree of each of the places is in the forest
height-trees : (f : ℕ → Forest) (places : List ℕ) (i place : ℕ) → slice_get places i ≡ Some place → 1 + height (f place) ≤ height (trees f places)
height-trees f [] i place h = absurd (cc)
height-trees f (p ∷ places) zero place h = let e : p ≡ place = cc in rw (← e) (omega arith)
height-trees f (p ∷ places) (suc i) place h = let step : 1 + height (f place) ≤ height (trees f places) = height-trees f places i place h in omega (arith, step)

module _ (links : ℕ → List ℕ) where
  -- a walk is a path of the unfolded forest
  walk-high : (steps levels : ℕ) (places : List ℕ) (a b : ℕ) → Contains places a → Walk links steps a b → steps < levels
      → steps < height (unfolded links levels places)
  unfolding unfolded
  walk-high steps zero places a b has walk few = absurd (omega arith)
  walk-high zero (suc levels) places a b has walk few =
      let at = at_contained places a has in
      let step : 1 + height (unfolded links levels (links a)) ≤ height (trees (λ p. unfolded links levels (links p)) places) =
      height-trees (λ p. unfolded links levels (links p)) places at.0 a at.1 in
      omega (arith, step)
  walk-high (suc steps) (suc levels) places a b has walk few =
      let at = at_contained places a has in
      let step : 1 + height (unfolded links levels (links a)) ≤ height (trees (λ p. unfolded links levels (links p)) places) =
      height-trees (λ p. unfolded links levels (links p)) places at.0 a at.1 in
      let next : steps < height (unfolded links levels (links a)) = walk-high steps levels (links a) walk.0 b walk.1 walk.2 (omega arith) in
      omega (arith, step, next)

  -- where there is a cycle, there is a step to a place from which there is one
  cycle-step : (a : ℕ) → HasCycle links a → (c : ℕ) × Contains (links a) c × HasCycle links c
  cycle-step a cycle = by_walk cycle.before cycle.there
    where
      by_walk : (before : ℕ) → Walk links before a cycle.place → (c : ℕ) × Contains (links a) c × HasCycle links c
      by_walk zero e =
          let P : ℕ → Type 0 = λ n. Walk links (suc cycle.around) n n in
          let round : Walk links (suc cycle.around) a a = subst P (sym e) cycle.back in
          (round.0, round.1, record { place = a; before = cycle.around; there = round.2; around = cycle.around; back = round })
      by_walk (suc before) walk =
          (walk.0, walk.1, record { place = cycle.place; before = before; there = walk.2; around = cycle.around; back = cycle.back })

  -- so there are walks of any length
  cycle-long : (steps a : ℕ) → HasCycle links a → (b : ℕ) × Walk links steps a b
  cycle-long zero a cycle = (a, refl)
  cycle-long (suc steps) a cycle =
      let next : (c : ℕ) × Contains (links a) c × HasCycle links c = cycle-step a cycle in
      let rest : (b : ℕ) × Walk links steps next.0 b = cycle-long steps next.0 next.2 in
      (rest.0, (next.0, next.1, rest.1))

  pub cycle-high : (levels root : ℕ) → HasCycle links root → levels < height (below links levels (root ∷ []))
  cycle-high levels root cycle =
      let long : (b : ℕ) × Walk links levels root b = cycle-long levels root cycle in
      walk-high levels (suc levels) (root ∷ []) root long.0 (0, omega arith, refl) long.1 (omega arith)

pub record IsGood (graph : GraphState) (nodes : ℕ) (viewports : List ℕ) : Type 0 where
  pub acyclic : ¬ IsCyclic graph
  pub small : IsFalse (is_too_large (graph_tree graph))
  pub counted : nodes ≡ size (graph_tree graph)
  pub listed : viewports ≡ held (viewport_in graph) (graph_tree graph)

-- the unfolded tree of a graph with a root
pub rooted_tree : (graph : GraphState) (root : ℕ) → graph.root ≡ Some root → graph_tree graph ≡ below (links_in graph) 64 (root ∷ [])
rooted_tree graph root e = rw e

small_enough : (nodes high : ℕ) → nodes ≤ 1024 → high ≤ 64 → IsFalse (nat_lt 1024 nodes || nat_lt 64 high)
small_enough nodes high few short = grind (arith, nat_tests)

large_by : (nodes high : ℕ) → (64 < high) ⊎ (1024 < nodes) → IsTrue (nat_lt 1024 nodes || nat_lt 64 high)
large_by nodes high (inl h) = grind (arith, nat_tests)
large_by nodes high (inr h) = grind (arith, nat_tests)

pub good_walked : (graph : GraphState) (root nodes : ℕ) (viewports : List ℕ) → graph.root ≡ Some root
    → IsWalked (below (links_in graph) 64 (root ∷ [])) (viewport_in graph) 64 0 [] nodes viewports → IsGood graph nodes viewports
good_walked graph root nodes viewports e w = record {
  acyclic = λ cyclic. none cyclic.0 (sym cyclic.1 ∙ e) cyclic.2;
  small = rw (rooted_tree graph root e) (small_enough (size (below (links_in graph) 64 (root ∷ []))) (height (below (links_in graph) 64 (root ∷ [])))
      (omega (arith, w.counted, w.few)) w.short);
  counted = rw (rooted_tree graph root e) (omega (arith, w.counted));
  listed = rw (rooted_tree graph root e) w.listed;
}
  where
    none : (start : ℕ) → Some start ≡ Some root → HasCycle (links_in graph) start → ⊥
    none start same cycle =
        let is : start ≡ root = cc in
        let high : 64 < height (below (links_in graph) 64 (root ∷ [])) = cycle-high (links_in graph) 64 root (rw is at cycle) in
        absurd (omega (arith, high, w.short))

pub large_walked : (graph : GraphState) (root : ℕ) → graph.root ≡ Some root
    → (64 < height (below (links_in graph) 64 (root ∷ []))) ⊎ (1024 < 0 + size (below (links_in graph) 64 (root ∷ [])))
    → IsTrue (is_too_large (graph_tree graph))
large_walked graph root e h = rw (rooted_tree graph root e)
    (large_by (size (below (links_in graph) 64 (root ∷ []))) (height (below (links_in graph) 64 (root ∷ []))) (rw zero-add at h))

pub empty_tree : (graph : GraphState) → graph.root ≡ None → graph_tree graph ≡ bare
unfolding unfolded
empty_tree graph e = rw e

pub empty_good : (graph : GraphState) → graph.root ≡ None → HasTree graph × (0 ≡ size (graph_tree graph))
empty_good graph e = (
  record {
    acyclic = λ cyclic. let no : ◌≡◌ {A = Option ℕ} None (Some cyclic.0) = sym e ∙ cyclic.1 in absurd (cc);
    small = rw (empty_tree graph e) refl;
    once = rw (empty_tree graph e) refl;
  },
  rw (empty_tree graph e),
)
