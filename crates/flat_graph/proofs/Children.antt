-- A child more, or one less, of a node: what the graph is after it, and why it may be refused, by the children of that node alone.
use Rattle.std.specs.Prelude.{◌==◌, filter}
use Rattle.std.proofs.Common.{ℕ, ◌≡◌, not, true, false, List, [], ◌∷◌, ◌++◌, Option, Some, None, Ok, Err, sym, ap, ◌∙◌}
use Rattle.std.specs.Prelude.{Result, IfErr, OnOk, OnErr, slice_set}
use Rattle.std.specs.Result.{IsErrAnd}
use Rattle.std.proofs.lemmas.List.{set-get_or}
use Rattle.std.proofs.lemmas.Result.{on_ok_weaker, on_err_weaker}
use Rattle.flat_scene.specs.declared.trees.GraphFault.{GraphFault}
use Rattle.flat_scene.specs.declared.trees.GraphFault.TheVariants.{Bad, Memory}
use Rattle.flat_base.specs.declared.errors.Reason.TheVariants.{AlreadyChild, NotChild, TooManyChildren}
use Rattle.flat_base.specs.declared.limits.TheConstants.{CHILDREN_MAX}
use Rattle.flat_scene.specs.Misuse.{Test, first_reason, is_full}
use Rattle.flat_graph.specs.declared.nodes.GraphNode.{GraphNode}
use Rattle.flat_graph.specs.Names.{key_named}
use Rattle.flat_graph.specs.Reasons.{add_tests, child_tests, children_at, children_of, has_key, is_child, links_of, pair_tests, remove_tests, IsFault, IsMisuse}
use Rattle.flat_graph.specs.State.{GraphState, IsGraph, IsKept, change_at, change_named, changed_node, node_at, with_child, with_node, without_child}
use Rattle.flat_scene.proofs.lemmas.FirstReasons.{passed_on, allowed_by, refused_by}
use Rattle.flat_graph.proofs.Refusals.{hands_on, hands_fault_on}
use Rattle.flat_graph.proofs.Soundness.{graph-changed, kept-push}

-- the graph in which a named node is changed
pub is_changed : (graph : GraphState) (id key : ℕ) (node : GraphNode) (change : GraphNode → GraphNode) → key_named graph.names id ≡ Some key
    → node_at graph key ≡ Some node
    → with_node graph key (change node) ≡ change_named graph id change
is_changed graph id key node change named there =
    sym (ap (λ (k : Option ℕ). change_at graph k change) named ∙ ap (changed_node graph key change) there)

-- the graph in which a node stands that stood there
pub is_kept : (graph : GraphState) (key : ℕ) (node : GraphNode) → node_at graph key ≡ Some node → with_node graph key node ≡ graph
is_kept graph key node there = ap (λ (nodes : List (Option GraphNode)). let g : GraphState = record graph { nodes = nodes } in g)
    (ap (slice_set graph.nodes key) (sym there) ∙ set-get_or graph.nodes key None)

-- two ids that name no two nodes
pub pair_refused : (graph : GraphState) (parent child : ℕ) (result : Result (Unit {0}) GraphFault) (fault : GraphFault)
    → IsErrAnd result (λ given. given ≡ fault) → IsMisuse (pair_tests graph parent child) fault
    → IfErr result (IsFault (add_tests graph parent child))
pair_refused graph parent child result =
    hands_fault_on result (pair_tests graph parent child)
    ((is_child graph parent child, AlreadyChild) ∷ (is_full CHILDREN_MAX (children_of graph parent), TooManyChildren) ∷ [])

pub pair_stays_refused : (graph : GraphState) (parent child : ℕ) (result : Result (Unit {0}) GraphFault) (fault : GraphFault)
    → IsErrAnd result (λ given. given ≡ fault) → IsMisuse (pair_tests graph parent child) fault
    → IfErr result (IsMisuse (remove_tests graph parent child))
pair_stays_refused graph parent child result = hands_on result (pair_tests graph parent child) ((not (is_child graph parent child), NotChild) ∷ [])

module _ (graph : GraphState) (parent child over under : ℕ) (node : GraphNode) (named : key_named graph.names parent ≡ Some over)
    (second : key_named graph.names child ≡ Some under) (there : node_at graph over ≡ Some node) where
  pub child_added : (result : Result (Unit {0}) GraphFault) (children : List ℕ) → OnOk result (children ≡ node.children ++ under ∷ [])
      → OnOk result (with_node graph over (record node { children = children }) ≡ change_named graph parent (with_child (key_named graph.names child)))
  child_added result children = on_ok_weaker result (λ e.
      ap (λ (cs : List ℕ). with_node graph over (record node { children = cs })) e
      ∙ is_changed graph parent over node (with_child (Some under)) named there
      ∙ ap (λ (k : Option ℕ). change_named graph parent (with_child k)) (sym second))

  pub child_refused : (result : Result (Unit {0}) GraphFault) (children : List ℕ) → OnErr result (children ≡ node.children)
      → OnErr result (with_node graph over (record node { children = children }) ≡ graph)
  child_refused result children = on_err_weaker result (λ e.
      ap (λ (cs : List ℕ). with_node graph over (record node { children = cs })) e ∙ is_kept graph over node there)

  pub child_kept : (places : ℕ) → IsGraph places graph → IsKept graph.nodes under → (result : Result (Unit {0}) GraphFault) (children : List ℕ)
      → OnOk result (children ≡ node.children ++ under ∷ []) → OnErr result (children ≡ node.children)
      → IsGraph places (with_node graph over (record node { children = children }))
  child_kept places g kept (Ok done) children added same =
      graph-changed places graph over node _ g there (rw added (kept-push graph.nodes node.children under (g.sound.children_kept over node there) kept))
  child_kept places g kept (Err fault) children added same = graph-changed places graph over node _ g there (rw same (g.sound.children_kept over node there))

  -- what is asked of a child is asked of the node's children
  asked : first_reason (pair_tests graph parent child) ≡ None → first_reason (add_tests graph parent child) ≡ first_reason (child_tests node.children under)
  asked passed =
      let tests = λ (children : List ℕ) (key : Option ℕ). let ts : List Test =
      (has_key children key, AlreadyChild) ∷ (is_full CHILDREN_MAX children, TooManyChildren) ∷ [] in ts in
      passed_on (pair_tests graph parent child) (tests (children_at graph (key_named graph.names parent)) (key_named graph.names child)) passed
      ∙ ap (λ (k : Option ℕ). first_reason (tests (children_at graph k) (key_named graph.names child))) named
      ∙ ap (λ (n : Option GraphNode). first_reason (tests (links_of n) (key_named graph.names child))) there
      ∙ ap (λ (k : Option ℕ). first_reason (tests node.children k)) second

  pub child_allowed : (result : Result (Unit {0}) GraphFault) → first_reason (pair_tests graph parent child) ≡ None
      → OnOk result (first_reason (child_tests node.children under) ≡ None)
      → OnOk result (first_reason (add_tests graph parent child) ≡ None)
  child_allowed result passed = on_ok_weaker result (λ e. asked passed ∙ e)

  pub child_fault : (result : Result (Unit {0}) GraphFault) → first_reason (pair_tests graph parent child) ≡ None
      → IfErr result (IsFault (child_tests node.children under))
      → IfErr result (IsFault (add_tests graph parent child))
  child_fault (Ok done) passed fault = tt
  child_fault (Err (Bad reason)) passed fault = asked passed ∙ fault
  child_fault (Err Memory) passed fault = asked passed ∙ fault

  -- the child that is to go is one of the node's children
  is_there : is_child graph parent child ≡ has_key node.children (Some under)
  is_there = ap (λ (k : Option ℕ). has_key (children_at graph k) (key_named graph.names child)) named
      ∙ ap (λ (n : Option GraphNode). has_key (links_of n) (key_named graph.names child)) there ∙ ap (has_key node.children) second

  pub going_allowed : first_reason (pair_tests graph parent child) ≡ None → has_key node.children (Some under) ≡ true
      → first_reason (remove_tests graph parent child) ≡ None
  going_allowed passed found = allowed_by (pair_tests graph parent child) (not (is_child graph parent child)) NotChild passed (ap not (is_there ∙ found))

  pub going_refused : first_reason (pair_tests graph parent child) ≡ None → has_key node.children (Some under) ≡ false
      → first_reason (remove_tests graph parent child) ≡ Some NotChild
  going_refused passed missed = refused_by (pair_tests graph parent child) (not (is_child graph parent child)) NotChild passed (ap not (is_there ∙ missed))

  pub child_gone : (children : List ℕ) → children ≡ filter (λ other. not (other == under)) node.children
      → with_node graph over (record node { children = children }) ≡ change_named graph parent (without_child (key_named graph.names child))
  child_gone children e =
      ap (λ (cs : List ℕ). with_node graph over (record node { children = cs })) e
      ∙ is_changed graph parent over node (without_child (Some under)) named there
      ∙ ap (λ (k : Option ℕ). change_named graph parent (without_child k)) (sym second)

  pub child_stays : (children : List ℕ) → children ≡ node.children → with_node graph over (record node { children = children }) ≡ graph
  child_stays children e = ap (λ (cs : List ℕ). with_node graph over (record node { children = cs })) e ∙ is_kept graph over node there
