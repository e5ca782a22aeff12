-- A swept graph goes on standing for the draft, and unfolds to the same trees.
use Rattle.std.proofs.Common.{ℕ, zero, suc, ◌≡◌, inl, inr, refl, sym, ◌∙◌, ap, subst, List, [], ◌∷◌, Option, arith}
use Rattle.std.specs.Prelude.{option_to_list}
use Rattle.std.specs.List.{Contains}
use Rattle.flat_base.specs.declared.limits.TheConstants.{PATH_NODES_MAX}
use Rattle.flat_scene.specs.Draft.{Draft}
use Rattle.flat_graph.specs.Reasons.{links_in, links_of}
use Rattle.flat_graph.specs.State.{GraphState}
use Rattle.flat_graph.specs.Stands.{StandsFor}
use Rattle.flat_graph.proofs.lemmas.FewerNodes.{Leaves, stands-fewer}
use Rattle.flat_collect.specs.Forest.{Forest, tree, unfolded}
use Rattle.flat_collect.specs.Judge.{graph_tree}
use Rattle.flat_collect.specs.Laws.{SweptStands}
use Rattle.flat_collect.specs.Sweep.{IsReached, IsSwept}
use Rattle.flat_collect.proofs.Finding.{listed-root, reached-child, reached-start}

-- the nodes that are left are those of what is reached
leaves-reached : (old new : GraphState) → IsSwept old new → Leaves (IsReached old) old new.nodes
leaves-reached old new swept = record {
  kept = swept.kept;
  no_other = swept.no_other;
  root = λ key root. reached-start old key (inl root);
  names = λ id key named. reached-start old key (inr (id, named));
  children = λ key node there reached child has. reached-child old key child reached
      (let links : links_in old key ≡ node.children = ap links_of there in rw links has);
}

swept-stands : (old new : GraphState) → IsSwept old new → (draft : Draft) → StandsFor old draft → StandsFor new draft
swept-stands old new swept draft s =
    subst (λ (graph : GraphState). StandsFor graph draft) (sym swept.rest) (stands-fewer (IsReached old) old new.nodes (leaves-reached old new swept) draft s)

module _ (old new : GraphState) (swept : IsSwept old new) where
  links-same : (key : ℕ) → IsReached old key → links_in new key ≡ links_in old key
  links-same key reached = ap links_of (swept.kept key reached)

  unfolds-same : (levels : ℕ) (keys : List ℕ) → ((key : ℕ) → Contains keys key → IsReached old key)
      → unfolded (links_in new) levels keys ≡ unfolded (links_in old) levels keys
  unfolding unfolded
  unfolds-same zero keys reached = refl
  unfolds-same (suc levels) [] reached = refl
  unfolds-same (suc levels) (key ∷ keys) reached =
      let first : IsReached old key = reached key (0, omega arith, refl) in
      let below : unfolded (links_in new) levels (links_in new key) ≡ unfolded (links_in old) levels (links_in old key) =
      ap (unfolded (links_in new) levels) (links-same key first)
      ∙ unfolds-same levels (links_in old key) (λ child has. reached-child old key child first has) in
      let after : unfolded (links_in new) (suc levels) keys ≡ unfolded (links_in old) (suc levels) keys =
      unfolds-same (suc levels) keys (λ k has. reached k (suc has.0, omega (arith, has.1), has.2)) in
      ap (λ (forest : Forest). tree key forest (unfolded (links_in new) (suc levels) keys)) below
      ∙ ap (λ (forest : Forest). tree key (unfolded (links_in old) levels (links_in old key)) forest) after

  root-reached : (key : ℕ) → Contains (option_to_list old.root) key → IsReached old key
  root-reached key has = reached-start old key (inl (listed-root old.root key has))

  tree-same : graph_tree new ≡ graph_tree old
  tree-same =
      ap (λ (root : Option ℕ). unfolded (links_in new) (suc PATH_NODES_MAX) (option_to_list root)) (ap (λ (graph : GraphState). graph.root) swept.rest)
      ∙ unfolds-same (suc PATH_NODES_MAX) (option_to_list old.root) root-reached

pub swept_stands : SweptStands
swept_stands old new swept = record {
  stands = swept-stands old new swept;
  tree = tree-same old new swept;
  unfolds = λ levels key reached. unfolds-same old new swept levels (key ∷ []) (only key reached);
}
  where
    only : (key : ℕ) → IsReached old key → (k : ℕ) → Contains (key ∷ []) k → IsReached old k
    only key reached k (zero, low, same) = subst (IsReached old) same reached
    only key reached k (suc i, low, same) = absurd (omega (arith, low))
