-- What a sweep leaves.
use Rattle.std.proofs.Common.{ℕ, ◌≡◌, inl, inr, refl, sym, ◌∙◌, ap, subst, List, length, Some}
use Rattle.std.specs.Prelude.{is_some, count_by}
use Rattle.std.specs.List.{Contains}
use Rattle.std.proofs.lemmas.List.{length-map}
use Rattle.flat_graph.specs.declared.names.NamedNode.{NamedNode}
use Rattle.flat_graph.specs.declared.nodes.GraphNode.{GraphNode}
use Rattle.flat_graph.specs.Reasons.{links_in, links_of}
use Rattle.flat_graph.specs.State.{GraphState, IsKept, IsMarked, IsSound, MayKeep, marked_nodes, node_at, only_marked}
use Rattle.flat_graph.proofs.lemmas.FewerNodes.{Leaves, leaves-marked}
use Rattle.flat_collect.specs.declared.reached_nodes.ReachedNodes.{ReachedNodes}
use Rattle.flat_collect.specs.Marking.{AreReached}
use Rattle.flat_collect.specs.Sweep.{IsReached, IsSwept}
use Rattle.flat_collect.proofs.Counting.{all-listed, keys_of, listed-named, names-once}
use Rattle.flat_collect.proofs.Finding.{reached-child, reached-kept, reached-start}

module _ (graph : GraphState) where
  swept-same : ((key : ℕ) → IsKept graph.nodes key → IsReached graph key) → IsSwept graph graph
  swept-same all = record { kept = λ key reached. refl; no_other = all; rest = refl }

  -- there are as many nodes as names
  pub swept-named : IsSound graph → length graph.names ≡ count_by is_some graph.nodes → IsSwept graph graph
  swept-named sound many = swept-same (λ key kept. reached-start graph key (inr (listed-named graph.names sound.rising key (listed key kept))))
    where
      all-kept : (key : ℕ) → Contains (keys_of graph.names) key → IsKept graph.nodes key
      all-kept key has = let named = listed-named graph.names sound.rising key has in sound.names_kept named.0 key named.1

      listed : (key : ℕ) → IsKept graph.nodes key → Contains (keys_of graph.names) key
      listed = all-listed (keys_of graph.names) graph.nodes (names-once graph.names sound.rising sound.apart) all-kept
          (length-map graph.names (λ (name : NamedNode). name.key) ∙ many)

  module _ (found : ReachedNodes) (all : AreReached graph found) where
    -- there are as many nodes as keys that are found
    pub swept-found : IsSound graph → length found.keys.items ≡ count_by is_some graph.nodes → IsSwept graph graph
    swept-found sound many = swept-same (λ key kept. reached key
        (all-listed found.keys.items graph.nodes all.listed.once (λ k has. reached-kept graph k sound (reached k has)) many key kept))
      where
        reached : (key : ℕ) → Contains found.keys.items key → IsReached graph key
        reached key has = all.reached key (all.listed.marked key has)

    pub may-keep : MayKeep found.marks.items graph
    may-keep = record {
      covers = all.covers;
      root_marked = λ key root. all.marked key (reached-start graph key (inl root));
      names_marked = λ id key named. all.marked key (reached-start graph key (inr (id, named)));
      children_marked = λ key node there marked child has. all.marked child
          (reached-child graph key child (all.reached key marked) (linked key node there child has));
    }
      where
        linked : (key : ℕ) (node : GraphNode) → node_at graph key ≡ Some node → (child : ℕ) → Contains node.children child → Contains (links_in graph key) child
        linked key node there child has = subst (λ (keys : List ℕ). Contains keys child) (sym (ap links_of there)) has

    -- the nodes are left that are found
    pub swept-kept : IsSwept graph (only_marked found.marks.items graph)
    swept-kept =
        let leaves : Leaves (IsMarked found.marks.items) graph (marked_nodes found.marks.items graph.nodes) = leaves-marked graph found.marks.items may-keep in
        record {
          kept = λ key reached. leaves.kept key (all.marked key reached);
          no_other = λ key kept. all.reached key (leaves.no_other key kept);
          rest = refl;
        }
