-- The verdict on a graph is the draft's.
use Rattle.std.proofs.Common.{ℕ, ◌≡◌, refl, sym, ◌∙◌, ap, subst, Bool, true, false, ◌||◌, List, [], ◌∷◌, map, Option, Some, None, arith}
use Rattle.std.specs.Prelude.{nat_lt, option_to_list}
use Rattle.std.specs.Option.{option_map}
use Rattle.std.proofs.lemmas.Bool.Decides.{nat_tests}
use Rattle.flat_base.specs.declared.errors.Reason.{Reason}
use Rattle.flat_base.specs.declared.errors.Reason.TheVariants.{ZeroId, IdInUse, UnknownTransform, UnknownContent, WrongContent, AlreadyChild, NotChild}
use Rattle.flat_base.specs.declared.errors.Reason.TheVariants.{BadScale, BadOpacity, BadRect, BadSize, BadBuffer, TooManyRegions, HasView, NoView, TokenNotHeld}
use Rattle.flat_base.specs.declared.errors.Reason.TheVariants.{Cycle, TreeTooLarge, ViewportTwice, TooManyNamed, TooManyChildren, TooManyFences}
use Rattle.flat_base.specs.declared.limits.TheConstants.{TREE_NODES_MAX, PATH_NODES_MAX}
use Rattle.flat_scene.specs.declared.trees.Children.{Children}
use Rattle.flat_scene.specs.Cycles.{HasCycle}
use Rattle.flat_scene.specs.Draft.{Draft}
use Rattle.flat_scene.specs.Misuse.{first_reason, has_twice}
use Rattle.flat_scene.specs.Tree as scene
use Rattle.flat_scene.specs.Tree.{tree_tests, all_nodes, is_cyclic, children_at, each, node_within}
use Rattle.flat_scene.proofs.lemmas.CycleLemmas.{cycle-is-reached}
use Rattle.flat_graph.specs.State.{GraphState, IsKept}
use Rattle.flat_graph.specs.Stands.{StandsFor, serial_at}
use Rattle.flat_collect.specs.declared.TreeCheck.TheVariants.{Good, Bad}
use Rattle.flat_collect.specs.Forest.{Forest, size, height, held}
use Rattle.flat_collect.specs.Judge.{IsCyclic, is_too_large, shows_twice, graph_tree, viewport_in, HasFault, HasTree}
use Rattle.flat_collect.specs.Laws.{VerdictStands, Presents}
use Rattle.flat_collect.proofs.lemmas.Stands.{Each, Agrees, nodes-agree, cycle-up, cycle-down}

-- what a forest says of the nodes with which it agrees
large-same : (viewport : ℕ → Option ℕ) (forest : Forest) (all : Option Children) → Agrees viewport forest PATH_NODES_MAX all
    → scene.is_too_large all ≡ is_too_large forest
large-same viewport forest None agrees = by_test (nat_lt TREE_NODES_MAX (size forest)) (nat_lt PATH_NODES_MAX (height forest)) (grind (arith, nat_tests))
  where
    by_test : (b c : Bool) → c ≡ true → true ≡ b || c
    by_test true c e = refl
    by_test false c e = sym e
large-same viewport forest (Some all) agrees =
    ap (nat_lt TREE_NODES_MAX) agrees.0 ∙ by_test (nat_lt TREE_NODES_MAX (size forest)) (nat_lt PATH_NODES_MAX (height forest))
    (grind (arith, nat_tests, agrees.2))
  where
    by_test : (b c : Bool) → c ≡ false → b ≡ b || c
    by_test true c e = refl
    by_test false c e = sym e

twice-same : (viewport : ℕ → Option ℕ) (forest : Forest) (all : Option Children) → Agrees viewport forest PATH_NODES_MAX all → is_too_large forest ≡ false
    → scene.shows_twice all ≡ has_twice (held viewport forest)
twice-same viewport forest None agrees small = absurd (let no : true ≡ false = large-same viewport forest None agrees ∙ small in cc)
twice-same viewport forest (Some all) agrees small = ap has_twice agrees.1

module _ (graph : GraphState) (draft : Draft) (s : StandsFor graph draft) where
  start-each : (root : Option ℕ) → graph.root ≡ root → Each (IsKept graph.nodes) (option_to_list root)
  start-each None e = tt
  start-each (Some key) e = (s.sound.root_kept key e, tt)

  start-map : (root : Option ℕ) → map (serial_at graph) (option_to_list root) ≡ option_to_list (option_map (serial_at graph) root)
  start-map None = refl
  start-map (Some key) = refl

  agrees : Agrees (viewport_in graph) (graph_tree graph) PATH_NODES_MAX (all_nodes draft)
  agrees =
      subst (λ (serials : List ℕ). Agrees (viewport_in graph) (graph_tree graph) PATH_NODES_MAX (each (node_within PATH_NODES_MAX draft true) serials))
      (start-map graph.root ∙ ap (option_to_list {X = ℕ}) s.root)
      (nodes-agree graph draft s PATH_NODES_MAX true (option_to_list graph.root) (start-each graph.root refl))

  cyclic-up : IsCyclic graph → is_cyclic draft ≡ true
  cyclic-up (root, e, cycle) =
      (cycle-is-reached draft).1 (
        serial_at graph root,
        sym s.root
            ∙ ap (option_map (serial_at graph)) e,
        cycle-up graph draft s root (s.sound.root_kept root e) cycle,
      )

  cyclic-down : is_cyclic draft ≡ true → IsCyclic graph
  cyclic-down e = by_root graph.root refl ((cycle-is-reached draft).0 e)
    where
      by_root : (x : Option ℕ) → graph.root ≡ x → (root : ℕ) × (draft.root ≡ Some root) × HasCycle (children_at draft) root → IsCyclic graph
      by_root None f (root, is, cycle) = absurd (let no : ◌≡◌ {A = Option ℕ} None (Some root) = sym (sym s.root ∙ ap (option_map (serial_at graph)) f) ∙ is in
          cc)
      by_root (Some key) f (root, is, cycle) =
          let both : Some (serial_at graph key) ≡ Some root = sym (sym s.root ∙ ap (option_map (serial_at graph)) f) ∙ is in
          let same : root ≡ serial_at graph key = cc in
          (key, f, cycle-down graph draft s key (s.sound.root_kept key f) (subst (λ (n : ℕ). HasCycle (children_at draft) n) same cycle))

  acyclic : ¬ IsCyclic graph → is_cyclic draft ≡ false
  acyclic none = by_test (is_cyclic draft) refl
    where
      by_test : (b : Bool) → is_cyclic draft ≡ b → is_cyclic draft ≡ false
      by_test true e = absurd (none (cyclic-down e))
      by_test false e = e

  large : scene.is_too_large (all_nodes draft) ≡ is_too_large (graph_tree graph)
  large = large-same (viewport_in graph) (graph_tree graph) (all_nodes draft) agrees

  twice : is_too_large (graph_tree graph) ≡ false → scene.shows_twice (all_nodes draft) ≡ shows_twice graph
  twice = twice-same (viewport_in graph) (graph_tree graph) (all_nodes draft) agrees

  -- the reason, by the three tests
  reason-of : (a b c : Bool) → is_cyclic draft ≡ a → scene.is_too_large (all_nodes draft) ≡ b → scene.shows_twice (all_nodes draft) ≡ c
      → first_reason (tree_tests draft) ≡ first_reason ((a, Cycle) ∷ (b, TreeTooLarge) ∷ (c, ViewportTwice) ∷ [])
  reason-of a b c e f g = rw (e, f, g) refl

  presents : (nodes : ℕ) → HasTree graph → nodes ≡ size (graph_tree graph) → Presents draft nodes
  presents nodes has counted = by_all (all_nodes draft) refl agrees
    where
      by_all : (x : Option Children) → all_nodes draft ≡ x → Agrees (viewport_in graph) (graph_tree graph) PATH_NODES_MAX x → Presents draft nodes
      by_all None e a = absurd (let no : true ≡ false = large-same (viewport_in graph) (graph_tree graph) None a ∙ has.small in cc)
      by_all (Some all) e a = record {
        no_reason = reason-of false false false (acyclic has.acyclic) (large ∙ has.small) (twice has.small ∙ has.once);
        all = all;
        is_all = e;
        counted = a.0 ∙ sym counted;
      }

  fault : (reason : Reason) → HasFault graph reason → first_reason (tree_tests draft) ≡ Some reason
  fault Cycle cyclic = reason-of true (scene.is_too_large (all_nodes draft)) (scene.shows_twice (all_nodes draft)) (cyclic-up cyclic) refl refl
  fault TreeTooLarge has = reason-of false true (scene.shows_twice (all_nodes draft)) (acyclic has.0) (large ∙ has.1) refl
  fault ViewportTwice has = reason-of false false true (acyclic has.0) (large ∙ has.1) (twice has.1 ∙ has.2)
  fault ZeroId none = absurd none
  fault IdInUse none = absurd none
  fault UnknownTransform none = absurd none
  fault UnknownContent none = absurd none
  fault WrongContent none = absurd none
  fault AlreadyChild none = absurd none
  fault NotChild none = absurd none
  fault BadScale none = absurd none
  fault BadOpacity none = absurd none
  fault BadRect none = absurd none
  fault BadSize none = absurd none
  fault BadBuffer none = absurd none
  fault TooManyRegions none = absurd none
  fault HasView none = absurd none
  fault NoView none = absurd none
  fault TokenNotHeld none = absurd none
  fault TooManyNamed none = absurd none
  fault TooManyChildren none = absurd none
  fault TooManyFences none = absurd none

pub verdict_stands : VerdictStands
verdict_stands graph draft (Good nodes) s judged = presents graph draft s nodes judged.0 judged.1
verdict_stands graph draft (Bad reason) s judged = fault graph draft s reason judged
