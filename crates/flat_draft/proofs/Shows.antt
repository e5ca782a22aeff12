-- What the parts show is the draft's tree.
use Rattle.std.proofs.Common.{ℕ, zero, suc, ◌≤◌, ◌≡◌, refl, sym, ◌∙◌, ap, subst, Bool, true, false, List, [], ◌∷◌, map, length, Option, Some, None, IsSome}
use Rattle.std.proofs.Common.{arith}
use Rattle.std.specs.Prelude.{option_to_list, nat_lt, ◌||◌, cond, is_none}
use Rattle.std.specs.Option.{option_map}
use Rattle.std.proofs.lemmas.Bool.Decides.{nat_tests}
use Rattle.flat_base.specs.declared.limits.TheConstants.{TREE_NODES_MAX, PATH_NODES_MAX, FENCES_PER_LIST_MAX}
use Rattle.flat_base.specs.declared.errors.Reason.{Reason}
use Rattle.flat_base.specs.declared.errors.Reason.TheVariants.{TooManyFences}
use Rattle.flat_scene.specs.declared.calls.PresentArgs.{PresentArgs}
use Rattle.flat_scene.specs.Misuse.{first_reason}
use Rattle.flat_scene.specs.declared.setup.Setup.{Setup}
use Rattle.flat_scene.specs.declared.trees.Children.{Children}
use Rattle.flat_scene.specs.Draft.{Draft, of_serial}
use Rattle.flat_scene.specs.Tree.{all_nodes, each, node, node_within, present_tests, tree, tree_tests}
use Rattle.flat_scene.specs.Tree as scene
use Rattle.flat_scene.specs.Trees.{more}
use Rattle.flat_graph.specs.declared.nodes.GraphNode.{GraphNode}
use Rattle.flat_graph.specs.Reasons.{links_in}
use Rattle.flat_graph.specs.Stands.{as_transform, node_serial, serial_at}
use Rattle.flat_graph.specs.Stands as graph_stands
use Rattle.flat_graph.specs.State.{GraphState, IsKept, node_at}
use Rattle.flat_collect.specs.Forest.{height, size, unfolded}
use Rattle.flat_collect.specs.Judge.{HasTree, graph_tree}
use Rattle.flat_collect.specs.Sweep.{IsSwept}
use Rattle.flat_collect.specs.Walking.{below}
use Rattle.flat_collect.proofs.lemmas.Stands.{Each, each-contained}
use Rattle.flat_collect.proofs.lemmas.Swept.{swept_stands}
use Rattle.flat_collect.proofs.lemmas.Walking.{below-first}
use Rattle.flat_content.specs.Stands as content_stands
use Rattle.flat_content.specs.Table.{TableState}
use Rattle.flat_content.proofs.lemmas.Standing.{content_calls_stand}
use Rattle.flat_snap.specs.Building.{with_children}
use Rattle.flat_draft.specs.Shown.{HasRoom, all_shown, leaf, shown_nodes, shown_tree}
use Rattle.flat_draft.specs.Stands.{StandsFor}
use Rattle.flat_draft.specs.State.{DraftState}
use Rattle.flat_draft.proofs.Applying.{first-of-more, first-of-rest}
use Rattle.flat_draft.proofs.Laying.{shown-none, shown-more}

-- a graph with a tree has room for it
pub tree-room : (graph : GraphState) (nodes : ℕ) → HasTree graph → nodes ≡ size (graph_tree graph) → HasRoom (graph_tree graph) PATH_NODES_MAX nodes
tree-room graph nodes has counted = record {
  short = by_test (nat_lt TREE_NODES_MAX (size (graph_tree graph)))
      (nat_lt PATH_NODES_MAX (height (graph_tree graph))) refl has.small;
  small = omega (arith, counted);
}
  where
    by_test : (b c : Bool) → c ≡ nat_lt PATH_NODES_MAX (height (graph_tree graph)) → b || c ≡ false → height (graph_tree graph) ≤ PATH_NODES_MAX
    by_test true c e none = absurd (cc)
    by_test false true e none = absurd (cc)
    by_test false false e none = grind (arith, nat_tests)

module _ (setup : Setup) (graph : GraphState) (table : TableState) (draft : Draft) (g : graph_stands.StandsFor graph draft)
    (t : content_stands.StandsFor setup table draft) where
  -- the node of a transform
  node-same : (is_root : Bool) (key : ℕ) (n : GraphNode) (children : Children) → node_at graph key ≡ Some n
      → node draft is_root (serial_at graph key) (as_transform graph n) children ≡ with_children (leaf table is_root n) children
  node-same is_root key n children e =
      let serial : serial_at graph key ≡ n.serial = ap node_serial e in
      rw (serial, ← (content_calls_stand setup table draft t).shown (option_map graph_stands.serial_of n.content)) refl

  -- the draft's nodes are those shown, where no path is cut off
  pub shown-stands : (levels : ℕ) (is_root : Bool) (keys : List ℕ) → Each (IsKept graph.nodes) keys → height (below (links_in graph) levels keys) ≤ levels
      → each (node_within levels draft is_root) (map (serial_at graph) keys) ≡ Some (shown_nodes graph table levels is_root keys)
  shown-stands levels is_root [] kept short = ap Some (sym (shown-none graph table levels is_root))
  shown-stands zero is_root (key ∷ keys) kept short = absurd (let deep = rw (below-first (links_in graph) zero key keys) at short in omega (arith, deep))
  shown-stands (suc levels) is_root (key ∷ keys) kept short =
      let room = rw (below-first (links_in graph) (suc levels) key keys) at short in
      by_node (node_at graph key) refl kept.0 (shown-stands (suc levels) is_root keys kept.1 (omega (arith, room)))
      (λ ks kept low. shown-stands levels false ks kept low) (omega (arith, room))
    where
      by_node : (x : Option GraphNode) → node_at graph key ≡ x → IsSome x
          → each (node_within (suc levels) draft is_root) (map (serial_at graph) keys) ≡ Some (shown_nodes graph table (suc levels) is_root keys)
          → ((ks : List ℕ) → Each (IsKept graph.nodes) ks → height (below (links_in graph) levels ks) ≤ levels
          → each (node_within levels draft false) (map (serial_at graph) ks) ≡ Some (shown_nodes graph table levels false ks))
          → height (unfolded (links_in graph) (suc levels) (links_in graph key)) ≤ levels
          → each (node_within (suc levels) draft is_root) (map (serial_at graph) (key ∷ keys))
          ≡ Some (shown_nodes graph table (suc levels) is_root (key ∷ keys))
      by_node None e some rest lower low = absurd (cc)
      by_node (Some n) e some rest lower low =
          let links : links_in graph key ≡ n.children = rw e refl in
          let serial : serial_at graph key ≡ n.serial = ap node_serial e in
          let there : of_serial draft.transforms (serial_at graph key) ≡ Some (as_transform graph n) =
          ap (of_serial draft.transforms) serial ∙ g.nodes key n e in
          let low' : height (below (links_in graph) levels n.children) ≤ levels = rw links at low in
          let first = lower n.children (each-contained (IsKept graph.nodes) n.children (g.sound.children_kept key n e)) low' in
          rw (there, first, rest, shown-more graph table levels is_root key keys n e)
          (ap (λ m. Some (more m (shown_nodes graph table (suc levels) is_root keys)))
          (node-same is_root key n (shown_nodes graph table levels false n.children) e))

  start-kept : (root : Option ℕ) → graph.root ≡ root → Each (IsKept graph.nodes) (option_to_list root)
  start-kept None e = tt
  start-kept (Some key) e = (g.sound.root_kept key e, tt)

  start-map : (root : Option ℕ) → map (serial_at graph) (option_to_list root) ≡ option_to_list (option_map (serial_at graph) root)
  start-map None = refl
  start-map (Some key) = refl

  all-stands : HasTree graph → all_nodes draft ≡ Some (all_shown graph table)
  all-stands has =
      subst (λ (serials : List ℕ). each (node_within PATH_NODES_MAX draft true) serials ≡ Some (all_shown graph table))
      (start-map graph.root ∙ ap (option_to_list {X = ℕ}) g.root)
      (shown-stands PATH_NODES_MAX true (option_to_list graph.root) (start-kept graph.root refl) (tree-room graph (size (graph_tree graph)) has refl).short)

  unfolded-stands : HasTree graph → scene.unfolded draft ≡ Some (shown_tree draft.view graph table)
  unfolded-stands has = rw (all-stands has, (content_calls_stand setup table draft t).uses) refl

  pub tree-stands : HasTree graph → first_reason (tree_tests draft) ≡ None → tree draft ≡ Some (shown_tree draft.view graph table)
  tree-stands has none = ap (λ (reason : Option Reason). cond (is_none reason) (scene.unfolded draft) None) none ∙ unfolded-stands has

-- one of the two lists has too many fences
abbrev pub many : PresentArgs → Bool
many args = nat_lt FENCES_PER_LIST_MAX (length args.acquire) || nat_lt FENCES_PER_LIST_MAX (length args.release)

-- the reasons of a present: those of the tree, and then that of the fences
pub tree-refuses : (draft : Draft) (args : PresentArgs) (reason : Reason) → first_reason (tree_tests draft) ≡ Some reason
    → first_reason (present_tests draft args) ≡ Some reason
tree-refuses draft args reason e = first-of-more (tree_tests draft) ((many args, TooManyFences) ∷ []) reason e

fences-decide : (draft : Draft) (args : PresentArgs) (b : Bool) → first_reason (tree_tests draft) ≡ None → many args ≡ b
    → first_reason (present_tests draft args) ≡ first_reason ((b, TooManyFences) ∷ [])
fences-decide draft args b e is = first-of-rest (tree_tests draft) ((many args, TooManyFences) ∷ []) e
    ∙ ap (λ (c : Bool). first_reason ((c, TooManyFences) ∷ [])) is

pub fences-refuse : (draft : Draft) (args : PresentArgs) → first_reason (tree_tests draft) ≡ None → many args ≡ true
    → first_reason (present_tests draft args) ≡ Some TooManyFences
fences-refuse draft args e is = fences-decide draft args true e is

pub fences-allow : (draft : Draft) (args : PresentArgs) → first_reason (tree_tests draft) ≡ None → many args ≡ false
    → first_reason (present_tests draft args) ≡ None
fences-allow draft args e is = fences-decide draft args false e is

-- a sweep leaves what the state stands for
pub stands-swept : (setup : Setup) (old new : DraftState) (draft : Draft) → IsSwept old.graph new.graph → new ≡ record old { graph = new.graph }
    → StandsFor setup old draft → StandsFor setup new draft
stands-swept setup old new draft swept rest s =
    subst (λ (state : DraftState). StandsFor setup state draft) (sym rest)
    (record { graph = (swept_stands old.graph new.graph swept).stands draft s.graph; contents = s.contents; view = s.view })
