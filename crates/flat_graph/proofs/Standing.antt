-- Each call keeps what a graph stands for.
use Rattle.std.proofs.Common.{ℕ, suc, ◌≡◌, ◌≢◌, ◌⊎◌, inl, inr, refl, sym, ◌∙◌, ap, subst, Bool, true, false, cond, not, List, [], ◌∷◌, ◌++◌, filter, map}
use Rattle.std.proofs.Common.{Option, Some, None, slice_index_or, arith}
use Rattle.std.specs.Prelude.{◌==◌}
use Rattle.std.specs.Option.{option_map}
use Rattle.std.specs.List.{Contains, cons_option}
use Rattle.std.proofs.lemmas.List.{map-append, get_or-set_same, get_or-set_other}
use Rattle.std.proofs.lemmas.Bool.Decides.{eqb_tells, nat_tests}
use Rattle.flat_base.specs.declared.ids.TransformId.{TransformId}
use Rattle.flat_scene.specs.declared.trees.HeldContent.{HeldContent}
use Rattle.flat_scene.specs.Draft.{Draft, Transform, of_serial, changed_at}
use Rattle.flat_scene.specs.Effect as effect
use Rattle.flat_scene.specs.Effect.{with_transform, changed_if, is_serial, serials_of}
use Rattle.flat_graph.specs.declared.nodes.GraphNode.{GraphNode}
use Rattle.flat_graph.specs.Names.{key_named, keys_named}
use Rattle.flat_graph.specs.State.{GraphState, IsKept, node_at, with_node, changed_node, change_at, change_named, with_child, without_child}
use Rattle.flat_graph.specs.Stands.{StandsFor, IsHeld, serial_at, node_serial, as_transform}
use Rattle.flat_graph.proofs.lemmas.DraftNames.{changed-length, changed-same, changed-other}
use Rattle.flat_graph.proofs.lemmas.FewerNodes.{option_map-same, transform-same}
use Rattle.flat_graph.proofs.Soundness.{KeyCases, sound-changed, node-changed, in_list}

-- ---- a change of one node

-- what a change of a node and the change of its transform have in common
pub record Changes (graph : GraphState) (draft : Draft) (old new : GraphNode) (f : Transform → Transform) : Type 0 where
  pub serial : new.serial ≡ old.serial
  pub children : (child : ℕ) → Contains new.children child → IsKept graph.nodes child
  pub contents : (held : HeldContent) → new.content ≡ Some held → IsHeld draft.contents held
  pub same : f (as_transform graph old) ≡ as_transform graph new

serial-set : (graph : GraphState) (key : ℕ) (old new : GraphNode) → node_at graph key ≡ Some old → new.serial ≡ old.serial → (k : ℕ)
    → serial_at (with_node graph key new) k ≡ serial_at graph k
serial-set graph key old new there same k = by_key (eqb_tells k key)
  where
    by_key : KeyCases k key → serial_at (with_node graph key new) k ≡ serial_at graph k
    by_key (inl is) = rw (is.1, get_or-set_same graph.nodes key (Some new) None (in_list graph.nodes key old there), there) same
    by_key (inr apart) = ap node_serial (get_or-set_other graph.nodes key k (Some new) None apart.1)

pub stands-set : (graph : GraphState) (draft : Draft) (key : ℕ) (old new : GraphNode) (f : Transform → Transform) → StandsFor graph draft
    → node_at graph key ≡ Some old
    → Changes graph draft old new f → StandsFor (with_node graph key new) (record draft { transforms = changed_at old.serial f draft.transforms })
stands-set graph draft key old new f s there changes = record {
  sound = sound-changed graph key old new s.sound there changes.children;
  made = s.made ∙ sym (changed-length old.serial f draft.transforms);
  names = λ id. option_map-same (serial_at (with_node graph key new)) (serial_at graph) (key_named graph.names id) (λ k e. same k) ∙ s.names id;
  count = s.count;
  once = s.once;
  root = option_map-same (serial_at (with_node graph key new)) (serial_at graph) graph.root (λ k e. same k) ∙ s.root;
  nodes = λ k node e. by_node k node (now k node e);
  apart = λ k k' node node' e e'. by_two k k' node node' (now k node e) (now k' node' e');
  contents = λ k node held e. by_held k node held (now k node e);
}
  where
    same : (k : ℕ) → serial_at (with_node graph key new) k ≡ serial_at graph k
    same = serial-set graph key old new there changes.serial

    IsNow : ℕ → GraphNode → Type 0
    IsNow k node = ((k ≡ key) × (node ≡ new)) ⊎ ((k ≢ key) × (slice_index_or graph.nodes k None ≡ Some node))

    now : (k : ℕ) (node : GraphNode) → node_at (with_node graph key new) k ≡ Some node → IsNow k node
    now = node-changed graph.nodes key old new there

    by_node : (k : ℕ) (node : GraphNode) → IsNow k node → of_serial (changed_at old.serial f draft.transforms) node.serial
        ≡ Some (as_transform (with_node graph key new) node)
    by_node k node (inl is) =
        let serial : node.serial ≡ old.serial = ap (λ (n : GraphNode). n.serial) is.1 ∙ changes.serial in
        let changed : of_serial (changed_at old.serial f draft.transforms) old.serial ≡ Some (f (as_transform graph old)) =
        changed-same old.serial f draft.transforms (as_transform graph old) (s.nodes key old there) in
        ap (of_serial (changed_at old.serial f draft.transforms)) serial ∙ changed ∙ ap Some changes.same
        ∙ ap (λ (n : GraphNode). Some (as_transform graph n)) (sym is.1)
        ∙ ap Some (sym (transform-same graph (with_node graph key new) node (λ child has. same child)))
    by_node k node (inr was) =
        let apart : old.serial ≢ node.serial = λ e. was.0 (s.apart k key node old was.1 there (sym e)) in
        changed-other old.serial node.serial f draft.transforms apart ∙ s.nodes k node was.1
        ∙ ap Some (sym (transform-same graph (with_node graph key new) node (λ child has. same child)))

    by_two : (k k' : ℕ) (node node' : GraphNode) → IsNow k node → IsNow k' node' → node.serial ≡ node'.serial → k ≡ k'
    by_two k k' node node' (inl is) (inl is') e = is.0 ∙ sym is'.0
    by_two k k' node node' (inl is) (inr was) e = is.0 ∙ sym
        (s.apart k' key node' old was.1 there (sym e ∙ ap (λ (n : GraphNode). n.serial) is.1 ∙ changes.serial))
    by_two k k' node node' (inr was) (inl is) e = s.apart k key node old was.1 there (e ∙ ap (λ (n : GraphNode). n.serial) is.1 ∙ changes.serial) ∙ sym is.0
    by_two k k' node node' (inr was) (inr was') e = s.apart k k' node node' was.1 was'.1 e

    by_held : (k : ℕ) (node : GraphNode) (held : HeldContent) → IsNow k node → node.content ≡ Some held → IsHeld draft.contents held
    by_held k node held (inl is) e = changes.contents held (ap (λ (n : GraphNode). n.content) (sym is.1) ∙ e)
    by_held k node held (inr was) e = s.contents k node held was.1 e

-- the same of the node that an id names
pub stands-change : (graph : GraphState) (draft : Draft) (t : TransformId) (change : GraphNode → GraphNode) (f : Transform → Transform) → StandsFor graph draft
    → ((key : ℕ) (node : GraphNode) → key_named graph.names t.0 ≡ Some key → node_at graph key ≡ Some node → Changes graph draft node (change node) f)
    → StandsFor (change_named graph t.0 change) (with_transform draft t f)
stands-change graph draft t change f s changes =
    subst (λ (x : Option ℕ). StandsFor (change_named graph t.0 change) (record draft { transforms = changed_if x f draft.transforms })) (s.names t.0)
    (by_key (key_named graph.names t.0) refl)
  where
    by_node : (key : ℕ) → key_named graph.names t.0 ≡ Some key → (x : Option GraphNode) → node_at graph key ≡ x
        → StandsFor (changed_node graph key change x) (record draft { transforms = changed_at (node_serial x) f draft.transforms })
    by_node key e None none = absurd (let kept : IsKept graph.nodes key = s.sound.names_kept t.0 key e in
        let no : ◌≡◌ {A = Bool} false true = rw none at kept in cc)
    by_node key e (Some node) there = stands-set graph draft key node (change node) f s there (changes key node e there)

    by_key : (x : Option ℕ) → key_named graph.names t.0 ≡ x
        → StandsFor (change_at graph x change) (record draft { transforms = changed_if (option_map (serial_at graph) x) f draft.transforms })
    by_key None e = s
    by_key (Some key) e = by_node key e (node_at graph key) refl

-- a node that keeps its serial, its children and its content
pub stays : (graph : GraphState) (draft : Draft) (f : Transform → Transform) (key : ℕ) (node new : GraphNode) → StandsFor graph draft
    → node_at graph key ≡ Some node
    → new.serial ≡ node.serial → new.children ≡ node.children → new.content ≡ node.content → f (as_transform graph node) ≡ as_transform graph new
    → Changes graph draft node new f
stays graph draft f key node new s there serial children content same = record {
  serial = serial;
  children = λ child has. s.sound.children_kept key node there child (subst (λ (xs : List ℕ). Contains xs child) children has);
  contents = λ held e. s.contents key node held there (sym content ∙ e);
  same = same;
}

-- ---- children

-- two kept keys are one where their serials are
pub same-test : (graph : GraphState) (draft : Draft) → StandsFor graph draft → (x k : ℕ) → IsKept graph.nodes x → IsKept graph.nodes k
    → (serial_at graph x == serial_at graph k) ≡ (x == k)
same-test graph draft s x k kept kept' = by_nodes (node_at graph x) (node_at graph k) refl refl
  where
    by_tests : (node node' : GraphNode) → node_at graph x ≡ Some node → node_at graph k ≡ Some node' → (b c : Bool) → (node.serial == node'.serial) ≡ b
        → (x == k) ≡ c → b ≡ c
    by_tests node node' e e' true true f f' = refl
    by_tests node node' e e' true false f f' =
        let same : x ≡ k = s.apart x k node node' e e' (grind (arith, nat_tests)) in
        absurd (grind (arith, nat_tests))
    by_tests node node' e e' false true f f' =
        let same : x ≡ k = grind (arith, nat_tests) in
        let is : Some node ≡ Some node' = sym e ∙ ap (node_at graph) same ∙ e' in
        let one : node ≡ node' = cc in
        let no : node.serial ≡ node'.serial = ap (λ (n : GraphNode). n.serial) one in
        absurd (grind (arith, nat_tests))
    by_tests node node' e e' false false f f' = refl

    by_nodes : (a b : Option GraphNode) → node_at graph x ≡ a → node_at graph k ≡ b
        → (node_serial (node_at graph x) == node_serial (node_at graph k)) ≡ (x == k)
    by_nodes None b e e' = absurd (let no : ◌≡◌ {A = Bool} false true = rw e at kept in cc)
    by_nodes (Some node) None e e' = absurd (let no : ◌≡◌ {A = Bool} false true = rw e' at kept' in cc)
    by_nodes (Some node) (Some node') e e' = rw (e, e') (by_tests node node' e e' (node.serial == node'.serial) (x == k) refl refl)

no-more : (xs : List ℕ) → xs ++ [] ≡ xs
no-more [] = refl
no-more (x ∷ xs) = ap (λ (rest : List ℕ). x ∷ rest) (no-more xs)

pub as-with_child : (graph : GraphState) (node : GraphNode) (x : Option ℕ)
    → effect.with_child (option_map (serial_at graph) x) (as_transform graph node) ≡ as_transform graph (with_child x node)
as-with_child graph node None = ap (λ (children : List ℕ). record (as_transform graph node) { children = children })
    (no-more (map (serial_at graph) node.children))
as-with_child graph node (Some k) = ap (λ (children : List ℕ). record (as_transform graph node) { children = children })
    (sym (map-append (serial_at graph) node.children (k ∷ [])))

all-stay : (xs : List ℕ) → filter (λ (n : ℕ). not (is_serial None n)) xs ≡ xs
all-stay [] = refl
all-stay (x ∷ xs) = ap (λ (rest : List ℕ). x ∷ rest) (all-stay xs)

pub filter-serials : (graph : GraphState) (draft : Draft) → StandsFor graph draft → (k : ℕ) → IsKept graph.nodes k → (xs : List ℕ)
    → ((x : ℕ) → Contains xs x → IsKept graph.nodes x)
    → filter (λ n. not (is_serial (Some (serial_at graph k)) n)) (map (serial_at graph) xs) ≡ map (serial_at graph) (filter (λ other. not (other == k)) xs)
filter-serials graph draft s k kept [] all = refl
filter-serials graph draft s k kept (x ∷ xs) all =
    rw (same-test graph draft s x k (all x (0, omega arith, refl)) kept)
    (by_test (x == k) (filter-serials graph draft s k kept xs (λ y has. all y (suc has.0, omega (arith, has.1), has.2))))
  where
    by_test : (b : Bool) → filter (λ n. not (is_serial (Some (serial_at graph k)) n)) (map (serial_at graph) xs)
        ≡ map (serial_at graph) (filter (λ other. not (other == k)) xs)
        → cond (not b) (serial_at graph x ∷ filter (λ n. not (is_serial (Some (serial_at graph k)) n)) (map (serial_at graph) xs))
        (filter (λ n. not (is_serial (Some (serial_at graph k)) n)) (map (serial_at graph) xs))
        ≡ map (serial_at graph) (cond (not b) (x ∷ filter (λ other. not (other == k)) xs) (filter (λ other. not (other == k)) xs))
    by_test true more = more
    by_test false more = ap (λ (rest : List ℕ). serial_at graph x ∷ rest) more

pub as-without_child : (graph : GraphState) (draft : Draft) → StandsFor graph draft → (node : GraphNode)
    → ((x : ℕ) → Contains node.children x → IsKept graph.nodes x)
    → (x : Option ℕ) → ((k : ℕ) → x ≡ Some k → IsKept graph.nodes k)
    → effect.without_child (option_map (serial_at graph) x) (as_transform graph node) ≡ as_transform graph (without_child x node)
as-without_child graph draft s node all None kept = ap (λ (children : List ℕ). record (as_transform graph node) { children = children })
    (all-stay (map (serial_at graph) node.children))
as-without_child graph draft s node all (Some k) kept =
    ap (λ (children : List ℕ). record (as_transform graph node) { children = children }) (filter-serials graph draft s k (kept k refl) node.children all)

-- the serials of the keys that ids name are the serials that they name
pub serials-named : (graph : GraphState) (draft : Draft) → StandsFor graph draft → (ts : List TransformId)
    → serials_of draft ts ≡ map (serial_at graph) (keys_named graph.names ts)
serials-named graph draft s [] = refl
serials-named graph draft s (t ∷ ts) =
    ap (λ (x : Option ℕ). cons_option x (serials_of draft ts)) (sym (s.names t.0)) ∙ by_key (key_named graph.names t.0) (serials-named graph draft s ts)
  where
    by_key : (x : Option ℕ) → serials_of draft ts ≡ map (serial_at graph) (keys_named graph.names ts)
        → cons_option (option_map (serial_at graph) x) (serials_of draft ts) ≡ map (serial_at graph) (cons_option x (keys_named graph.names ts))
    by_key None more = more
    by_key (Some key) more = ap (λ (rest : List ℕ). serial_at graph key ∷ rest) more
