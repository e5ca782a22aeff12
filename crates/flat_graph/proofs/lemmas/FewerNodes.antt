-- What is left where nodes are dropped to which nothing leads: it is sound, and stands for the draft.
use Rattle.std.proofs.Common.{ℕ, zero, suc, ◌≡◌, refl, sym, ◌∙◌, ap, Bool, true, false, cond, List, [], ◌∷◌, map, Option, Some, None, IsSome, slice_index_or}
use Rattle.std.proofs.Common.{arith}
use Rattle.std.specs.Option.{option_map}
use Rattle.std.specs.List.{Contains}
use Rattle.flat_scene.specs.Draft.{Draft}
use Rattle.flat_graph.specs.declared.nodes.GraphNode.{GraphNode}
use Rattle.flat_graph.specs.Names.{key_named}
use Rattle.flat_graph.specs.State.{GraphState, IsKept, IsMarked, IsSound, MayKeep, marked_nodes, node_at}
use Rattle.flat_graph.specs.Stands.{StandsFor, as_transform, node_serial, serial_at}

-- ---- functions that agree

pub option_map-same : {A B : Type 0} (f g : A → B) (x : Option A) → ((a : A) → x ≡ Some a → f a ≡ g a) → option_map f x ≡ option_map g x
option_map-same f g None same = refl
option_map-same f g (Some a) same = ap Some (same a refl)

pub map-same : (f g : ℕ → ℕ) (xs : List ℕ) → ((x : ℕ) → Contains xs x → f x ≡ g x) → map f xs ≡ map g xs
map-same f g [] same = refl
map-same f g (x ∷ xs) same = rw (same x (0, omega arith, refl), map-same f g xs (λ y has. same y (suc has.0, omega (arith, has.1), has.2))) refl

-- two graphs in which the children of a node have the same serials
pub transform-same : (old new : GraphState) (node : GraphNode) → ((child : ℕ) → Contains node.children child → serial_at new child ≡ serial_at old child)
    → as_transform new node ≡ as_transform old node
transform-same old new node same = ap (λ (children : List ℕ). record (as_transform old node) { children = children })
    (map-same (serial_at new) (serial_at old) node.children same)

-- ---- nodes dropped

-- The nodes of some keys are left: the root, what is named, and each child of such a key are among these keys.
pub record Leaves (P : ℕ → Type 0) (graph : GraphState) (nodes : List (Option GraphNode)) : Type 0 where
  pub kept : (key : ℕ) → P key → slice_index_or nodes key None ≡ node_at graph key
  pub no_other : (key : ℕ) → IsKept nodes key → P key
  pub root : (key : ℕ) → graph.root ≡ Some key → P key
  pub names : (id key : ℕ) → key_named graph.names id ≡ Some key → P key
  pub children : (key : ℕ) (node : GraphNode) → node_at graph key ≡ Some node → P key → (child : ℕ) → Contains node.children child → P child

module _ (P : ℕ → Type 0) (graph : GraphState) (nodes : List (Option GraphNode)) (leaves : Leaves P graph nodes) where
  -- a node that is left was there
  was-there : (key : ℕ) (node : GraphNode) → slice_index_or nodes key None ≡ Some node → P key × (node_at graph key ≡ Some node)
  was-there key node there = let among : P key = leaves.no_other key (rw there refl) in (among, sym (leaves.kept key among) ∙ there)

  still : (key : ℕ) → P key → IsKept graph.nodes key → IsKept nodes key
  still key among kept = rw (leaves.kept key among) kept

  pub sound-fewer : IsSound graph → IsSound (record graph { nodes = nodes })
  sound-fewer sound = record {
    names_kept = λ id key h. still key (leaves.names id key h) (sound.names_kept id key h);
    root_kept = λ key h. still key (leaves.root key h) (sound.root_kept key h);
    children_kept = λ key node h child has.
        let was = was-there key node h in
        still child (leaves.children key node was.1 was.0 child has) (sound.children_kept key node was.1 child has);
    rising = sound.rising;
    no_zero = sound.no_zero;
    apart = sound.apart;
  }

  serial-same : (key : ℕ) → P key → serial_at (record graph { nodes = nodes }) key ≡ serial_at graph key
  serial-same key among = ap node_serial (leaves.kept key among)

  pub stands-fewer : (draft : Draft) → StandsFor graph draft → StandsFor (record graph { nodes = nodes }) draft
  stands-fewer draft s = record {
    sound = sound-fewer s.sound;
    made = s.made;
    names = λ id. option_map-same (serial_at (record graph { nodes = nodes })) (serial_at graph) (key_named graph.names id)
        (λ key e. serial-same key (leaves.names id key e)) ∙ s.names id;
    count = s.count;
    once = s.once;
    root = option_map-same (serial_at (record graph { nodes = nodes })) (serial_at graph) graph.root (λ key e. serial-same key (leaves.root key e)) ∙ s.root;
    nodes = λ key node e.
        let was = was-there key node e in
        s.nodes key node was.1
        ∙ ap Some (sym (transform-same graph (record graph { nodes = nodes }) node
        (λ child has. serial-same child (leaves.children key node was.1 was.0 child has))));
    apart = λ key other node node' e e'. s.apart key other node node' (was-there key node e).1 (was-there other node' e').1;
    contents = λ key node held e. s.contents key node held (was-there key node e).1;
  }

-- ---- marked nodes

-- where a key is marked, its node is there as before; where not, there is none
pub node-marked : (marks : List Bool) (nodes : List (Option GraphNode)) (k : ℕ)
    → slice_index_or (marked_nodes marks nodes) k None ≡ cond (slice_index_or marks k false) (slice_index_or nodes k None) None
node-marked [] [] k = refl
node-marked (mark ∷ marks) [] k = by_mark (slice_index_or (mark ∷ marks) k false)
  where
    by_mark : (b : Bool) → ◌≡◌ {A = Option GraphNode} None (cond b None None)
    by_mark true = refl
    by_mark false = refl
node-marked [] (slot ∷ slots) zero = refl
node-marked [] (slot ∷ slots) (suc k) = node-marked [] slots k
node-marked (mark ∷ marks) (slot ∷ slots) zero = refl
node-marked (mark ∷ marks) (slot ∷ slots) (suc k) = node-marked marks slots k

both-there : (b : Bool) (slot : Option GraphNode) → IsSome (cond b slot None) → (b ≡ true) × IsSome slot
both-there true slot kept = (refl, kept)
both-there false slot kept = absurd (cc)

-- what is left is marked, and was there
pub kept-marked : (marks : List Bool) (nodes : List (Option GraphNode)) (k : ℕ) → IsKept (marked_nodes marks nodes) k → IsMarked marks k × IsKept nodes k
kept-marked marks nodes k kept = both-there (slice_index_or marks k false) (slice_index_or nodes k None) (rw (node-marked marks nodes k) at kept)

-- the marked nodes are left
pub leaves-marked : (graph : GraphState) (marks : List Bool) → MayKeep marks graph → Leaves (IsMarked marks) graph (marked_nodes marks graph.nodes)
leaves-marked graph marks may = record {
  kept = λ key marked. node-marked marks graph.nodes key ∙ ap (λ (b : Bool). cond b (slice_index_or graph.nodes key None) None) marked;
  no_other = λ key kept. (kept-marked marks graph.nodes key kept).0;
  root = may.root_marked;
  names = may.names_marked;
  children = may.children_marked;
}
