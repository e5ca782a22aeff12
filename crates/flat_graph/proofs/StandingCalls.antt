-- The calls that make, name and drop transforms keep what a graph stands for.
use Rattle.std.proofs.Common.{ℕ, suc, ◌+◌, ◌≤◌, ◌≡◌, ◌≢◌, ◌⊎◌, inl, inr, refl, sym, ◌∙◌, ap, subst, Bool, true, false, cond, List, [], ◌∷◌, ◌++◌, map, length}
use Rattle.std.proofs.Common.{Option, Some, None, slice_index_or, arith, length-append}
use Rattle.std.specs.Prelude.{◌==◌, is_some}
use Rattle.std.specs.Option.{option_map}
use Rattle.std.proofs.lemmas.Bool.Decides.{nat_tests}
use Rattle.flat_base.specs.declared.ids.TransformId.{TransformId}
use Rattle.flat_base.specs.declared.ids.ContentId.{ContentId}
use Rattle.flat_scene.specs.declared.calls.Call.TheVariants.{CreateTransform, ReleaseTransform, SetRootTransform, ReleaseViewport, Clear}
use Rattle.flat_scene.specs.declared.trees.HeldContent.{HeldContent}
use Rattle.flat_scene.specs.Draft.{Draft, Transform, Name, named, of_serial, new_transform, without_name, content_of, empty_draft}
use Rattle.flat_scene.specs.Effect as effect
use Rattle.flat_scene.specs.Effect.{effect, is_serial}
use Rattle.flat_graph.specs.declared.names.NamedNode.{NamedNode}
use Rattle.flat_graph.specs.declared.nodes.GraphNode.{GraphNode}
use Rattle.flat_graph.specs.Names.{key_named, names_but, IsRising}
use Rattle.flat_graph.specs.State.{GraphState, IsSound, IsKept, IsMarked, MayKeep, Creates, node_at, new_node, without_content, held_but, released, with_root}
use Rattle.flat_graph.specs.State.{emptied, without_held, marked_nodes, only_marked, empty_graph}
use Rattle.flat_graph.specs.Stands.{StandsFor, IsHeld, serial_at, serial_of, node_serial, as_transform}
use Rattle.flat_graph.proofs.lemmas.NameLemmas as keys
use Rattle.flat_graph.proofs.lemmas.DraftNames.{named-append, once-append, named-without, once-without, length-without, of_serial-append, of_serial-last}
use Rattle.flat_graph.proofs.lemmas.DraftNames.{of_serial-low, of_serial-map}
use Rattle.flat_graph.proofs.lemmas.FewerNodes.{leaves-marked, option_map-same, stands-fewer, transform-same}
use Rattle.flat_graph.proofs.Soundness.{AddsNode, created, sound-created, sound-released, sound-without, node-added, node-without, was-node, some-map}

pub stands-empty : StandsFor empty_graph empty_draft
stands-empty = record {
  sound = record {
    names_kept = λ id key e. absurd (cc);
    root_kept = λ key e. absurd (cc);
    children_kept = λ key node e child has. absurd (cc);
    rising = tt;
    no_zero = refl;
    apart = λ id other key e e'. absurd (cc);
  };
  made = refl;
  names = λ id. refl;
  count = refl;
  once = tt;
  root = refl;
  nodes = λ key node e. absurd (cc);
  apart = λ key other node node' e e' same. absurd (cc);
  contents = λ key node held e h. absurd (cc);
}

module _ (graph : GraphState) (draft : Draft) (s : StandsFor graph draft) where
  -- ---- names and the root

  pub stands-released : (t : TransformId) → StandsFor (released graph t.0) (effect draft (ReleaseTransform t))
  stands-released t = record {
    sound = sound-released graph t.0 s.sound;
    made = s.made;
    names = λ id. ap (option_map (serial_at graph)) (keys.named-but t.0 graph.names id) ∙ by_same id (t.0 == id)
        ∙ sym (named-without t.0 draft.transform_names id);
    count = counts;
    once = once-without t.0 draft.transform_names s.once;
    root = s.root;
    nodes = s.nodes;
    apart = s.apart;
    contents = s.contents;
  }
    where
      by_same : (id : ℕ) (b : Bool) → option_map (serial_at graph) (cond b None (key_named graph.names id)) ≡ cond b None (named draft.transform_names id)
      by_same id true = refl
      by_same id false = s.names id

      counts : length (names_but t.0 graph.names) ≡ length (without_name t.0 draft.transform_names)
      counts =
          let there : is_some (key_named graph.names t.0) ≡ is_some (named draft.transform_names t.0) =
          sym (some-map (serial_at graph) (key_named graph.names t.0)) ∙ ap (is_some {T = ℕ}) (s.names t.0) in
          let left : length (names_but t.0 graph.names) + cond (is_some (key_named graph.names t.0)) 1 0 ≡ length graph.names =
          keys.length-but t.0 graph.names s.sound.rising in
          let right : length (without_name t.0 draft.transform_names) + cond (is_some (named draft.transform_names t.0)) 1 0 ≡ length draft.transform_names =
          length-without t.0 draft.transform_names s.once in
          let left' : length (names_but t.0 graph.names) + cond (is_some (named draft.transform_names t.0)) 1 0 ≡ length graph.names =
          ap (λ (b : Bool). length (names_but t.0 graph.names) + cond b 1 0) (sym there) ∙ left in
          let count : length graph.names ≡ length draft.transform_names = s.count in
          omega (arith, left', right, count)

  pub stands-rooted : (t : TransformId) → StandsFor (with_root graph t.0) (effect draft (SetRootTransform t))
  stands-rooted t = record {
    sound = record {
      names_kept = s.sound.names_kept;
      root_kept = λ key e. by_root key (t.0 == 0) e;
      children_kept = s.sound.children_kept;
      rising = s.sound.rising;
      no_zero = s.sound.no_zero;
      apart = s.sound.apart;
    };
    made = s.made;
    names = s.names;
    count = s.count;
    once = s.once;
    root = by_zero (t.0 == 0) refl;
    nodes = s.nodes;
    apart = s.apart;
    contents = s.contents;
  }
    where
      by_root : (key : ℕ) (b : Bool) → cond b None (key_named graph.names t.0) ≡ Some key → IsKept graph.nodes key
      by_root key true e = absurd (cc)
      by_root key false e = s.sound.names_kept t.0 key e

      by_zero : (b : Bool) → (t.0 == 0) ≡ b → option_map (serial_at graph) (cond b None (key_named graph.names t.0)) ≡ named draft.transform_names t.0
      by_zero true e =
          let zero : t.0 ≡ 0 = grind (arith, nat_tests) in
          sym (ap (option_map (serial_at graph)) (ap (key_named graph.names) zero ∙ s.sound.no_zero)) ∙ s.names t.0
      by_zero false e = s.names t.0

  -- ---- dropped nodes

  pub stands-emptied : StandsFor (emptied graph) (effect draft Clear)
  stands-emptied = record {
    sound = record {
      names_kept = λ id key e. absurd (cc);
      root_kept = λ key e. absurd (cc);
      children_kept = λ key node e child has. absurd (cc);
      rising = tt;
      no_zero = refl;
      apart = λ id other key e e'. absurd (cc);
    };
    made = s.made;
    names = λ id. refl;
    count = refl;
    once = tt;
    root = refl;
    nodes = λ key node e. absurd (cc);
    apart = λ key other node node' e e' same. absurd (cc);
    contents = λ key node held e h. absurd (cc);
  }

  pub stands-marked : (marks : List Bool) → MayKeep marks graph → StandsFor (only_marked marks graph) draft
  stands-marked marks may = stands-fewer (IsMarked marks) graph (marked_nodes marks graph.nodes) (leaves-marked graph marks may) draft s

  -- ---- dropped contents

  serial-without : (serial : ℕ) (k : ℕ) → serial_at (without_held graph serial) k ≡ serial_at graph k
  serial-without serial k = ap node_serial (node-without serial graph.nodes k) ∙ by_node (slice_index_or graph.nodes k None)
    where
      by_node : (x : Option GraphNode) → node_serial (option_map (without_content serial) x) ≡ node_serial x
      by_node None = refl
      by_node (Some node) = refl

  -- what a transform holds but for the content
  held-same : (serial : ℕ) (x : Option HeldContent) → effect.held_but (Some serial) (option_map serial_of x) ≡ option_map serial_of (held_but serial x)
  held-same serial None = refl
  held-same serial (Some held) = by_test (held.serial == serial)
    where
      by_test : (b : Bool) → cond b None (Some held.serial) ≡ option_map serial_of (cond b None (Some held))
      by_test true = refl
      by_test false = refl

  still-held : (serial : ℕ) (x : Option HeldContent) (held : HeldContent) → held_but serial x ≡ Some held → x ≡ Some held
  still-held serial None held e = absurd (cc)
  still-held serial (Some other) held e = by_test (other.serial == serial) e
    where
      by_test : (b : Bool) → cond b None (Some other) ≡ Some held → Some other ≡ Some held
      by_test true e' = absurd (cc)
      by_test false e' = e'

  -- a transform that doesn't hold the content
  abbrev but_for : ℕ → Transform → Transform
  but_for serial t = record t { content = effect.held_but (Some serial) t.content }

  pub stands-without : (serial : ℕ) → StandsFor (without_held graph serial) (record draft { transforms = map (but_for serial) draft.transforms })
  stands-without serial = record {
    sound = sound-without graph serial s.sound;
    made = s.made ∙ sym (length-map' draft.transforms);
    names = λ id. option_map-same (serial_at (without_held graph serial)) (serial_at graph) (key_named graph.names id) (λ k e. serial-without serial k)
        ∙ s.names id;
    count = s.count;
    once = s.once;
    root = option_map-same (serial_at (without_held graph serial)) (serial_at graph) graph.root (λ k e. serial-without serial k) ∙ s.root;
    nodes = λ k node e. by_node k node (was k node e);
    apart = λ k k' node node' e e' same. by_two k k' node node' (was k node e) (was k' node' e') same;
    contents = λ k node held e. by_held k node held (was k node e);
  }
    where
      length-map' : (xs : List Transform) → length (map (but_for serial) xs) ≡ length xs
      length-map' [] = refl
      length-map' (x ∷ xs) = ap suc (length-map' xs)

      Was : ℕ → GraphNode → Type 0
      Was k node = (old : GraphNode) × (slice_index_or graph.nodes k None ≡ Some old) × (node ≡ without_content serial old)

      was : (k : ℕ) (node : GraphNode) → node_at (without_held graph serial) k ≡ Some node → Was k node
      was k node e = was-node serial (slice_index_or graph.nodes k None) node (sym (node-without serial graph.nodes k) ∙ e)

      by_node : (k : ℕ) (node : GraphNode) → Was k node → of_serial (map (but_for serial) draft.transforms) node.serial
          ≡ Some (as_transform (without_held graph serial) node)
      by_node k node (old, there, is) =
          ap (λ (n : GraphNode). of_serial (map (but_for serial) draft.transforms) n.serial) is ∙ of_serial-map (but_for serial) draft.transforms old.serial
          ∙ ap (option_map (but_for serial)) (s.nodes k old there)
          ∙ ap (λ (content : Option ℕ). Some (record (as_transform graph old) { content = content })) (held-same serial old.content)
          ∙ ap Some (sym (transform-same graph (without_held graph serial) (without_content serial old) (λ child has. serial-without serial child)))
          ∙ ap (λ (n : GraphNode). Some (as_transform (without_held graph serial) n)) (sym is)

      by_two : (k k' : ℕ) (node node' : GraphNode) → Was k node → Was k' node' → node.serial ≡ node'.serial → k ≡ k'
      by_two k k' node node' (old, there, is) (old', there', is') same =
          s.apart k k' old old' there there' (ap (λ (n : GraphNode). n.serial) (sym is) ∙ same ∙ ap (λ (n : GraphNode). n.serial) is')

      by_held : (k : ℕ) (node : GraphNode) (held : HeldContent) → Was k node → node.content ≡ Some held → IsHeld draft.contents held
      by_held k node held (old, there, is) e = s.contents k old held there (still-held serial old.content held (ap (λ (n : GraphNode). n.content) (sym is) ∙ e))

  pub stands-dropped : (c : ContentId) (serial : ℕ) → content_of draft c ≡ Some serial
      → StandsFor (without_held graph serial) (effect draft (ReleaseViewport c))
  stands-dropped c serial e = rw e (by_fields (stands-without serial))
    where
      by_fields : StandsFor (without_held graph serial) (record draft { transforms = map (but_for serial) draft.transforms })
          → StandsFor (without_held graph serial) (effect.without_viewport (Some serial) (effect.without_content_name draft c))
      by_fields r = record {
        sound = r.sound;
        made = r.made;
        names = r.names;
        count = r.count;
        once = r.once;
        root = r.root;
        nodes = r.nodes;
        apart = r.apart;
        contents = r.contents;
      }

  -- ---- a new node

  module _ (new : GraphState) (t : TransformId) (serial : ℕ) (made : Creates graph new t.0 serial) where
    adds : AddsNode graph.nodes new.nodes made.key (new_node serial)
    adds = record { was_free = made.was_free; there = made.there; others = made.others }

    apart-free : (k : ℕ) → IsKept graph.nodes k → k ≢ made.key
    apart-free k kept same = let no : ◌≡◌ {A = Bool} false true = rw (same, made.was_free) at kept in absurd (cc)

    same-serial : (k : ℕ) → IsKept graph.nodes k → serial_at new k ≡ serial_at graph k
    same-serial k kept = ap node_serial (made.others k (apart-free k kept))

    pub stands-created : key_named graph.names t.0 ≡ None → t.0 ≢ 0 → serial ≡ graph.made + 1 → StandsFor new (effect draft (CreateTransform t))
    stands-created absent some next = record {
      sound = sound;
      made = made.made ∙ sym (length-append draft.transforms (new_transform ∷ []) ∙ omega (arith, s.made));
      names = names;
      count = ap length made.names ∙ keys.length-with name graph.names ∙ omega (arith, s.count) ∙ sym (length-append draft.transform_names (new_name ∷ []));
      once = once-append draft.transform_names new_name unnamed s.once;
      root = ap (option_map (serial_at new)) made.root ∙ option_map-same (serial_at new) (serial_at graph) graph.root
          (λ k e. same-serial k (s.sound.root_kept k e)) ∙ s.root;
      nodes = λ k node e. by_node k node (is k node e);
      apart = λ k k' node node' e e' same. two k k' node node' (is k node e) (is k' node' e') same;
      contents = λ k node held e h. by_held k node held (is k node e) h;
    }
      where
        name : NamedNode
        name = record { id = t.0; key = made.key }

        new_name : Name
        new_name = record { id = t.0; serial = length draft.transforms + 1 }

        unnamed : named draft.transform_names t.0 ≡ None
        unnamed = sym (s.names t.0) ∙ ap (option_map (serial_at graph)) absent

        sound' : IsSound (created graph new.nodes t.0 made.key)
        sound' = sound-created graph new.nodes t.0 made.key serial s.sound adds absent some

        sound : IsSound new
        sound = record {
          names_kept = λ id key e. sound'.names_kept id key (ap (λ (ns : List NamedNode). key_named ns id) (sym made.names) ∙ e);
          root_kept = λ key e. sound'.root_kept key (sym made.root ∙ e);
          children_kept = sound'.children_kept;
          rising = subst (λ (ns : List NamedNode). IsRising ns) (sym made.names) sound'.rising;
          no_zero = ap (λ (ns : List NamedNode). key_named ns 0) made.names ∙ sound'.no_zero;
          apart = λ id other key e e'.
              sound'.apart id other key (ap (λ (ns : List NamedNode). key_named ns id) (sym made.names) ∙ e)
              (ap (λ (ns : List NamedNode). key_named ns other) (sym made.names) ∙ e');
        }

        by_same : (id : ℕ) (b : Bool) → option_map (serial_at new) (cond b (Some made.key) (key_named graph.names id))
            ≡ cond b (Some (length draft.transforms + 1)) (named draft.transform_names id)
        by_same id true = ap Some (ap node_serial made.there ∙ next ∙ ap (λ (n : ℕ). n + 1) s.made)
        by_same id false = option_map-same (serial_at new) (serial_at graph) (key_named graph.names id) (λ k e. same-serial k (s.sound.names_kept id k e))
            ∙ s.names id

        names : (id : ℕ) → option_map (serial_at new) (key_named new.names id) ≡ named (draft.transform_names ++ new_name ∷ []) id
        names id =
            ap (λ (ns : List NamedNode). option_map (serial_at new) (key_named ns id)) made.names
            ∙ ap (option_map (serial_at new)) (keys.named-with name graph.names id absent)
            ∙ by_same id (t.0 == id) ∙ sym (named-append draft.transform_names new_name id unnamed)

        IsNow : ℕ → GraphNode → Type 0
        IsNow k node = (slice_index_or graph.nodes k None ≡ Some node) ⊎ ((k ≡ made.key) × (node ≡ new_node serial))

        is : (k : ℕ) (node : GraphNode) → node_at new k ≡ Some node → IsNow k node
        is k node e = node-added graph.nodes new.nodes made.key (new_node serial) node adds k e

        by_node : (k : ℕ) (node : GraphNode) → IsNow k node → of_serial (draft.transforms ++ new_transform ∷ []) node.serial ≡ Some (as_transform new node)
        by_node k node (inl was) =
            of_serial-append draft.transforms new_transform (as_transform graph node) node.serial (s.nodes k node was)
            ∙ ap Some (sym (transform-same graph new node (λ child has. same-serial child (s.sound.children_kept k node was child has))))
        by_node k node (inr now) =
            ap (λ (n : GraphNode). of_serial (draft.transforms ++ new_transform ∷ []) n.serial) now.1
            ∙ of_serial-last draft.transforms new_transform serial (next ∙ ap (λ (n : ℕ). n + 1) s.made)
            ∙ ap (λ (n : GraphNode). Some (as_transform new n)) (sym now.1)

        high : (k : ℕ) (node node' : GraphNode) → node ≡ new_node serial → node_at graph k ≡ Some node' → node.serial ≡ node'.serial → ⊥
        high k node node' now was same =
            let low : node'.serial ≤ length draft.transforms = of_serial-low draft.transforms (as_transform graph node') node'.serial (s.nodes k node' was) in
            let top : node.serial ≡ serial = ap (λ (n : GraphNode). n.serial) now in
            absurd (omega (arith, low, top, same, next, s.made))

        two : (k k' : ℕ) (node node' : GraphNode) → IsNow k node → IsNow k' node' → node.serial ≡ node'.serial → k ≡ k'
        two k k' node node' (inr now) (inr now') same = now.0 ∙ sym now'.0
        two k k' node node' (inr now) (inl was) same = absurd (high k' node node' now.1 was same)
        two k k' node node' (inl was) (inr now) same = absurd (high k node' node now.1 was (sym same))
        two k k' node node' (inl was) (inl was') same = s.apart k k' node node' was was' same

        by_held : (k : ℕ) (node : GraphNode) (held : HeldContent) → IsNow k node → node.content ≡ Some held → IsHeld draft.contents held
        by_held k node held (inl was) h = s.contents k node held was h
        by_held k node held (inr now) h = let no : ◌≡◌ {A = Option HeldContent} None (Some held) = sym (ap (λ (n : GraphNode). n.content) now.1) ∙ h in absurd
            (cc)
