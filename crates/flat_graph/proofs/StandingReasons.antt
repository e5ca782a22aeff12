-- A graph's call is refused for the reason for which the draft's call is a misuse.
use Rattle.std.proofs.Common.{ℕ, suc, ◌≡◌, refl, sym, ◌∙◌, ap, false, List, [], ◌∷◌, map, length, Option, Some, None, IsSome, arith}
use Rattle.std.specs.Prelude.{◌==◌, is_some, is_none, unwrap_or}
use Rattle.std.specs.Option.{option_map, option_and_then}
use Rattle.std.specs.List.{Contains, list_any}
use Rattle.flat_base.specs.declared.ids.TransformId.{TransformId}
use Rattle.flat_scene.specs.Draft.{Draft, Transform, of_serial, transform_of}
use Rattle.flat_scene.specs.Misuse as misuse
use Rattle.flat_graph.specs.declared.nodes.GraphNode.{GraphNode}
use Rattle.flat_graph.specs.Names.{key_named}
use Rattle.flat_graph.specs.Reasons.{links_of, children_at, children_of, has_key, is_child}
use Rattle.flat_graph.specs.State.{GraphState, IsKept, node_at}
use Rattle.flat_graph.specs.Stands.{StandsFor, serial_at, node_serial}
use Rattle.flat_graph.proofs.Standing.{same-test}
use Rattle.flat_graph.proofs.Soundness.{some-map}
use Rattle.std.proofs.lemmas.List.{length-map}

none-map : (f : ℕ → ℕ) (x : Option ℕ) → is_none (option_map f x) ≡ is_none x
none-map f None = refl
none-map f (Some x) = refl

module _ (graph : GraphState) (draft : Draft) (s : StandsFor graph draft) where
  pub some-same : (t : TransformId) → is_some (key_named graph.names t.0) ≡ is_some (transform_of draft t)
  some-same t = sym (some-map (serial_at graph) (key_named graph.names t.0)) ∙ ap (is_some {T = ℕ}) (s.names t.0)

  pub none-same : (t : TransformId) → is_none (key_named graph.names t.0) ≡ is_none (transform_of draft t)
  none-same t = sym (none-map (serial_at graph) (key_named graph.names t.0)) ∙ ap (is_none {T = ℕ}) (s.names t.0)

  -- one of the ids names nothing
  pub any-none-same : (ts : List TransformId) → list_any (λ (t : TransformId). is_none (key_named graph.names t.0)) ts
      ≡ list_any (λ t. is_none (transform_of draft t)) ts
  any-none-same [] = refl
  any-none-same (t ∷ ts) = rw (none-same t, any-none-same ts) refl

  children-at : (x : Option ℕ) → ((k : ℕ) → x ≡ Some k → IsKept graph.nodes k)
      → unwrap_or (option_map (λ (transform : Transform). transform.children) (option_and_then (of_serial draft.transforms) (option_map (serial_at graph) x)))
      [] ≡ map (serial_at graph) (children_at graph x)
  children-at None kept = refl
  children-at (Some k) kept = by_node (node_at graph k) refl (kept k refl)
    where
      by_node : (y : Option GraphNode) → node_at graph k ≡ y → IsSome y
          → unwrap_or (option_map (λ (transform : Transform). transform.children) (of_serial draft.transforms (node_serial y))) []
          ≡ map (serial_at graph) (links_of y)
      by_node None e some = absurd (cc)
      by_node (Some node) e some = ap (λ (t : Option Transform). unwrap_or (option_map (λ (transform : Transform). transform.children) t) []) (s.nodes k node e)

  pub children-same : (t : TransformId) → misuse.children_of draft t ≡ map (serial_at graph) (children_of graph t.0)
  children-same t =
      ap (λ (x : Option ℕ). unwrap_or (option_map (λ (transform : Transform). transform.children) (option_and_then (of_serial draft.transforms) x)) [])
      (sym (s.names t.0))
      ∙ children-at (key_named graph.names t.0) (s.sound.names_kept t.0)

  pub count-same : (t : TransformId) → length (children_of graph t.0) ≡ length (misuse.children_of draft t)
  count-same t = sym (ap length (children-same t) ∙ length-map (children_of graph t.0) (serial_at graph))

  any-same : (k : ℕ) → IsKept graph.nodes k → (xs : List ℕ) → ((x : ℕ) → Contains xs x → IsKept graph.nodes x)
      → list_any (λ child. child == serial_at graph k) (map (serial_at graph) xs) ≡ list_any (λ other. other == k) xs
  any-same k kept [] all = refl
  any-same k kept (x ∷ xs) all =
      rw (same-test graph draft s x k (all x (0, omega arith, refl)) kept, any-same k kept xs (λ y has. all y (suc has.0, omega (arith, has.1), has.2))) refl

  links-kept : (x : Option ℕ) → (child : ℕ) → Contains (children_at graph x) child → IsKept graph.nodes child
  links-kept None child has = absurd (omega (arith, has.1))
  links-kept (Some k) child has = by_node (node_at graph k) refl has
    where
      by_node : (y : Option GraphNode) → node_at graph k ≡ y → Contains (links_of y) child → IsKept graph.nodes child
      by_node None e has' = absurd (omega (arith, has'.1))
      by_node (Some node) e has' = s.sound.children_kept k node e child has'

  pub child-same : (p k : TransformId) → is_child graph p.0 k.0 ≡ misuse.is_child draft p k
  child-same p k =
      by_key (key_named graph.names k.0) (s.sound.names_kept k.0)
      ∙ ap (λ (x : Option ℕ). unwrap_or (option_map (λ (serial : ℕ). list_any (λ child. child == serial) (misuse.children_of draft p)) x) false) (s.names k.0)
    where
      by_key : (x : Option ℕ) → ((key : ℕ) → x ≡ Some key → IsKept graph.nodes key)
          → has_key (children_of graph p.0) x ≡ unwrap_or (option_map (λ (serial : ℕ). list_any (λ child. child == serial) (misuse.children_of draft p))
          (option_map (serial_at graph) x)) false
      by_key None kept = refl
      by_key (Some key) kept =
          sym (ap (list_any (λ child. child == serial_at graph key)) (children-same p)
          ∙ any-same key (kept key refl) (children_of graph p.0) (links-kept (key_named graph.names p.0)))
