-- All calls together: each has the draft's reason, and keeps what the graph stands for.
use Rattle.std.proofs.Common.{ℕ, ◌≡◌, ◌≢◌, ◌⊎◌, inl, inr, refl, sym, ◌∙◌, ap, subst, Bool, true, false, cond, not, List, [], ◌∷◌, ◌++◌, length, Option, Some}
use Rattle.std.proofs.Common.{None, IsSome}
use Rattle.std.specs.Prelude.{◌==◌, is_some}
use Rattle.std.specs.Option.{option_map}
use Rattle.std.specs.List.{Contains}
use Rattle.std.proofs.lemmas.Bool.{eqb-false}
use Rattle.std.proofs.lemmas.Bool.Decides.{eqb_tells}
use Rattle.flat_base.specs.declared.ids.TransformId.{TransformId}
use Rattle.flat_base.specs.declared.ids.ContentId.{ContentId}
use Rattle.flat_base.specs.declared.errors.Reason.{Reason}
use Rattle.flat_scene.specs.declared.calls.Call.TheVariants.{CreateView, ReleaseView, CreateTransform, ReleaseTransform, SetTranslation, SetOrientation}
use Rattle.flat_scene.specs.declared.calls.Call.TheVariants.{SetScale, SetOpacity, SetClipBoundary, AddChild, RemoveChild, ReplaceChildren, SetRootTransform}
use Rattle.flat_scene.specs.declared.calls.Call.TheVariants.{CreateViewport, SetViewportProperties, ReleaseViewport, CreateImage, SetImageSampleRegion}
use Rattle.flat_scene.specs.declared.calls.Call.TheVariants.{SetImageDestinationSize, SetImageBlendingFunction, SetImageFlip, SetImageOpacity, ReleaseImage}
use Rattle.flat_scene.specs.declared.calls.Call.TheVariants.{CreateFilledRect, SetSolidFill, ReleaseFilledRect, SetHitRegions, SetInfiniteHitRegion, SetContent}
use Rattle.flat_scene.specs.declared.calls.Call.TheVariants.{Clear}
use Rattle.flat_scene.specs.declared.calls.ViewportProps.{ViewportProps}
use Rattle.flat_scene.specs.declared.setup.Setup.{Setup}
use Rattle.flat_scene.specs.declared.trees.HeldContent.{HeldContent}
use Rattle.flat_scene.specs.Draft.{Draft, named, Transform, Image, Solid, Made, an_image, a_fill, a_viewport, Name, of_serial, changed_at, content_of}
use Rattle.flat_scene.specs.Draft.{transform_of}
use Rattle.flat_scene.specs.Effect as effect
use Rattle.flat_scene.specs.Effect.{effect, with_transform, changed_if, on_image, on_viewport, on_fill}
use Rattle.flat_scene.specs.Misuse.{is_viewport}
use Rattle.flat_graph.specs.declared.nodes.GraphNode.{GraphNode}
use Rattle.flat_graph.specs.Laws.{GraphCallsStand, OtherCallsStand, IsCreation, IsContent}
use Rattle.flat_graph.specs.Names.{key_named, keys_named}
use Rattle.flat_graph.specs.State.{GraphState, IsKept, node_at, change_named, with_child, without_child, with_children}
use Rattle.flat_graph.specs.Stands.{StandsFor, IsHeld, IsOnce, serial_at, as_transform}
use Rattle.flat_graph.proofs.lemmas.DraftNames.{of_serial-append, changed-same, changed-other}
use Rattle.flat_graph.proofs.Soundness.{is-none, kept-named, kept-push, contains-filter}
use Rattle.flat_graph.proofs.Standing.{Changes, stands-change, stays, as-with_child, as-without_child, serials-named}
use Rattle.flat_graph.proofs.StandingCalls.{stands-released, stands-rooted, stands-emptied, stands-marked, stands-dropped, stands-created}
use Rattle.flat_graph.proofs.StandingReasons.{some-same, none-same, any-none-same, count-same, child-same}

-- ---- calls on transforms

no-reason : (a b : Bool) (r r' : Reason) (rest : Option Reason) → cond a (Some r) (cond b (Some r') rest) ≡ None → (a ≡ false) × (b ≡ false)
no-reason true b r r' rest e = absurd (cc)
no-reason false true r r' rest e = absurd (cc)
no-reason false false r r' rest e = (refl, refl)

module _ (setup : Setup) (graph : GraphState) (draft : Draft) (s : StandsFor graph draft) where
  -- a change of a node that keeps its serial, its children and its content
  set : (t : TransformId) (change : GraphNode → GraphNode) (f : Transform → Transform)
      → ((node : GraphNode) → (change node).serial ≡ node.serial) → ((node : GraphNode) → (change node).children ≡ node.children)
      → ((node : GraphNode) → (change node).content ≡ node.content)
      → ((node : GraphNode) → f (as_transform graph node) ≡ as_transform graph (change node))
      → StandsFor (change_named graph t.0 change) (with_transform draft t f)
  set t change f serial children content same =
      stands-change graph draft t change f s
      (λ key node e there. stays graph draft f key node (change node) s there (serial node) (children node) (content node) (same node))

  creation : (t : TransformId) → IsCreation setup graph draft t
  creation t = record {
    reason = rw (some-same graph draft s t, s.count) refl;
    stands = λ new serial allowed next made.
        let free = no-reason (t.0 == 0) (is_some (key_named graph.names t.0)) _ _ _ allowed in
        stands-created graph draft s new t serial made (is-none (key_named graph.names t.0) free.1) (eqb-false t.0 0 free.0) next;
  }

  with-child : (p k : TransformId) → StandsFor (change_named graph p.0 (with_child (key_named graph.names k.0))) (effect draft (AddChild p k))
  with-child p k =
      stands-change graph draft p (with_child (key_named graph.names k.0)) _ s
      (λ key node e there. by_child key node there (key_named graph.names k.0) (s.sound.names_kept k.0) (s.names k.0))
    where
      by_child : (key : ℕ) (node : GraphNode) → node_at graph key ≡ Some node → (x : Option ℕ) → ((c : ℕ) → x ≡ Some c → IsKept graph.nodes c)
          → option_map (serial_at graph) x ≡ transform_of draft k
          → Changes graph draft node (with_child x node) (effect.with_child (transform_of draft k))
      by_child key node there x kept same = record {
        serial = serial x;
        children = children x kept;
        contents = λ held e. s.contents key node held there (content x held e);
        same = ap (λ (y : Option ℕ). effect.with_child y (as_transform graph node)) (sym same) ∙ as-with_child graph node x;
      }
        where
          serial : (y : Option ℕ) → (with_child y node).serial ≡ node.serial
          serial None = refl
          serial (Some c) = refl

          children : (y : Option ℕ) → ((c : ℕ) → y ≡ Some c → IsKept graph.nodes c) → (child : ℕ) → Contains (with_child y node).children child
              → IsKept graph.nodes child
          children None kept' child has = s.sound.children_kept key node there child has
          children (Some c) kept' child has = kept-push graph.nodes node.children c (s.sound.children_kept key node there) (kept' c refl) child has

          content : (y : Option ℕ) (held : HeldContent) → (with_child y node).content ≡ Some held → node.content ≡ Some held
          content None held e = e
          content (Some c) held e = e

  without-child : (p k : TransformId) → StandsFor (change_named graph p.0 (without_child (key_named graph.names k.0))) (effect draft (RemoveChild p k))
  without-child p k =
      stands-change graph draft p (without_child (key_named graph.names k.0)) _ s
      (λ key node e there. by_child key node there (key_named graph.names k.0) (s.sound.names_kept k.0) (s.names k.0))
    where
      by_child : (key : ℕ) (node : GraphNode) → node_at graph key ≡ Some node → (x : Option ℕ) → ((c : ℕ) → x ≡ Some c → IsKept graph.nodes c)
          → option_map (serial_at graph) x ≡ transform_of draft k
          → Changes graph draft node (without_child x node) (effect.without_child (transform_of draft k))
      by_child key node there x kept same = record {
        serial = serial x;
        children = children x;
        contents = λ held e. s.contents key node held there (content x held e);
        same = ap (λ (y : Option ℕ). effect.without_child y (as_transform graph node)) (sym same)
            ∙ as-without_child graph draft s node (s.sound.children_kept key node there) x kept;
      }
        where
          serial : (y : Option ℕ) → (without_child y node).serial ≡ node.serial
          serial None = refl
          serial (Some c) = refl

          children : (y : Option ℕ) → (child : ℕ) → Contains (without_child y node).children child → IsKept graph.nodes child
          children None child has = s.sound.children_kept key node there child has
          children (Some c) child has = s.sound.children_kept key node there child (contains-filter (λ other. not (other == c)) node.children child has)

          content : (y : Option ℕ) (held : HeldContent) → (without_child y node).content ≡ Some held → node.content ≡ Some held
          content None held e = e
          content (Some c) held e = e

  with-children : (p : TransformId) (ks : List TransformId)
      → StandsFor (change_named graph p.0 (with_children (keys_named graph.names ks))) (effect draft (ReplaceChildren p ks))
  with-children p ks =
      stands-change graph draft p (with_children (keys_named graph.names ks)) _ s
      (λ key node e there. record {
        serial = refl;
        children = kept-named graph s.sound ks;
        contents = λ held e'. s.contents key node held there e';
        same = ap (λ (children : List ℕ). effect.with_children children (as_transform graph node)) (serials-named graph draft s ks);
      })

  giving : (t : TransformId) (c : ContentId) (held : Option HeldContent) → IsContent setup graph draft c held
      → StandsFor (change_named graph t.0 (λ node. record node { content = held })) (effect draft (SetContent t c))
  giving t c held given =
      stands-change graph draft t (λ node. record node { content = held }) _ s
      (λ key node e there. record {
        serial = refl;
        children = s.sound.children_kept key node there;
        contents = λ it e'. given.made it e';
        same = ap (λ (content : Option ℕ). record (as_transform graph node) { content = content }) (sym given.serial);
      })

pub graph_calls_stand : GraphCallsStand
graph_calls_stand setup graph draft s = record {
  create = creation setup graph draft s;
  release = λ t. record { reason = rw (none-same graph draft s t) refl; stands = stands-released graph draft s t };
  add_child = λ p k. record {
    reason = rw (none-same graph draft s p, none-same graph draft s k, child-same graph draft s p k, count-same graph draft s p) refl;
    stands = with-child setup graph draft s p k;
  };
  remove_child = λ p k. record {
    reason = rw (none-same graph draft s p, none-same graph draft s k, child-same graph draft s p k) refl;
    stands = without-child setup graph draft s p k;
  };
  replace_children = λ p ks. record {
    reason = rw (none-same graph draft s p, any-none-same graph draft s ks) refl;
    stands = with-children setup graph draft s p ks;
  };
  set_root = λ t. record { reason = rw (none-same graph draft s t) refl; stands = stands-rooted graph draft s t };
  set_translation = λ t x y. record {
    reason = rw (none-same graph draft s t) refl;
    stands = set setup graph draft s t _ _ (λ node. refl) (λ node. refl) (λ node. refl) (λ node. refl);
  };
  set_orientation = λ t o. record {
    reason = rw (none-same graph draft s t) refl;
    stands = set setup graph draft s t _ _ (λ node. refl) (λ node. refl) (λ node. refl) (λ node. refl);
  };
  set_scale = λ t x y. record {
    reason = rw (none-same graph draft s t) refl;
    stands = set setup graph draft s t _ _ (λ node. refl) (λ node. refl) (λ node. refl) (λ node. refl);
  };
  set_opacity = λ t v. record {
    reason = rw (none-same graph draft s t) refl;
    stands = set setup graph draft s t _ _ (λ node. refl) (λ node. refl) (λ node. refl) (λ node. refl);
  };
  set_clip = λ t clip. record {
    reason = rw (none-same graph draft s t) refl;
    stands = set setup graph draft s t _ _ (λ node. refl) (λ node. refl) (λ node. refl) (λ node. refl);
  };
  set_hits = λ t regions. record {
    reason = rw (none-same graph draft s t) refl;
    stands = set setup graph draft s t _ _ (λ node. refl) (λ node. refl) (λ node. refl) (λ node. refl);
  };
  set_infinite = λ t i regions one. rw one
      (record {
        reason = rw (none-same graph draft s t) refl;
        stands = set setup graph draft s t _ _ (λ node. refl) (λ node. refl) (λ node. refl) (λ node. refl);
      });
  set_content = λ t c held given. record { reason = rw (none-same graph draft s t) refl; stands = giving setup graph draft s t c held given };
  drop_content = stands-dropped graph draft s;
  clear = stands-emptied graph draft s;
  keep = stands-marked graph draft s;
}

-- ---- the other calls

-- what is held stays held, of the same sort
abbrev KeepsHeld : List Made → List Made → Type 0
KeepsHeld contents contents' = (held : HeldContent) → IsHeld contents held → IsHeld contents' held

-- a draft with the same transforms, in which what is held stays
stands-other : (graph : GraphState) (draft draft' : Draft) → StandsFor graph draft → draft'.transforms ≡ draft.transforms
    → draft'.transform_names ≡ draft.transform_names → draft'.root ≡ draft.root
    → KeepsHeld draft.contents draft'.contents → StandsFor graph draft'
stands-other graph draft draft' s transforms names root keeps = record {
  sound = s.sound;
  made = s.made ∙ sym (ap length transforms);
  names = λ id. s.names id ∙ sym (ap (λ (ns : List Name). named ns id) names);
  count = s.count ∙ sym (ap length names);
  once = subst (λ (ns : List Name). IsOnce ns) (sym names) s.once;
  root = s.root ∙ sym root;
  nodes = λ key node e. ap (λ (ts : List Transform). of_serial ts node.serial) transforms ∙ s.nodes key node e;
  apart = s.apart;
  contents = λ key node held e h. keeps held (s.contents key node held e h);
}

by-made : (contents contents' : List Made) (held : HeldContent)
    → ((made : Made) → of_serial contents held.serial ≡ Some made
    → (made' : Made) × (of_serial contents' held.serial ≡ Some made') × (is_viewport (Some made') ≡ is_viewport (Some made)))
    → IsHeld contents held → IsHeld contents' held
by-made contents contents' held keeps is = by_made (of_serial contents held.serial) refl is.made is.sort
  where
    by_made : (x : Option Made) → of_serial contents held.serial ≡ x → IsSome x → held.viewport ≡ is_viewport x → IsHeld contents' held
    by_made None e some sort = absurd (cc)
    by_made (Some made) e some sort =
        let there = keeps made e in
        record { made = rw there.1 refl; sort = sort ∙ sym there.2 ∙ ap is_viewport (sym there.1) }

held-append : (contents : List Made) (made : Made) → KeepsHeld contents (contents ++ made ∷ [])
held-append contents made held = by-made contents (contents ++ made ∷ []) held (λ it e. (it, of_serial-append contents made it held.serial e, refl))

held-changed : (x : Option ℕ) (f : Made → Made) (contents : List Made) → ((made : Made) → is_viewport (Some (f made)) ≡ is_viewport (Some made))
    → KeepsHeld contents (changed_if x f contents)
held-changed None f contents sort held = λ is. is
held-changed (Some serial) f contents sort held = by-made contents (changed_at serial f contents) held
    (λ made e. by_serial made e (eqb_tells serial held.serial))
  where
    by_serial : (made : Made) → of_serial contents held.serial ≡ Some made
        → ((◌≡◌ (serial == held.serial) true) × (serial ≡ held.serial)) ⊎ ((◌≡◌ (serial == held.serial) false) × (serial ≢ held.serial))
        → (made' : Made) × (of_serial (changed_at serial f contents) held.serial ≡ Some made') × (is_viewport (Some made') ≡ is_viewport (Some made))
    by_serial made e (inl same) =
        (f made, ap (λ (n : ℕ). of_serial (changed_at n f contents) held.serial) same.1 ∙ changed-same held.serial f contents made e, sort made)
    by_serial made e (inr apart) = (made, changed-other serial held.serial f contents apart.1 ∙ e, refl)

image-sort : (f : Image → Image) (made : Made) → is_viewport (Some (on_image f made)) ≡ is_viewport (Some made)
image-sort f (an_image image) = refl
image-sort f (a_fill solid) = refl
image-sort f (a_viewport pair props) = refl

viewport-sort : (f : ViewportProps → ViewportProps) (made : Made) → is_viewport (Some (on_viewport f made)) ≡ is_viewport (Some made)
viewport-sort f (an_image image) = refl
viewport-sort f (a_fill solid) = refl
viewport-sort f (a_viewport pair props) = refl

fill-sort : (solid : Solid) (made : Made) → is_viewport (Some (on_fill solid made)) ≡ is_viewport (Some made)
fill-sort solid (an_image image) = refl
fill-sort solid (a_fill before) = refl
fill-sort solid (a_viewport pair props) = refl

pub other_calls_stand : OtherCallsStand
other_calls_stand graph draft (CreateView pair) other s = stands-other graph draft _ s refl refl refl (λ held is. is)
other_calls_stand graph draft ReleaseView other s = stands-other graph draft _ s refl refl refl (λ held is. is)
other_calls_stand graph draft (CreateTransform t) other s = absurd (cc)
other_calls_stand graph draft (ReleaseTransform t) other s = absurd (cc)
other_calls_stand graph draft (SetTranslation t x y) other s = absurd (cc)
other_calls_stand graph draft (SetOrientation t o) other s = absurd (cc)
other_calls_stand graph draft (SetScale t x y) other s = absurd (cc)
other_calls_stand graph draft (SetOpacity t v) other s = absurd (cc)
other_calls_stand graph draft (SetClipBoundary t clip) other s = absurd (cc)
other_calls_stand graph draft (AddChild p k) other s = absurd (cc)
other_calls_stand graph draft (RemoveChild p k) other s = absurd (cc)
other_calls_stand graph draft (ReplaceChildren p ks) other s = absurd (cc)
other_calls_stand graph draft (SetRootTransform t) other s = absurd (cc)
other_calls_stand graph draft (CreateViewport c pair w h inset) other s = stands-other graph draft _ s refl refl refl (held-append draft.contents _)
other_calls_stand graph draft (SetViewportProperties c w h inset) other s =
    stands-other graph draft _ s refl refl refl (held-changed (content_of draft c) _ draft.contents (viewport-sort _))
other_calls_stand graph draft (ReleaseViewport c) other s = absurd (cc)
other_calls_stand graph draft (CreateImage c buffers i w h) other s = stands-other graph draft _ s refl refl refl (held-append draft.contents _)
other_calls_stand graph draft (SetImageSampleRegion c rect) other s =
    stands-other graph draft _ s refl refl refl (held-changed (content_of draft c) _ draft.contents (image-sort _))
other_calls_stand graph draft (SetImageDestinationSize c w h) other s =
    stands-other graph draft _ s refl refl refl (held-changed (content_of draft c) _ draft.contents (image-sort _))
other_calls_stand graph draft (SetImageBlendingFunction c m) other s =
    stands-other graph draft _ s refl refl refl (held-changed (content_of draft c) _ draft.contents (image-sort _))
other_calls_stand graph draft (SetImageFlip c f) other s =
    stands-other graph draft _ s refl refl refl (held-changed (content_of draft c) _ draft.contents (image-sort _))
other_calls_stand graph draft (SetImageOpacity c v) other s =
    stands-other graph draft _ s refl refl refl (held-changed (content_of draft c) _ draft.contents (image-sort _))
other_calls_stand graph draft (ReleaseImage c) other s = stands-other graph draft _ s refl refl refl (λ held is. is)
other_calls_stand graph draft (CreateFilledRect c) other s = stands-other graph draft _ s refl refl refl (held-append draft.contents _)
other_calls_stand graph draft (SetSolidFill c r g b a w h) other s =
    stands-other graph draft _ s refl refl refl (held-changed (content_of draft c) _ draft.contents (fill-sort _))
other_calls_stand graph draft (ReleaseFilledRect c) other s = stands-other graph draft _ s refl refl refl (λ held is. is)
other_calls_stand graph draft (SetHitRegions t regions) other s = absurd (cc)
other_calls_stand graph draft (SetInfiniteHitRegion t i) other s = absurd (cc)
other_calls_stand graph draft (SetContent t c) other s = absurd (cc)
other_calls_stand graph draft Clear other s = absurd (cc)
