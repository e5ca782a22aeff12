-- Each call keeps what a graph stands for, and is refused where the draft's call is a misuse.
use Rattle.std.specs.Prelude.{ℕ, ℤ, ◌+◌, ◌≡◌, Bool, true, false, List, [], ◌∷◌, Option, Some, None}
use Rattle.std.specs.Option.{option_map}
use Rattle.flat_base.specs.declared.ids.TransformId.{TransformId}
use Rattle.flat_base.specs.declared.ids.ContentId.{ContentId}
use Rattle.flat_base.specs.declared.shapes.IntRect.{IntRect}
use Rattle.flat_base.specs.declared.shapes.Orientation.{Orientation}
use Rattle.flat_scene.specs.declared.calls.Call.{Call}
use Rattle.flat_scene.specs.declared.calls.Call.TheVariants.{CreateTransform, ReleaseTransform, SetTranslation}
use Rattle.flat_scene.specs.declared.calls.Call.TheVariants.{SetOrientation, SetScale, SetOpacity, SetClipBoundary}
use Rattle.flat_scene.specs.declared.calls.Call.TheVariants.{AddChild, RemoveChild, ReplaceChildren, SetRootTransform}
use Rattle.flat_scene.specs.declared.calls.Call.TheVariants.{SetHitRegions, SetInfiniteHitRegion, SetContent}
use Rattle.flat_scene.specs.declared.calls.Call.TheVariants.{ReleaseViewport, Clear}
use Rattle.flat_scene.specs.declared.calls.HitRegion.{HitRegion}
use Rattle.flat_scene.specs.declared.calls.Interaction.{Interaction}
use Rattle.flat_scene.specs.declared.setup.Setup.{Setup}
use Rattle.flat_scene.specs.declared.trees.HeldContent.{HeldContent}
use Rattle.flat_scene.specs.Draft.{Draft, empty_draft, content_of}
use Rattle.flat_scene.specs.Effect.{effect}
use Rattle.flat_scene.specs.Misuse.{Test, misuse, first_reason, names_transform}
use Rattle.flat_graph.specs.Reasons.{name_tests, create_tests, scale_tests, opacity_tests, clip_tests, hits_tests}
use Rattle.flat_graph.specs.Reasons.{add_tests, remove_tests, replace_tests, root_tests}
use Rattle.flat_graph.specs.Names.{key_named, keys_named}
use Rattle.flat_graph.specs.State.{GraphState, Creates, MayKeep, empty_graph, released, with_root, emptied, only_marked}
use Rattle.flat_graph.specs.State.{without_held, change_named, with_child, without_child, with_children}
use Rattle.flat_graph.specs.Stands.{StandsFor, IsHeld, serial_of}

-- a new graph stands for the draft of a session that made no call
abbrev pub EmptyStands : Type 0
EmptyStands = StandsFor empty_graph empty_draft

-- What a graph's call asks and leaves is what the draft's call asks and leaves:
-- the reason is the same, and the graph after it stands for the draft after it.
pub record IsCall (setup : Setup) (draft : Draft) (call : Call) (tests : List Test) (after : GraphState) : Type 0 where
  pub reason : first_reason tests ≡ misuse setup draft call
  pub stands : StandsFor after (effect draft call)

module _ (setup : Setup) (graph : GraphState) (draft : Draft) where
  -- a creation has the draft's reason, and the graph after it stands for the draft after it
  pub record IsCreation (t : TransformId) : Type 0 where
    pub reason : first_reason (create_tests graph t.0) ≡ misuse setup draft (CreateTransform t)
    pub stands : (new : GraphState) (serial : ℕ) → first_reason (create_tests graph t.0) ≡ None
        → serial ≡ graph.made + 1 → Creates graph new t.0 serial → StandsFor new (effect draft (CreateTransform t))

  -- the content that a call gives is the one that its id names
  pub record IsContent (c : ContentId) (held : Option HeldContent) : Type 0 where
    pub serial : option_map serial_of held ≡ content_of draft c
    pub made : (it : HeldContent) → held ≡ Some it → IsHeld draft.contents it

  -- giving a content has the draft's reasons but for the content's, and the graph after it stands for the draft after
  -- it
  pub record IsGiving (t : TransformId) (c : ContentId) (held : Option HeldContent) : Type 0 where
    pub reason : first_reason (name_tests graph t.0) ≡ first_reason (names_transform draft t)
    pub stands : StandsFor (change_named graph t.0 (λ node. record node { content = held }))
        (effect draft (SetContent t c))

  -- each call on a graph that stands for a draft
  pub record CallsStand : Type 0 where
    pub create : (t : TransformId) → IsCreation t
    pub release : (t : TransformId) → IsCall setup draft (ReleaseTransform t) (name_tests graph t.0)
        (released graph t.0)
    pub add_child : (p k : TransformId) → IsCall setup draft (AddChild p k) (add_tests graph p.0 k.0)
        (change_named graph p.0 (with_child (key_named graph.names k.0)))
    pub remove_child : (p k : TransformId)
        → IsCall setup draft (RemoveChild p k) (remove_tests graph p.0 k.0)
        (change_named graph p.0 (without_child (key_named graph.names k.0)))
    pub replace_children : (p : TransformId) (ks : List TransformId)
        → IsCall setup draft (ReplaceChildren p ks) (replace_tests graph p.0 ks)
        (change_named graph p.0 (with_children (keys_named graph.names ks)))
    pub set_root : (t : TransformId) → IsCall setup draft (SetRootTransform t) (root_tests graph t.0)
        (with_root graph t.0)
    pub set_translation : (t : TransformId) (x y : ℤ)
        → IsCall setup draft (SetTranslation t x y) (name_tests graph t.0)
        (change_named graph t.0 (λ node. record node { place = (x, y) }))
    pub set_orientation : (t : TransformId) (o : Orientation)
        → IsCall setup draft (SetOrientation t o) (name_tests graph t.0)
        (change_named graph t.0 (λ node. record node { turn = o }))
    pub set_scale : (t : TransformId) (x y : ℕ)
        → IsCall setup draft (SetScale t x y) (scale_tests graph t.0 x y)
        (change_named graph t.0 (λ node. record node { scale = (x, y) }))
    pub set_opacity : (t : TransformId) (v : ℕ)
        → IsCall setup draft (SetOpacity t v) (opacity_tests graph t.0 v)
        (change_named graph t.0 (λ node. record node { opacity = v }))
    pub set_clip : (t : TransformId) (clip : Option IntRect)
        → IsCall setup draft (SetClipBoundary t clip) (clip_tests graph t.0 clip)
        (change_named graph t.0 (λ node. record node { clip = clip }))
    pub set_hits : (t : TransformId) (regions : List HitRegion)
        → IsCall setup draft (SetHitRegions t regions) (hits_tests graph t.0 regions)
        (change_named graph t.0 (λ node. record node { hits = Some regions }))
    pub set_infinite : (t : TransformId) (i : Interaction) → (regions : List HitRegion)
        → regions ≡ (record { area = None; interaction = i }) ∷ []
        → IsCall setup draft (SetInfiniteHitRegion t i) (hits_tests graph t.0 regions)
        (change_named graph t.0 (λ node. record node { hits = Some regions }))
    pub set_content : (t : TransformId) (c : ContentId) (held : Option HeldContent) → IsContent c held
        → IsGiving t c held
    -- the viewport of a released name is taken from each transform
    pub drop_content : (c : ContentId) (serial : ℕ) → content_of draft c ≡ Some serial
        → StandsFor (without_held graph serial) (effect draft (ReleaseViewport c))
    pub clear : StandsFor (emptied graph) (effect draft Clear)
    pub keep : (marks : List Bool) → MayKeep marks graph → StandsFor (only_marked marks graph) draft

abbrev pub GraphCallsStand : Type 0
GraphCallsStand = (setup : Setup) (graph : GraphState) (draft : Draft) → StandsFor graph draft
    → CallsStand setup graph draft

-- the calls that change or name transforms; the others change contents, their names or the view
abbrev pub is_of_transforms : Call → Bool
is_of_transforms (CreateTransform t) = true
is_of_transforms (ReleaseTransform t) = true
is_of_transforms (SetTranslation t x y) = true
is_of_transforms (SetOrientation t o) = true
is_of_transforms (SetScale t x y) = true
is_of_transforms (SetOpacity t v) = true
is_of_transforms (SetClipBoundary t clip) = true
is_of_transforms (AddChild p k) = true
is_of_transforms (RemoveChild p k) = true
is_of_transforms (ReplaceChildren p ks) = true
is_of_transforms (SetRootTransform t) = true
is_of_transforms (SetHitRegions t regions) = true
is_of_transforms (SetInfiniteHitRegion t i) = true
is_of_transforms (SetContent t c) = true
is_of_transforms (ReleaseViewport c) = true
is_of_transforms Clear = true
is_of_transforms other = false

-- the other calls leave what the graph stands for
abbrev pub OtherCallsStand : Type 0
OtherCallsStand = (graph : GraphState) (draft : Draft) (call : Call) → is_of_transforms call ≡ false
    → StandsFor graph draft → StandsFor graph (effect draft call)
