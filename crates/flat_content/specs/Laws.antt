-- Each call keeps what a table stands for, and is refused where the draft's call is a misuse.
use Rattle.std.specs.Prelude.{ℕ, unwrap_or, ◌≡◌, Bool, true, false, List, [], ◌∷◌, Option, Some, None}
use Rattle.std.specs.List.{filter_map}
use Rattle.std.specs.Option.{option_and_then}
use Rattle.flat_base.specs.declared.ids.BufferNo.{BufferNo}
use Rattle.flat_base.specs.declared.ids.ContentId.{ContentId}
use Rattle.flat_base.specs.declared.ids.PairNo.{PairNo}
use Rattle.flat_base.specs.declared.shapes.IntRect.{IntRect}
use Rattle.flat_scene.specs.declared.calls.BlendMode.{BlendMode}
use Rattle.flat_scene.specs.declared.calls.ImageFlip.{ImageFlip}
use Rattle.flat_scene.specs.declared.calls.Inset.{Inset}
use Rattle.flat_scene.specs.declared.calls.Call.{Call}
use Rattle.flat_scene.specs.declared.calls.Call.TheVariants.{CreateViewport, SetViewportProperties, ReleaseViewport}
use Rattle.flat_scene.specs.declared.calls.Call.TheVariants.{CreateImage, SetImageSampleRegion, SetImageDestinationSize}
use Rattle.flat_scene.specs.declared.calls.Call.TheVariants.{SetImageBlendingFunction, SetImageFlip, SetImageOpacity}
use Rattle.flat_scene.specs.declared.calls.Call.TheVariants.{ReleaseImage, CreateFilledRect, SetSolidFill}
use Rattle.flat_scene.specs.declared.calls.Call.TheVariants.{ReleaseFilledRect, Clear}
use Rattle.flat_scene.specs.declared.setup.Setup.{Setup}
use Rattle.flat_scene.specs.Draft.{Draft, empty_draft, made_of}
use Rattle.flat_scene.specs.Effect.{effect}
use Rattle.flat_scene.specs.Misuse.{Test, misuse, first_reason, is_fill, is_image, is_viewport, names_content}
use Rattle.flat_scene.specs.Tree.{content_held, use_of}
use Rattle.flat_graph.specs.Laws.{IsContent}
use Rattle.flat_graph.specs.State.{GraphState}
use Rattle.flat_content.specs.declared.stored_content.StoredContent.TheVariants.{Fill, Viewport}
use Rattle.flat_content.specs.Reasons.{create_tests, image_tests, opacity_tests, properties_tests, sample_tests}
use Rattle.flat_content.specs.Reasons.{size_tests, sort_tests, solid_tests, viewport_tests}
use Rattle.flat_content.specs.Table.{TableState, change_named, cleared, content_at, empty_table, held_of, made_named}
use Rattle.flat_content.specs.Table.{new_image, on_image, on_viewport, released, use_at, viewport_released, with_stored}
use Rattle.flat_content.specs.Stands.{StandsFor}

-- a new table stands for the draft of a session that made no call
abbrev pub EmptyStands : Type 0
EmptyStands = (setup : Setup) → StandsFor setup (empty_table setup.buffers) empty_draft

module _ (setup : Setup) (table : TableState) (draft : Draft) where
  -- What a table's call asks is what the draft's call asks.
  -- Where there is no reason, the table after it stands for the draft after it.
  pub record IsCall (call : Call) (tests : List Test) (after : TableState) : Type 0 where
    pub reason : first_reason tests ≡ misuse setup draft call
    pub stands : first_reason tests ≡ None → StandsFor setup after (effect draft call)

  -- each call on a table that stands for a draft
  pub record CallsStand : Type 0 where
    pub create_fill : (c : ContentId) → IsCall (CreateFilledRect c) (create_tests table c.0)
        (with_stored table c.0 (Fill None))
    pub set_solid_fill : (c : ContentId) (r g b a w h : ℕ)
        → IsCall (SetSolidFill c r g b a w h) (solid_tests table c.0 w h)
        (change_named table c.0 (λ _. Fill (Some (record { rgba = r ∷ g ∷ b ∷ a ∷ []; size = (w, h) }))))
    pub release_filled_rect : (c : ContentId)
        → IsCall (ReleaseFilledRect c) (sort_tests table is_fill c.0) (released table c.0)
    pub create_viewport : (c : ContentId) (pair : PairNo) (w h : ℕ) (inset : Inset)
        → IsCall (CreateViewport c pair w h inset) (viewport_tests table c.0 w h)
        (with_stored table c.0 (Viewport pair (record { w = w; h = h; inset = inset })))
    pub set_viewport_properties : (c : ContentId) (w h : ℕ) (inset : Option Inset)
        → IsCall (SetViewportProperties c w h inset) (properties_tests table c.0 w h)
        (change_named table c.0 (on_viewport (λ props. record { w = w; h = h; inset = unwrap_or inset props.inset })))
    pub release_viewport : (c : ContentId)
        → IsCall (ReleaseViewport c) (sort_tests table is_viewport c.0) (viewport_released table c.0)
    pub create_image : (c : ContentId) (buffers : BufferNo) (i w h : ℕ)
        → IsCall (CreateImage c buffers i w h) (image_tests table c.0 buffers i w h)
        (with_stored table c.0 (new_image buffers i w h))
    pub set_image_sample_region : (c : ContentId) (rect : IntRect)
        → IsCall (SetImageSampleRegion c rect) (sample_tests table c.0 rect)
        (change_named table c.0 (on_image (λ image. record image { sample = rect })))
    pub set_image_destination_size : (c : ContentId) (w h : ℕ)
        → IsCall (SetImageDestinationSize c w h) (size_tests table c.0 w h)
        (change_named table c.0 (on_image (λ image. record image { destination = (w, h) })))
    pub set_image_blending_function : (c : ContentId) (m : BlendMode)
        → IsCall (SetImageBlendingFunction c m) (sort_tests table is_image c.0)
        (change_named table c.0 (on_image (λ image. record image { blend = m })))
    pub set_image_flip : (c : ContentId) (f : ImageFlip)
        → IsCall (SetImageFlip c f) (sort_tests table is_image c.0)
        (change_named table c.0 (on_image (λ image. record image { flip = f })))
    pub set_image_opacity : (c : ContentId) (v : ℕ)
        → IsCall (SetImageOpacity c v) (opacity_tests table c.0 v)
        (change_named table c.0 (on_image (λ image. record image { opacity = v })))
    pub release_image : (c : ContentId) → IsCall (ReleaseImage c) (sort_tests table is_image c.0) (released table c.0)
    pub clear : StandsFor setup (cleared table) (effect draft Clear)
    -- the contents that names stand for are the draft's
    pub made : (c : ContentId) → made_named table c.0 ≡ made_of draft c
    pub sorts : (c : ContentId) → first_reason (sort_tests table is_viewport c.0)
        ≡ first_reason (names_content draft is_viewport c)
    -- what a name gives to a transform is the draft's content of that name
    pub held : (graph : GraphState) (c : ContentId) → IsContent setup graph draft c (held_of table c.0)
    -- the viewports in use are the draft's, and what a transform shows is what the draft has it show
    pub uses : filter_map (use_at table) table.viewports ≡ filter_map (use_of draft) draft.viewports
    pub shown : (held : Option ℕ) → option_and_then (content_at table) held ≡ content_held draft held

abbrev pub ContentCallsStand : Type 0
ContentCallsStand = (setup : Setup) (table : TableState) (draft : Draft) → StandsFor setup table draft
    → CallsStand setup table draft

-- the calls that change contents or their names; the others change transforms, their names or the view
abbrev pub is_of_contents : Call → Bool
is_of_contents (CreateViewport c pair w h inset) = true
is_of_contents (SetViewportProperties c w h inset) = true
is_of_contents (ReleaseViewport c) = true
is_of_contents (CreateImage c buffers i w h) = true
is_of_contents (SetImageSampleRegion c rect) = true
is_of_contents (SetImageDestinationSize c w h) = true
is_of_contents (SetImageBlendingFunction c m) = true
is_of_contents (SetImageFlip c f) = true
is_of_contents (SetImageOpacity c v) = true
is_of_contents (ReleaseImage c) = true
is_of_contents (CreateFilledRect c) = true
is_of_contents (SetSolidFill c r g b a w h) = true
is_of_contents (ReleaseFilledRect c) = true
is_of_contents Clear = true
is_of_contents other = false

-- the other calls leave what the table stands for
abbrev pub OtherCallsStand : Type 0
OtherCallsStand =
    (setup : Setup) (table : TableState) (draft : Draft) (call : Call) → is_of_contents call ≡ false
    → StandsFor setup table draft → StandsFor setup table (effect draft call)
