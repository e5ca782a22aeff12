-- When a call is a misuse, and by which reason. That a token isn't held is decided elsewhere.
use Rattle.std.specs.Prelude.{ℕ, ℤ, pos, ◌+ℤ◌, ◌-◌, ◌^◌, int_lt, Bool, true, false, cond, not, ◌&&◌, ◌||◌, ◌==◌, nat_lt}
use Rattle.std.specs.Prelude.{nat_le, List, [], ◌∷◌, ◌++◌, length, map, Option, Some, None, is_some, is_none, slice_get}
use Rattle.std.specs.Option.{option_and_then, option_map, unwrap_or}
use Rattle.std.specs.List.{list_any}
use Rattle.std.specs.Int.{is_negative}
use Rattle.flat_base.specs.declared.shapes.IntRect.{IntRect}
use Rattle.flat_base.specs.declared.ids.TransformId.{TransformId}
use Rattle.flat_base.specs.declared.ids.ContentId.{ContentId}
use Rattle.flat_base.specs.declared.errors.Reason.{Reason}
use Rattle.flat_base.specs.declared.errors.Reason.TheVariants.{ZeroId, IdInUse, UnknownTransform, UnknownContent}
use Rattle.flat_base.specs.declared.errors.Reason.TheVariants.{WrongContent, AlreadyChild, NotChild, BadScale}
use Rattle.flat_base.specs.declared.errors.Reason.TheVariants.{BadOpacity, BadRect, BadSize, BadBuffer, TooManyRegions}
use Rattle.flat_base.specs.declared.errors.Reason.TheVariants.{HasView, NoView, TooManyNamed, TooManyChildren}
use Rattle.flat_base.specs.declared.limits.TheConstants.{SIDE_MAX, SCALE_MAX, OPACITY_MAX, NAMED_MAX, CHILDREN_MAX}
use Rattle.flat_base.specs.declared.limits.TheConstants.{HIT_REGIONS_MAX}
use Rattle.flat_scene.specs.declared.calls.Call.{Call}
use Rattle.flat_scene.specs.declared.calls.Call.TheVariants.{CreateView, ReleaseView, CreateTransform, ReleaseTransform}
use Rattle.flat_scene.specs.declared.calls.Call.TheVariants.{SetTranslation, SetOrientation, SetScale, SetOpacity}
use Rattle.flat_scene.specs.declared.calls.Call.TheVariants.{SetClipBoundary, AddChild, RemoveChild, ReplaceChildren}
use Rattle.flat_scene.specs.declared.calls.Call.TheVariants.{SetRootTransform, CreateViewport, SetViewportProperties}
use Rattle.flat_scene.specs.declared.calls.Call.TheVariants.{ReleaseViewport, CreateImage, SetImageSampleRegion}
use Rattle.flat_scene.specs.declared.calls.Call.TheVariants.{SetImageDestinationSize, SetImageBlendingFunction}
use Rattle.flat_scene.specs.declared.calls.Call.TheVariants.{SetImageFlip, SetImageOpacity, ReleaseImage}
use Rattle.flat_scene.specs.declared.calls.Call.TheVariants.{CreateFilledRect, SetSolidFill, ReleaseFilledRect}
use Rattle.flat_scene.specs.declared.calls.Call.TheVariants.{SetHitRegions, SetInfiniteHitRegion, SetContent, Clear}
use Rattle.flat_scene.specs.declared.setup.Setup.{Setup}
use Rattle.flat_scene.specs.declared.setup.BufferDecl.{BufferDecl}
use Rattle.flat_scene.specs.Draft.{Draft, Made, an_image, a_fill, a_viewport, of_serial, transform_of, content_of}
use Rattle.flat_scene.specs.Draft.{made_of}

-- What may be wrong, and the reason for it.
abbrev pub Test : Type 0
Test = Bool × Reason

-- the first reason whose test holds
abbrev pub first_reason : List Test → Option Reason
first_reason [] = None
first_reason (test ∷ tests) = cond test.0 (Some test.1) (first_reason tests)

-- a size of nothing, or above the limit
abbrev pub is_bad_side : ℕ → Bool
is_bad_side n = n == 0 || nat_lt SIDE_MAX n

abbrev pub is_bad_scale : ℕ → Bool
is_bad_scale n = n == 0 || nat_lt SCALE_MAX n

-- a number above another
abbrev pub is_above : ℤ → ℕ → Bool
is_above z n = int_lt (pos n) z

-- a side is less than 1, or an end is above the largest i32
abbrev pub is_bad_rect : IntRect → Bool
is_bad_rect r =
    int_lt r.w (pos 1) || int_lt r.h (pos 1) || is_above (r.x +ℤ r.w) (2 ^ 31 - 1) || is_above (r.y +ℤ r.h) (2 ^ 31 - 1)

-- the same of a rectangle that may be left out
abbrev pub is_bad_area : Option IntRect → Bool
is_bad_area (Some r) = is_bad_rect r
is_bad_area None = false

-- the rectangle leaves an image of that size
abbrev pub leaves : IntRect → ℕ × ℕ → Bool
leaves r size = is_negative r.x || is_negative r.y || is_above (r.x +ℤ r.w) size.0 || is_above (r.y +ℤ r.h) size.1

abbrev pub leaves_made : IntRect → Option Made → Bool
leaves_made r (Some (an_image image)) = leaves r image.size
leaves_made r _ = false

-- the sorts of content
abbrev pub is_image : Option Made → Bool
is_image (Some (an_image image)) = true
is_image _ = false

abbrev pub is_viewport : Option Made → Bool
is_viewport (Some (a_viewport pair props)) = true
is_viewport _ = false

abbrev pub is_fill : Option Made → Bool
is_fill (Some (a_fill solid)) = true
is_fill _ = false

-- the index is none of the collection's
abbrev pub is_bad_index : Option BufferDecl → ℕ → Bool
is_bad_index (Some buffers) i = nat_le buffers.count i
is_bad_index None i = true

-- the image is empty, or larger than the collection's buffers
abbrev pub is_bad_image : Option BufferDecl → ℕ → ℕ → Bool
is_bad_image (Some buffers) w h = w == 0 || h == 0 || nat_lt buffers.w w || nat_lt buffers.h h
is_bad_image None w h = false

-- a number stands twice in a list
abbrev pub has_twice : List ℕ → Bool
has_twice [] = false
has_twice (x ∷ xs) = list_any (λ y. x == y) xs || has_twice xs

-- the serials of the children of the transform that an id names
abbrev pub children_of : Draft → TransformId → List ℕ
children_of draft t = unwrap_or (option_map (λ transform. transform.children)
    (option_and_then (of_serial draft.transforms) (transform_of draft t))) []

-- whether k is a child of p
abbrev pub is_child : Draft → TransformId → TransformId → Bool
is_child draft p k =
    unwrap_or (option_map (λ serial. list_any (λ child. child == serial) (children_of draft p)) (transform_of draft k))
    false

-- what is asked of an id, before all else: that it names a transform, or a content of a sort
abbrev pub names_transform : Draft → TransformId → List Test
names_transform draft t = (t.0 == 0, ZeroId) ∷ (is_none (transform_of draft t), UnknownTransform) ∷ []

abbrev pub names_content : Draft → (Option Made → Bool) → ContentId → List Test
names_content draft sort c =
    (c.0 == 0, ZeroId) ∷ (is_none (content_of draft c), UnknownContent)
    ∷ (not (sort (made_of draft c)), WrongContent) ∷ []

-- what is asked of an id that is to name something new
abbrev pub is_new_transform : Draft → TransformId → List Test
is_new_transform draft t = (t.0 == 0, ZeroId) ∷ (is_some (transform_of draft t), IdInUse) ∷ []

abbrev pub is_new_content : Draft → ContentId → List Test
is_new_content draft c = (c.0 == 0, ZeroId) ∷ (is_some (content_of draft c), IdInUse) ∷ []

-- a list has as many items as it may have
abbrev pub is_full : {A : Type 0} → ℕ → List A → Bool
is_full limit xs = nat_le limit (length xs)

-- What is asked of each call, in the order of the reasons.
abbrev pub tests : Setup → Draft → Call → List Test
tests setup draft (CreateView pair) = (is_some draft.view, HasView) ∷ []
tests setup draft ReleaseView = (is_none draft.view, NoView) ∷ []
tests setup draft (CreateTransform t) = is_new_transform draft t
    ++ (is_full NAMED_MAX draft.transform_names, TooManyNamed) ∷ []
tests setup draft (ReleaseTransform t) = names_transform draft t
tests setup draft (SetTranslation t x y) = names_transform draft t
tests setup draft (SetOrientation t o) = names_transform draft t
tests setup draft (SetScale t sx sy) = names_transform draft t ++ (is_bad_scale sx || is_bad_scale sy, BadScale) ∷ []
tests setup draft (SetOpacity t v) = names_transform draft t ++ (nat_lt OPACITY_MAX v, BadOpacity) ∷ []
tests setup draft (SetClipBoundary t rect) = names_transform draft t ++ (is_bad_area rect, BadRect) ∷ []
tests setup draft (AddChild p k) =
    (p.0 == 0 || k.0 == 0, ZeroId)
    ∷ (is_none (transform_of draft p) || is_none (transform_of draft k), UnknownTransform)
    ∷ (is_child draft p k, AlreadyChild) ∷ (is_full CHILDREN_MAX (children_of draft p), TooManyChildren) ∷ []
tests setup draft (RemoveChild p k) =
    (p.0 == 0 || k.0 == 0, ZeroId)
    ∷ (is_none (transform_of draft p) || is_none (transform_of draft k), UnknownTransform)
    ∷ (not (is_child draft p k), NotChild) ∷ []
tests setup draft (ReplaceChildren p ks) =
    (p.0 == 0 || list_any (λ k. k.0 == 0) ks, ZeroId)
    ∷ (is_none (transform_of draft p) || list_any (λ k. is_none (transform_of draft k)) ks, UnknownTransform)
    ∷ (has_twice (map (λ (k : TransformId). k.0) ks), AlreadyChild)
    ∷ (nat_lt CHILDREN_MAX (length ks), TooManyChildren) ∷ []
tests setup draft (SetRootTransform t) = (not (t.0 == 0) && is_none (transform_of draft t), UnknownTransform) ∷ []
tests setup draft (CreateViewport c pair w h inset) =
    is_new_content draft c
    ++ (is_bad_side w || is_bad_side h, BadSize) ∷ (is_full NAMED_MAX draft.content_names, TooManyNamed) ∷ []
tests setup draft (SetViewportProperties c w h inset) = names_content draft is_viewport c
    ++ (is_bad_side w || is_bad_side h, BadSize) ∷ []
tests setup draft (ReleaseViewport c) = names_content draft is_viewport c
tests setup draft (CreateImage c buffers i w h) =
    is_new_content draft c ++ (is_bad_image (slice_get setup.buffers buffers.0) w h, BadSize)
    ∷ (is_bad_index (slice_get setup.buffers buffers.0) i, BadBuffer)
    ∷ (is_full NAMED_MAX draft.content_names, TooManyNamed) ∷ []
tests setup draft (SetImageSampleRegion c rect) =
    names_content draft is_image c ++ (is_bad_rect rect || leaves_made rect (made_of draft c), BadRect) ∷ []
tests setup draft (SetImageDestinationSize c w h) = names_content draft is_image c
    ++ (is_bad_side w || is_bad_side h, BadSize) ∷ []
tests setup draft (SetImageBlendingFunction c m) = names_content draft is_image c
tests setup draft (SetImageFlip c f) = names_content draft is_image c
tests setup draft (SetImageOpacity c v) = names_content draft is_image c ++ (nat_lt OPACITY_MAX v, BadOpacity) ∷ []
tests setup draft (ReleaseImage c) = names_content draft is_image c
tests setup draft (CreateFilledRect c) = is_new_content draft c
    ++ (is_full NAMED_MAX draft.content_names, TooManyNamed) ∷ []
tests setup draft (SetSolidFill c r g b a w h) = names_content draft is_fill c
    ++ (is_bad_side w || is_bad_side h, BadSize) ∷ []
tests setup draft (ReleaseFilledRect c) = names_content draft is_fill c
tests setup draft (SetHitRegions t regions) =
    names_transform draft t ++ (list_any (λ region. is_bad_area region.area) regions, BadRect)
    ∷ (nat_lt HIT_REGIONS_MAX (length regions), TooManyRegions) ∷ []
tests setup draft (SetInfiniteHitRegion t i) = names_transform draft t
tests setup draft (SetContent t c) = names_transform draft t
    ++ (not (c.0 == 0) && is_none (content_of draft c), UnknownContent) ∷ []
tests setup draft Clear = []

-- the reason by which a call is a misuse
abbrev pub misuse : Setup → Draft → Call → Option Reason
misuse setup draft call = first_reason (tests setup draft call)
