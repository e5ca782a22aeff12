-- What a call that is no misuse does to the draft.
use Rattle.std.specs.Prelude.{Bool, false, option_to_list, ℕ, pos, ◌+◌, cond, not, ◌==◌, List, [], ◌∷◌, ◌++◌, length}
use Rattle.std.specs.Prelude.{filter, filter_map, map, Option, Some, None, Result, Ok, Err, unwrap_or}
use Rattle.flat_base.specs.declared.ids.TransformId.{TransformId}
use Rattle.flat_base.specs.declared.ids.ContentId.{ContentId}
use Rattle.flat_base.specs.declared.errors.Reason.{Reason}
use Rattle.flat_base.specs.declared.limits.TheConstants.{OPACITY_MAX}
use Rattle.flat_scene.specs.declared.calls.BlendMode.TheVariants.{Src}
use Rattle.flat_scene.specs.declared.calls.ImageFlip.TheVariants.{Plain}
use Rattle.flat_scene.specs.declared.calls.ViewportProps.{ViewportProps}
use Rattle.flat_base.specs.declared.ids.BufferNo.{BufferNo}
use Rattle.flat_scene.specs.declared.calls.Call.{Call}
use Rattle.flat_scene.specs.declared.calls.Call.TheVariants.{CreateView, ReleaseView, CreateTransform, ReleaseTransform}
use Rattle.flat_scene.specs.declared.calls.Call.TheVariants.{SetTranslation, SetOrientation, SetScale, SetOpacity}
use Rattle.flat_scene.specs.declared.calls.Call.TheVariants.{SetClipBoundary, AddChild, RemoveChild, ReplaceChildren}
use Rattle.flat_scene.specs.declared.calls.Call.TheVariants.{SetRootTransform, CreateViewport, SetViewportProperties}
use Rattle.flat_scene.specs.declared.calls.Call.TheVariants.{ReleaseViewport, CreateImage, SetImageSampleRegion}
use Rattle.flat_scene.specs.declared.calls.Call.TheVariants.{SetImageDestinationSize, SetImageBlendingFunction}
use Rattle.flat_scene.specs.declared.calls.Call.TheVariants.{SetImageFlip, SetImageOpacity, ReleaseImage}
use Rattle.flat_scene.specs.declared.calls.Call.TheVariants.{CreateFilledRect, SetSolidFill, ReleaseFilledRect}
use Rattle.flat_scene.specs.declared.calls.Call.TheVariants.{SetHitRegions, SetInfiniteHitRegion, SetContent, Clear}
use Rattle.flat_scene.specs.declared.setup.Setup.{Setup}
use Rattle.flat_scene.specs.Draft.{Draft, Transform, Image, Solid, Made, an_image, a_fill, a_viewport, new_transform}
use Rattle.flat_scene.specs.Draft.{empty_draft, changed_at, without_name, transform_of, content_of}
use Rattle.flat_scene.specs.Misuse.{misuse}

-- the list with the item of a serial changed, where there is that serial
abbrev pub changed_if : {A : Type 0} → Option ℕ → (A → A) → List A → List A
changed_if None f xs = xs
changed_if (Some serial) f xs = changed_at serial f xs

-- whether a number is that serial
abbrev pub is_serial : Option ℕ → ℕ → Bool
is_serial None n = false
is_serial (Some serial) n = n == serial

-- the draft with one transform changed, or one content
abbrev pub with_transform : Draft → TransformId → (Transform → Transform) → Draft
with_transform draft t f = record draft { transforms = changed_if (transform_of draft t) f draft.transforms }

abbrev pub with_content : Draft → ContentId → (Made → Made) → Draft
with_content draft c f = record draft { contents = changed_if (content_of draft c) f draft.contents }

-- the draft with one content more
abbrev pub with_made : Draft → ContentId → Made → Draft
with_made draft c made = record draft {
  contents = draft.contents ++ made ∷ [];
  content_names = draft.content_names ++ (record { id = c.0; serial = length draft.contents + 1 }) ∷ [];
}

-- the draft in which an id names no content
abbrev pub without_content_name : Draft → ContentId → Draft
without_content_name draft c = record draft { content_names = without_name c.0 draft.content_names }

-- what a transform holds, but for that content
abbrev pub held_but : Option ℕ → Option ℕ → Option ℕ
held_but out None = None
held_but out (Some serial) = cond (is_serial out serial) None (Some serial)

-- no transform holds the viewport, and it isn't among the live ones
abbrev pub without_viewport : Option ℕ → Draft → Draft
without_viewport viewport draft = record draft {
  viewports = filter (λ serial. not (is_serial viewport serial)) draft.viewports;
  transforms = map (λ (transform : Transform).
      let t : Transform = record transform { content = held_but viewport transform.content } in t) draft.transforms;
}

-- a transform with one child more, behind the others, and with one less
abbrev pub with_child : Option ℕ → Transform → Transform
with_child child transform = record transform { children = transform.children ++ option_to_list child }

abbrev pub without_child : Option ℕ → Transform → Transform
without_child child transform =
    record transform { children = filter (λ other. not (is_serial child other)) transform.children }

-- a transform with these children in place of its own
abbrev pub with_children : List ℕ → Transform → Transform
with_children children transform = record transform { children = children }

-- the serials that ids name, in their order
abbrev pub serials_of : Draft → List TransformId → List ℕ
serials_of draft = filter_map (transform_of draft)

-- a change of what is an image, a viewport or a fill, and of nothing else
abbrev pub on_image : (Image → Image) → Made → Made
on_image f (an_image image) = an_image (f image)
on_image f other = other

abbrev pub on_viewport : (ViewportProps → ViewportProps) → Made → Made
on_viewport f (a_viewport pair props) = a_viewport pair (f props)
on_viewport f other = other

abbrev pub on_fill : Solid → Made → Made
on_fill solid (a_fill before) = a_fill (Some solid)
on_fill solid other = other

-- an image as it is made, with its whole for the sample
abbrev pub new_image : BufferNo → ℕ → ℕ → ℕ → Made
new_image buffers i w h = an_image (record {
  buffers = buffers;
  index = i;
  size = (w, h);
  sample = record { x = pos 0; y = pos 0; w = pos w; h = pos h };
  destination = (w, h);
  blend = Src;
  flip = Plain;
  opacity = OPACITY_MAX;
})

-- the draft after a call, by the calls' table
abbrev pub effect : Draft → Call → Draft
effect draft (CreateView pair) = record draft { view = Some pair }
effect draft ReleaseView = record draft { view = None }
effect draft (CreateTransform t) = record draft {
  transforms = draft.transforms ++ new_transform ∷ [];
  transform_names = draft.transform_names ++ (record { id = t.0; serial = length draft.transforms + 1 }) ∷ [];
}
effect draft (ReleaseTransform t) = record draft { transform_names = without_name t.0 draft.transform_names }
effect draft (SetTranslation t x y) = with_transform draft t (λ transform. record transform { place = (x, y) })
effect draft (SetOrientation t o) = with_transform draft t (λ transform. record transform { turn = o })
effect draft (SetScale t sx sy) = with_transform draft t (λ transform. record transform { scale = (sx, sy) })
effect draft (SetOpacity t v) = with_transform draft t (λ transform. record transform { opacity = v })
effect draft (SetClipBoundary t rect) = with_transform draft t (λ transform. record transform { clip = rect })
effect draft (AddChild p k) = with_transform draft p (with_child (transform_of draft k))
effect draft (RemoveChild p k) = with_transform draft p (without_child (transform_of draft k))
effect draft (ReplaceChildren p ks) = with_transform draft p (with_children (serials_of draft ks))
effect draft (SetRootTransform t) = record draft { root = transform_of draft t }
effect draft (CreateViewport c pair w h inset) =
    record (with_made draft c (a_viewport pair (record { w = w; h = h; inset = inset })))
    { viewports = draft.viewports ++ (length draft.contents + 1) ∷ [] }
effect draft (SetViewportProperties c w h inset) =
    with_content draft c (on_viewport (λ props. record { w = w; h = h; inset = unwrap_or inset props.inset }))
effect draft (ReleaseViewport c) = without_viewport (content_of draft c) (without_content_name draft c)
effect draft (CreateImage c buffers i w h) = with_made draft c (new_image buffers i w h)
effect draft (SetImageSampleRegion c rect) = with_content draft c (on_image (λ image. record image { sample = rect }))
effect draft (SetImageDestinationSize c w h) =
    with_content draft c (on_image (λ image. record image { destination = (w, h) }))
effect draft (SetImageBlendingFunction c m) = with_content draft c (on_image (λ image. record image { blend = m }))
effect draft (SetImageFlip c f) = with_content draft c (on_image (λ image. record image { flip = f }))
effect draft (SetImageOpacity c v) = with_content draft c (on_image (λ image. record image { opacity = v }))
effect draft (ReleaseImage c) = without_content_name draft c
effect draft (CreateFilledRect c) = with_made draft c (a_fill None)
effect draft (SetSolidFill c r g b a w h) =
    with_content draft c (on_fill (record { rgba = r ∷ g ∷ b ∷ a ∷ []; size = (w, h) }))
effect draft (ReleaseFilledRect c) = without_content_name draft c
effect draft (SetHitRegions t regions) = with_transform draft t (λ transform. record transform { hits = Some regions })
effect draft (SetInfiniteHitRegion t i) =
    with_transform draft t
    (λ transform. record transform { hits = Some ((record { area = None; interaction = i }) ∷ []) })
effect draft (SetContent t c) = with_transform draft t (λ transform. record transform { content = content_of draft c })
effect draft Clear = record draft { view = None; transform_names = []; content_names = []; root = None; viewports = [] }

-- the draft after a call, unless a reason is given
abbrev pub unless : Option Reason → Draft → Result Draft Reason
unless (Some reason) draft = Err reason
unless None draft = Ok draft

-- The draft after one more call, and after several. The first misuse decides.
abbrev pub after_call : Setup → Result Draft Reason → Call → Result Draft Reason
after_call setup (Err reason) call = Err reason
after_call setup (Ok draft) call = unless (misuse setup draft call) (effect draft call)

abbrev pub after_calls : Setup → Result Draft Reason → List Call → Result Draft Reason
after_calls setup draft [] = draft
after_calls setup draft (call ∷ calls) = after_calls setup (after_call setup draft call) calls

-- what a session's calls make: a draft, or the reason of the first misuse
abbrev pub draft_of : Setup → List Call → Result Draft Reason
draft_of setup = after_calls setup (Ok empty_draft)
