-- A session's draft: all that it ever made, and what its names stand for.
use Rattle.std.specs.Prelude.{ℕ, ℤ, pos, ◌-◌, cond, ◌==◌, not, List, [], ◌∷◌, filter, Option, Some, None}
use Rattle.std.specs.Option.{option_and_then}
use Rattle.flat_base.specs.declared.shapes.IntRect.{IntRect}
use Rattle.flat_base.specs.declared.ids.PairNo.{PairNo}
use Rattle.flat_base.specs.declared.ids.BufferNo.{BufferNo}
use Rattle.flat_base.specs.declared.ids.TransformId.{TransformId}
use Rattle.flat_base.specs.declared.ids.ContentId.{ContentId}
use Rattle.flat_base.specs.declared.shapes.Orientation.{Orientation}
use Rattle.flat_base.specs.declared.shapes.Orientation.TheVariants.{Ccw0}
use Rattle.flat_base.specs.declared.limits.TheConstants.{ONE, OPACITY_MAX}
use Rattle.flat_scene.specs.declared.calls.HitRegion.{HitRegion}
use Rattle.flat_scene.specs.declared.calls.ImageFlip.{ImageFlip}
use Rattle.flat_scene.specs.declared.calls.Inset.{Inset}
use Rattle.flat_scene.specs.declared.calls.BlendMode.{BlendMode}
use Rattle.flat_scene.specs.declared.calls.ViewportProps.{ViewportProps}

-- A transform. Its content and its children are serial numbers.
-- Where no hit call was made on it, it has no list of regions.
pub record Transform : Type 0 where
  pub scale : ℕ × ℕ
  pub turn : Orientation
  pub place : ℤ × ℤ
  pub clip : Option IntRect
  pub opacity : ℕ
  pub hits : Option (List HitRegion)
  pub content : Option ℕ
  pub children : List ℕ

-- An image, with the size that it was made with and the size at which it is drawn.
pub record Image : Type 0 where
  pub buffers : BufferNo
  pub index : ℕ
  pub size : ℕ × ℕ
  pub sample : IntRect
  pub destination : ℕ × ℕ
  pub blend : BlendMode
  pub flip : ImageFlip
  pub opacity : ℕ

-- The colour and the size of a filled rectangle.
pub record Solid : Type 0 where
  pub rgba : List ℕ
  pub size : ℕ × ℕ

-- the inset of a viewport that cuts nothing off
abbrev pub no_inset : Inset
no_inset = record { top = 0; right = 0; bottom = 0; left = 0 }

-- A content that was made. A filled rectangle has no colour and no size before its first SetSolidFill.
pub data Made : Type 0 where
  an_image : Image → Made
  a_fill : Option Solid → Made
  a_viewport : PairNo → ViewportProps → Made

-- An id that names a serial.
pub record Name : Type 0 where
  pub id : ℕ
  pub serial : ℕ

-- The n-th transform that a session made has the serial number n, and so has the n-th content.
-- None is ever taken away; names come and go.
pub record Draft : Type 0 where
  pub transforms : List Transform
  pub contents : List Made
  pub transform_names : List Name
  pub content_names : List Name
  pub root : Option ℕ
  pub view : Option PairNo
  -- the serials of those neither released nor cleared
  pub viewports : List ℕ

-- a transform as it is made
abbrev pub new_transform : Transform
new_transform = record {
  scale = (ONE, ONE);
  turn = Ccw0;
  place = (pos 0, pos 0);
  clip = None;
  opacity = OPACITY_MAX;
  hits = None;
  content = None;
  children = [];
}

-- the draft of a session that made no call
abbrev pub empty_draft : Draft
empty_draft = record {
  transforms = [];
  contents = [];
  transform_names = [];
  content_names = [];
  root = None;
  view = None;
  viewports = [];
}

-- the item of a serial
abbrev pub of_serial : {A : Type 0} → List A → ℕ → Option A
of_serial [] serial = None
of_serial (x ∷ xs) serial = cond (serial == 1) (Some x) (of_serial xs (serial - 1))

-- the list with the item of a serial changed
abbrev pub changed_at : {A : Type 0} → ℕ → (A → A) → List A → List A
changed_at serial f [] = []
changed_at serial f (x ∷ xs) = cond (serial == 1) (f x ∷ xs) (x ∷ changed_at (serial - 1) f xs)

-- the serial that an id names
abbrev pub named : List Name → ℕ → Option ℕ
named [] id = None
named (name ∷ names) id = cond (name.id == id) (Some name.serial) (named names id)

-- the names but for that of an id
abbrev pub without_name : ℕ → List Name → List Name
without_name id = filter (λ name. not (name.id == id))

-- the serials of what an id names
abbrev pub transform_of : Draft → TransformId → Option ℕ
transform_of draft t = named draft.transform_names t.0

abbrev pub content_of : Draft → ContentId → Option ℕ
content_of draft c = named draft.content_names c.0

-- the content that an id names
abbrev pub made_of : Draft → ContentId → Option Made
made_of draft c = option_and_then (of_serial draft.contents) (content_of draft c)
