-- Each orientation, and each flip of an image.
use Rattle.std.proofs.Common.{◌≡◌, ℤ, pos, negsuc, true, false, Bool, List, [], ◌∷◌, ◌++◌, map, refl}
use Rattle.flat_base.specs.declared.shapes.Orientation.{Orientation}
use Rattle.flat_base.specs.declared.shapes.Orientation.TheVariants.{Ccw0, Ccw90, Ccw180, Ccw270}
use Rattle.flat_base.specs.declared.shapes.Rect.{Rect}
use Rattle.flat_scene.specs.declared.calls.Call.{Call}
use Rattle.flat_scene.specs.declared.calls.Call.TheVariants as call
use Rattle.flat_scene.specs.declared.calls.ImageFlip.{ImageFlip}
use Rattle.flat_scene.specs.declared.calls.ImageFlip.TheVariants.{Plain, LeftRight, UpDown}
use Rattle.flat_scene.specs.declared.frames.DrawItem.{DrawItem}
use Rattle.flat_scene.specs.declared.frames.Paint.{Paint}
use Rattle.flat_scene.specs.declared.frames.Paint.TheVariants as paint
use Rattle.flat_scene.specs.declared.frames.SceneMatrix.{SceneMatrix}
use Rattle.flat_scene.specs.declared.setup.Setup.{Setup}
use Rattle.flat_topology.specs.Draw.{draw_list}
use Rattle.flat_examples.specs.Words.{s, p, t, c}
use Rattle.flat_examples.proofs.Scenes.{shown_by, units, fill_view, rooted, alone}

-- ---- a fill of 10 by 20 at (50, 50), scaled by 2 and by a half, so to 20 by 10, and then turned about (50, 50)

abbrev turned : Orientation → List DrawItem
turned o = draw_list alone (shown_by alone (calls ∷ []))
  where
    calls : List Call
    calls = fill_view 0 (pos 50) (pos 50) 10 20 ++ call.SetScale (t 1) 131072 32768 ∷ call.SetOrientation (t 1) o ∷ []

-- where it is drawn
abbrev area : Orientation → List Rect
area o = map (λ item. item.visible) (turned o)

-- to the right of its corner, and below
not_turned : area Ccw0 ≡ units 50 50 70 60 ∷ []
not_turned = refl

-- a quarter counterclockwise: to the right, and above
quarter : area Ccw90 ≡ units 50 30 60 50 ∷ []
quarter = refl

-- to the left, and above
half : area Ccw180 ≡ units 30 40 50 50 ∷ []
half = refl

-- to the left, and below
three_quarters : area Ccw270 ≡ units 40 50 50 70 ∷ []
three_quarters = refl

-- the matrices of the four
abbrev matrix : Bool → ℤ → ℤ → SceneMatrix
matrix swap a b = record { swap = swap; a = a; b = b; x = pos 3276800; y = pos 3276800 }

abbrev matrices : Orientation → List SceneMatrix
matrices o = map (λ item. item.matrix) (turned o)

not_turned_matrix : matrices Ccw0 ≡ matrix false (pos 131072) (pos 32768) ∷ []
not_turned_matrix = refl

quarter_matrix : matrices Ccw90 ≡ matrix true (pos 32768) (negsuc 131071) ∷ []
quarter_matrix = refl

half_matrix : matrices Ccw180 ≡ matrix false (negsuc 131071) (negsuc 32767) ∷ []
half_matrix = refl

three_quarters_matrix : matrices Ccw270 ≡ matrix true (negsuc 32767) (pos 131072) ∷ []
three_quarters_matrix = refl

-- ---- an image of 8 by 8, flipped

abbrev with_buffers : Setup
with_buffers = record alone { buffers = (record { owner = s 1; count = 1; w = 8; h = 8 }) ∷ [] }

abbrev image_calls : List Call → List Call
image_calls more = call.CreateView (p 0) ∷ call.CreateImage (c 1) (record { 0 = 0 }) 0 8 8 ∷ more ++ rooted (pos 0) (pos 0)

abbrev paints : List Call → List Paint
paints more = map (λ item. item.paint) (draw_list with_buffers (shown_by with_buffers (image_calls more ∷ [])))

-- the whole image, with its flip
abbrev painted : ImageFlip → List Paint
painted flip = paint.Image (record { 0 = 0 }) 0 (record { x = pos 0; y = pos 0; w = pos 8; h = pos 8 }) flip ∷ []

-- an image is plain until it is flipped, and the last flip counts
plain_at_first : paints [] ≡ painted Plain
plain_at_first = refl

left_right : paints (call.SetImageFlip (c 1) LeftRight ∷ []) ≡ painted LeftRight
left_right = refl

up_down : paints (call.SetImageFlip (c 1) UpDown ∷ []) ≡ painted UpDown
up_down = refl

plain_again : paints (call.SetImageFlip (c 1) UpDown ∷ call.SetImageFlip (c 1) Plain ∷ []) ≡ painted Plain
plain_again = refl
