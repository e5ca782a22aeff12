-- What is seen of a picture that was drawn.
use Rattle.std.proofs.Common.{ℕ, ◌≡◌, refl, ap, ◌∙◌, Bool, true, false, if◌then◌else◌, List, [], ◌∷◌}
use Rattle.flat_base.specs.declared.shapes.Rect.{Rect}
use Rattle.flat_scene.specs.declared.frames.DrawItem.{DrawItem}
use Rattle.flat_ink.specs.Channels.{channel_after}
use Rattle.flat_render.specs.Damaged.{is_in_any}
use Rattle.flat_ink.specs.Pixels.{pixel}
use Rattle.flat_render.proofs.Channels.{pixel-channels}

-- the colour of a pixel, drawn anew where a test holds, channel by channel
pub redrawn-channels : (b : Bool) (items : List DrawItem) (px py r0 g0 b0 r1 g1 b1 : ℕ)
    → r1 ≡ (if b then channel_after 0 items px py 0 else r0) → g1 ≡ (if b then channel_after 1 items px py 0 else g0)
    → b1 ≡ (if b then channel_after 2 items px py 0 else b0)
    → r1 ∷ g1 ∷ b1 ∷ [] ≡ (if b then pixel items px py else r0 ∷ g0 ∷ b0 ∷ [])
redrawn-channels true items px py r0 g0 b0 r1 g1 b1 e f h = pixel-channels items px py r1 g1 b1 e f h
redrawn-channels false items px py r0 g0 b0 r1 g1 b1 e f h = rw (e, f, h) refl

-- a channel that was drawn anew, by what stands where it is stored
pub same-choice : (rs ss : List Rect) (x px y py drawn after o p : ℕ) → rs ≡ ss → x ≡ px → y ≡ py → drawn ≡ after → o ≡ p
    → (if is_in_any rs x y then drawn else o) ≡ (if is_in_any ss px py then after else p)
same-choice rs ss x px y py drawn after o p e f g h k =
    ap (λ (b : Bool). if b then drawn else o)
    (ap (λ (rects : List Rect). is_in_any rects x y) e ∙ ap (λ (n : ℕ). is_in_any ss n y) f ∙ ap (λ (n : ℕ). is_in_any ss px n) g)
    ∙ ap (λ (n : ℕ). if is_in_any ss px py then n else o) h ∙ ap (λ (n : ℕ). if is_in_any ss px py then after else n) k
