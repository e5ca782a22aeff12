-- The colour of a pixel, by its channels.
use Rattle.std.proofs.Common.{ℕ, ◌≡◌, refl, ap, ◌∙◌, Bool, true, false, if◌then◌else◌, List, [], ◌∷◌}
use Rattle.std.specs.Prelude.{fold}
use Rattle.flat_scene.specs.declared.frames.DrawItem.{DrawItem}
use Rattle.flat_ink.specs.Channels.{channel_painted, channel_step, channel_after}
use Rattle.flat_ink.specs.Pixels.{covers, painted, step, pixel}

step-channels : (item : DrawItem) (px py a b c : ℕ)
    → step item px py (a ∷ b ∷ c ∷ []) ≡ channel_step 0 item px py a ∷ channel_step 1 item px py b ∷ channel_step 2 item px py c ∷ []
step-channels item px py a b c = by_test (covers item px py) where
  all : painted item px py (a ∷ b ∷ c ∷ []) ≡ channel_painted 0 item px py a ∷ channel_painted 1 item px py b ∷ channel_painted 2 item px py c ∷ []
  all = unfold painted in unfold channel_painted in refl

  by_test : (t : Bool) → (if t then painted item px py (a ∷ b ∷ c ∷ []) else a ∷ b ∷ c ∷ [])
      ≡ (if t then channel_painted 0 item px py a else a) ∷ (if t then channel_painted 1 item px py b else b)
      ∷ (if t then channel_painted 2 item px py c else c) ∷ []
  by_test true = all
  by_test false = refl

after-channels : (items : List DrawItem) (px py a b c : ℕ) → fold (λ old item. step item px py old) (a ∷ b ∷ c ∷ []) items
    ≡ channel_after 0 items px py a ∷ channel_after 1 items px py b ∷ channel_after 2 items px py c ∷ []
after-channels [] px py a b c = refl
after-channels (item ∷ items) px py a b c =
    ap (λ (was : List ℕ). fold (λ old it. step it px py old) was items) (step-channels item px py a b c)
    ∙ after-channels items px py (channel_step 0 item px py a) (channel_step 1 item px py b) (channel_step 2 item px py c)

-- a colour by its channels
pub pixel-channels : (items : List DrawItem) (px py r g b : ℕ) → r ≡ channel_after 0 items px py 0 → g ≡ channel_after 1 items px py 0
    → b ≡ channel_after 2 items px py 0
    → r ∷ g ∷ b ∷ [] ≡ pixel items px py
pixel-channels items px py r g b e f h = rw (e, f, h, after-channels items px py 0 0 0) refl
