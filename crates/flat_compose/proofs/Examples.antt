-- What a brush stands for.
use Rattle.std.proofs.Common.{◌≡◌, refl, [], ◌∷◌, Some}
use Rattle.flat_scene.specs.declared.frames.Paint.TheVariants as paint
use Rattle.flat_scene.specs.declared.trees.Content.TheVariants as content
use Rattle.flat_scene.specs.declared.calls.BlendMode.TheVariants.{Src}
use Rattle.flat_topology.specs.Draw.{painting_of}
use Rattle.flat_compose.specs.declared.brush.Brush.{Brush}
use Rattle.flat_compose.specs.Brushes.{painting}

abbrev red : Brush
red = record { serial = 7; paint = paint.Fill (255 ∷ 0 ∷ 0 ∷ 255 ∷ []); w = 10; h = 20; opacity = 32768; blend = Src }

-- a red fill, half seen through
red_fill : Some (painting red) ≡ painting_of 32768 (Some (content.Fill 7 (255 ∷ 0 ∷ 0 ∷ 255 ∷ []) 10 20))
red_fill = refl
