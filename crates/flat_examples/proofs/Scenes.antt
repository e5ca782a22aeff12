-- Scenes made by calls, and what a frame makes of them.
use Rattle.std.proofs.Common.{◌*◌, ℕ, ℤ, pos, List, [], ◌∷◌, map}
use Rattle.std.specs.Prelude.{option_and_then}
use Rattle.std.specs.Result.{result_ok}
use Rattle.flat_base.specs.declared.shapes.Rect.{Rect}
use Rattle.flat_scene.specs.declared.calls.Call.{Call}
use Rattle.flat_scene.specs.declared.calls.Call.TheVariants as call
use Rattle.flat_scene.specs.declared.calls.Inset.{Inset}
use Rattle.flat_scene.specs.declared.setup.Setup.{Setup}
use Rattle.flat_scene.specs.Effect.{draft_of}
use Rattle.flat_scene.specs.Tree.{tree}
use Rattle.flat_topology.specs.Shown.{Shown}
use Rattle.flat_examples.specs.Words.{p, t, c, display_over, over, setup_of}

-- what sessions show that made these calls, session 1 first
abbrev pub shown_by : Setup → List (List Call) → Shown
shown_by setup sessions = map (λ calls. option_and_then tree (result_ok (draft_of setup calls))) sessions

-- a rectangle in whole units
abbrev pub units : ℕ → ℕ → ℕ → ℕ → Rect
units x0 y0 x1 y1 = record { x0 = pos (x0 * 65536); y0 = pos (y0 * 65536); x1 = pos (x1 * 65536); y1 = pos (y1 * 65536) }

-- a root with a content, at a place
abbrev pub rooted : ℤ → ℤ → List Call
rooted x y = call.CreateTransform (t 1) ∷ call.SetRootTransform (t 1) ∷ call.SetTranslation (t 1) x y ∷ call.SetContent (t 1) (c 1) ∷ []

-- the view of a pair that shows a grey fill of that size, at a place
abbrev pub fill_view : ℕ → ℤ → ℤ → ℕ → ℕ → List Call
fill_view pair x y w h = call.CreateView (p pair) ∷ call.CreateFilledRect (c 1) ∷ call.SetSolidFill (c 1) 9 9 9 255 w h ∷ rooted x y

-- the view of the display's pair that shows a viewport of pair 1 of 30 by 40, at (10, 20)
abbrev pub viewport_view : Inset → List Call
viewport_view inset = call.CreateView (p 0) ∷ call.CreateViewport (c 1) (p 1) 30 40 inset ∷ rooted (pos 10) (pos 20)

-- a display of 100 by 100 at a pixel ratio, with one session, and with one below another
abbrev pub alone : Setup
alone = setup_of 1 (display_over 1 ∷ []) []

abbrev pub nested : ℕ → Setup
nested ratio = record (setup_of 2 (display_over 1 ∷ over 1 2 ∷ []) []) { ratio = ratio }
