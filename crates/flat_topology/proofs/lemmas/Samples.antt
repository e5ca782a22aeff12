-- Small scenes, on which the definitions are computed.
use Rattle.std.proofs.Common.{ℕ, ℤ, pos, List, [], ◌∷◌, Option, Some, None}
use Rattle.flat_base.specs.declared.ids.Actor.TheVariants.{Display, Session}
use Rattle.flat_base.specs.declared.ids.PairNo.{PairNo}
use Rattle.flat_base.specs.declared.ids.SessionNo.{SessionNo}
use Rattle.flat_base.specs.declared.shapes.IntRect.{IntRect}
use Rattle.flat_base.specs.declared.shapes.Orientation.TheVariants.{Ccw0, Ccw90}
use Rattle.flat_base.specs.declared.shapes.Rect.{Rect}
use Rattle.flat_scene.specs.declared.calls.BlendMode.TheVariants.{Src}
use Rattle.flat_scene.specs.declared.calls.HitRegion.{HitRegion}
use Rattle.flat_scene.specs.declared.calls.ImageFlip.TheVariants.{Plain}
use Rattle.flat_scene.specs.declared.calls.Interaction.{Interaction}
use Rattle.flat_scene.specs.declared.calls.Interaction.TheVariants.{Default}
use Rattle.flat_scene.specs.declared.setup.PairDecl.{PairDecl}
use Rattle.flat_scene.specs.declared.setup.Setup.{Setup}
use Rattle.flat_scene.specs.declared.trees.Children.{Children}
use Rattle.flat_scene.specs.declared.trees.Children.TheVariants.{Empty}
use Rattle.flat_scene.specs.declared.trees.Content.{Content}
use Rattle.flat_scene.specs.declared.trees.Content.TheVariants as content
use Rattle.flat_scene.specs.declared.trees.Node.{Node}
use Rattle.flat_scene.specs.declared.trees.Tree.{Tree}
use Rattle.flat_scene.specs.Trees.{more}
use Rattle.flat_topology.specs.Shown.{Shown}

-- ---- words for scenes

abbrev pub session : ℕ → SessionNo
session n = record { 0 = n }

abbrev pub pair : ℕ → PairNo
pair n = record { 0 = n }

abbrev pub rect : ℤ → ℤ → ℤ → ℤ → Rect
rect x0 y0 x1 y1 = record { x0 = x0; y0 = y0; x1 = x1; y1 = y1 }

abbrev pub whole : ℕ → ℕ → IntRect
whole w h = record { x = pos 0; y = pos 0; w = pos w; h = pos h }

abbrev pub display_over : ℕ → PairDecl
display_over s = record { viewport = Display; view = session s }

abbrev pub over : ℕ → ℕ → PairDecl
over parent child = record { viewport = Session (session parent); view = session child }

abbrev pub setup_of : ℕ → ℕ → ℕ → List PairDecl → Setup
setup_of w h sessions pairs = record { width = w; height = h; sessions = sessions; probes = 0; pairs = pairs; buffers = []; fences = []; ratio = 65536 }

abbrev pub everywhere : HitRegion
everywhere = record { area = None; interaction = Default }

-- a node that is only moved
abbrev pub moved : ℕ → ℤ → ℤ → List HitRegion → Option Content → Children → Node
moved serial x y hits what children = record {
  serial = serial;
  scale = (65536, 65536);
  turn = Ccw0;
  place = (x, y);
  clip = None;
  opacity = 65536;
  hits = hits;
  content = what;
  children = children;
}

-- a root of that content alone
abbrev pub root_with : Option Content → Node
root_with what = moved 1 (pos 0) (pos 0) (everywhere ∷ []) what Empty

abbrev pub viewport : ℕ → ℕ → ℕ → ℕ → Option Content
viewport serial p w h = Some (content.Viewport serial (pair p) (record { w = w; h = h; inset = record { top = 0; right = 0; bottom = 0; left = 0 } }))

abbrev pub fill : ℕ → List ℕ → ℕ → ℕ → Option Content
fill serial rgba w h = Some (content.Fill serial rgba w h)

abbrev pub image : ℕ → ℕ → ℕ → ℕ → ℕ → Option Content
image serial index w h opacity = Some (content.Image serial (record { 0 = 0 }) index (whole w h) w h Src Plain opacity)

abbrev pub shows : ℕ → Option Node → Option Tree
shows p root = Some (record { view = Some (pair p); root = root; viewports = [] })

-- ---- a shell with two applications

-- session 1 is the shell, on pair 0; session 2 a mail program, on pair 1; session 3 a clock, on pair 2
abbrev pub shell_setup : Setup
shell_setup = setup_of 1280 800 3 (display_over 1 ∷ over 1 2 ∷ over 1 3 ∷ [])

-- the shell has the mail's viewport moved down by 40, and then the clock's
abbrev pub shell_root : Node
shell_root =
    moved 1 (pos 0) (pos 0) (everywhere ∷ []) None
    (more (moved 2 (pos 0) (pos 40) [] (viewport 1 1 640 760) Empty) (more (moved 3 (pos 0) (pos 0) [] (viewport 2 2 1280 40) Empty) Empty))

abbrev pub shell_shown : Shown
shell_shown =
    shows 0 (Some shell_root)
    ∷ shows 1 (Some (root_with (image 2 1 640 760 65536)))
    ∷ shows 2 (Some (root_with (fill 1 (0 ∷ 0 ∷ 0 ∷ 128 ∷ []) 1280 40)))
    ∷ []

-- the same before the mail shows anything
abbrev pub shell_without_mail : Shown
shell_without_mail = shows 0 (Some shell_root) ∷ None ∷ shows 2 (Some (root_with (fill 1 (0 ∷ 0 ∷ 0 ∷ 128 ∷ []) 1280 40))) ∷ []

-- session 1 has a viewport of 20 by 20, half seen through, that reaches beyond the display, and a child of its node; session 2 has a fill of
-- 50 by 50
abbrev pub nested_setup : Setup
nested_setup = setup_of 100 100 2 (display_over 1 ∷ over 1 2 ∷ [])

abbrev pub nested_shown : Shown
nested_shown =
    shows 0 (Some (record (moved 1 (pos 90) (pos 0) [] (viewport 1 1 20 20) (more (moved 2 (pos 0) (pos 0) [] None Empty) Empty)) { opacity = 32768 }))
    ∷ shows 1 (Some (root_with (fill 3 (9 ∷ 9 ∷ 9 ∷ 255 ∷ []) 50 50)))
    ∷ []

-- ---- links that go round

-- session 1 shows a viewport of pair 1, which is session 2's view, and session 2 one of pair 2, which is session 1's
abbrev pub round_setup : Setup
round_setup = setup_of 100 100 2 (display_over 1 ∷ over 1 2 ∷ over 2 1 ∷ [])

abbrev pub round_shown : Shown
round_shown = shows 2 (Some (root_with (viewport 1 1 10 10))) ∷ shows 1 (Some (root_with (viewport 1 2 10 10))) ∷ []

-- ---- one session

abbrev pub alone_setup : Setup
alone_setup = setup_of 100 100 1 (display_over 1 ∷ [])

abbrev pub rootless_shown : Shown
rootless_shown = shows 0 None ∷ []

-- a node with a region of 50 by 50, cut to 20 by 20, over one with a region of 10 by 10
abbrev pub stacked_regions : Interaction → Shown
stacked_regions lower =
    shows 0 (Some (moved 1 (pos 0) (pos 0) [] None
    (more (moved 2 (pos 0) (pos 0) (record { area = Some (whole 10 10); interaction = lower } ∷ []) None Empty)
    (more (record (moved 3 (pos 0) (pos 0) (record { area = Some (whole 50 50); interaction = Default } ∷ []) None Empty) { clip = Some (whole 20 20) })
    Empty))))
    ∷ []

-- a red fill of 10 by 10, moved to the right
abbrev pub red_at : ℤ → Shown
red_at x = shows 0 (Some (moved 1 x (pos 0) [] (fill 1 (255 ∷ 0 ∷ 0 ∷ 255 ∷ []) 10 10) Empty)) ∷ []

-- a root of that opacity, with an image of that opacity
abbrev pub image_of_opacities : ℕ → ℕ → Shown
image_of_opacities node_opacity opacity = shows 0 (Some (record (root_with (image 1 0 10 10 opacity)) { opacity = node_opacity })) ∷ []

-- a fill of 10 by 20, scaled by 2 and by a half, turned once, moved by 20 and 50, and cut to its left half
abbrev pub turned_shown : Shown
turned_shown =
    shows 0 (Some (record (root_with (fill 1 (1 ∷ 2 ∷ 3 ∷ 255 ∷ []) 10 20)) {
      scale = (131072, 32768);
      turn = Ccw90;
      place = (pos 20, pos 50);
      clip = Some (whole 5 40);
    }))
    ∷ []

-- a root that can't be hit, over two nodes with a region each, side by side
abbrev pub two_regions : Interaction → Shown
two_regions second =
    shows 0 (Some (moved 1 (pos 0) (pos 0) [] None
    (more (moved 2 (pos 0) (pos 0) (record { area = Some (whole 10 10); interaction = Default } ∷ []) None Empty)
    (more (moved 3 (pos 10) (pos 0) (record { area = Some (whole 10 10); interaction = second } ∷ []) None Empty) Empty))))
    ∷ []
