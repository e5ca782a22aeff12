-- What changed from frame to frame, and its text.
use Rattle.std.specs.Prelude.{◌≡◌, ℕ, List, [], ◌∷◌, ◌++◌, length, map, codes}
use Rattle.std.specs.List.{flat_map}
use Rattle.flat_base.specs.Last.{last_item}
use Rattle.flat_base.specs.declared.shapes.Rect.{Rect}
use Rattle.flat_scene.specs.declared.frames.DrawItem.{DrawItem}
use Rattle.flat_scene.specs.declared.frames.FrameOut.{FrameOut}
use Rattle.flat_damage.specs.Damage.{IsDamage}
use Rattle.flat_page.specs.Words.{number, numbers, text_of}
use Rattle.flat_places.specs.Forms.{Word}
use Rattle.flat_texts.specs.declared.damage.FrameDamage.{FrameDamage}
use Rattle.flat_texts.specs.declared.damage.FrameDamages.{FrameDamages}

-- The damage of each frame: from the draw list before it to its own. Before the first of them this one is shown.
pub data AreDamaged : List DrawItem → List FrameOut → List FrameDamage → Type 0 where
  none : {before : List DrawItem} → AreDamaged before [] []
  next : {before : List DrawItem} {frame : FrameOut} {frames : List FrameOut} {one : FrameDamage}
      {later : List FrameDamage}
      → one.frame ≡ frame.frame → IsDamage before frame.items one.rects
      → AreDamaged frame.items frames later → AreDamaged before (frame ∷ frames) (one ∷ later)

-- ---- the text

abbrev pub rect_line : Rect → List Word
rect_line r = codes "rect" ∷ numbers (r.x0 ∷ r.y0 ∷ r.x1 ∷ r.y1 ∷ [])

-- the lines of a frame
abbrev pub damaged_lines : FrameDamage → List (List Word)
damaged_lines one =
    (codes "damage" ∷ codes "frame" ∷ number one.frame.0 ∷ codes "rects" ∷ number (length one.rects) ∷ [])
    ∷ map rect_line one.rects

-- the last line
abbrev pub end_line : ℕ → List Word
end_line frames = codes "damage" ∷ codes "ends" ∷ codes "frames" ∷ number frames ∷ []

abbrev pub damaged_text : List FrameDamage → List ℕ
damaged_text damaged = text_of (flat_map damaged_lines damaged ++ end_line (length damaged) ∷ [])

-- The text says what changed from frame to frame; before the first one nothing is drawn.
pub record IsDamageText (frames : List FrameOut) (text : List ℕ) : Type 0 where
  pub damaged : List FrameDamage
  pub are : AreDamaged [] frames damaged
  pub is : text ≡ damaged_text damaged

-- The damage of some frames was found; the last of them is kept for the next one.
pub record IsFound (frames : List FrameOut) (found : FrameDamages) : Type 0 where
  pub damaged : AreDamaged [] frames found.damaged.items
  pub last : found.last ≡ last_item frames
