-- what each display has had after a list of frames was shown to all, one after another
use Rattle.std.specs.Prelude.{if◌then◌else◌, ◌≡◌, ⊤, ℕ, suc, ◌≤◌, ◌==◌, Bool, true, false, List, [], ◌∷◌, length, map}
use Rattle.std.specs.Prelude.{Option, None, Some, IsTrue}
use Rattle.std.specs.List.{list_any}
use Rattle.flat_io.specs.Counts.{has_risen}
use Rattle.flat_base.specs.declared.ids.FrameNo.{FrameNo}
use Rattle.flat_scene.specs.declared.frames.FrameOut.{FrameOut}
use Rattle.flat_scene.specs.declared.frames.LostDisplay.{LostDisplay}
use Rattle.flat_display.specs.Lost.{is_lost, lost_at, AreWithin}
use Rattle.flat_io.specs.Told.{Appends}

-- whether this is the frame of that number
abbrev pub is_numbered : FrameNo → FrameOut → Bool
is_numbered number frame = frame.frame.0 == number.0

-- whether one of the frames has that number
abbrev pub is_among : List FrameOut → FrameNo → Bool
is_among frames number = list_any (is_numbered number) frames

-- the frames before the first one of that number
abbrev pub frames_until : FrameNo → List FrameOut → List FrameOut
frames_until number [] = []
frames_until number (frame ∷ frames) = if is_numbered number frame then [] else frame ∷ frames_until number frames

-- The frames before the one at which a display was lost; all of them where it wasn't.
abbrev pub frames_before : Option FrameNo → List FrameOut → List FrameOut
frames_before None frames = frames
frames_before (Some number) frames = frames_until number frames

-- Each was lost at one of the frames.
abbrev pub AreLostAt : List FrameOut → List LostDisplay → Type 0
AreLostAt frames [] = ⊤
AreLostAt frames (l ∷ ls) = (is_among frames l.frame ≡ true) × AreLostAt frames ls

module _ {D : Type 0} (told : D → Option (List FrameOut)) (count : D → ℕ) (lost : List LostDisplay)
    (frames : List FrameOut) where
  -- A display has had the frames in order, each once: all of them, or those before the one at which it was
  -- lost. Where it was lost its count of faults rose, and else that is as it was.
  pub record HasHad (number : ℕ) (old new : D) : Type 0 where
    pub gains : Appends (frames_before (lost_at lost number) frames) (told old) (told new)
    pub grows : count old ≤ count new
    pub risen : is_lost lost number ≡ true → IsTrue (has_risen (count old) (count new))
    pub steady : is_lost lost number ≡ false → count new ≡ count old

  -- So have all displays, of which the first has this number.
  abbrev pub HaveHad : ℕ → List D → List D → Type 0
  HaveHad number [] [] = ⊤
  HaveHad number [] (d' ∷ ds') = ⊥
  HaveHad number (d ∷ ds) [] = ⊥
  HaveHad number (d ∷ ds) (d' ∷ ds') = HasHad number d d' × HaveHad (suc number) ds ds'

  -- The frames were shown to these displays, numbered from 1, and left them so. No other displays are lost.
  pub record AreDriven (olds news : List D) : Type 0 where
    pub have_had : HaveHad 1 olds news
    pub lost_at_frames : AreLostAt frames lost
    pub lost_displays : AreWithin (length olds) lost

-- Frames of this sort were shown to these displays, and left them so.
abbrev pub AreShownSome : {D : Type 0} → (D → Option (List FrameOut)) → (D → ℕ) → (List FrameOut → Type 0) → List D
    → List D → Type 0
AreShownSome told count AreOfSort olds news =
    (lost : List LostDisplay) × (frames : List FrameOut) × AreOfSort frames × AreDriven told count lost frames olds news

-- Whatever came of a call, as many displays stand there, each of the kind that it was at its place. They were
-- shown frames of this sort.
pub record AreKept {D : Type 0} (told : D → Option (List FrameOut)) (count : D → ℕ)
    (AreOfSort : List FrameOut → Type 0) (olds news : List D) {K : Type 0} (kind : D → K) : Type 0 where
  pub kinds : map kind news ≡ map kind olds
  pub some : AreShownSome told count AreOfSort olds news
