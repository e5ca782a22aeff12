-- what a show of a frame does to each of the displays, and which of them it loses
use Rattle.std.specs.Prelude.{◌≡◌, ℕ, suc, ◌≤◌, Bool, true, false, List, [], ◌∷◌, Option, IsTrue, ⊤}
use Rattle.flat_io.specs.Counts.{has_risen}
use Rattle.flat_scene.specs.declared.frames.FrameOut.{FrameOut}
use Rattle.flat_scene.specs.declared.frames.LostDisplay.{LostDisplay}
use Rattle.flat_display.specs.Lost.{is_lost}
use Rattle.flat_io.specs.Told.{Appends}

-- Displays of this type tell these frames, and have these counts of faults.
module _ {D : Type 0} (told : D → Option (List FrameOut)) (count : D → ℕ) (frame : FrameOut) where
  -- A display took the frame: its count of faults is as it was.
  pub record Takes (old new : D) : Type 0 where
    pub gains : Appends (frame ∷ []) (told old) (told new)
    pub steady : count new ≡ count old

  -- A display failed to take the frame: its count of faults rose, and what it was shown is as before.
  pub record Fails (old new : D) : Type 0 where
    pub same : told new ≡ told old
    pub grows : count old ≤ count new
    pub risen : IsTrue (has_risen (count old) (count new))

  -- The answer of a show.
  abbrev pub IsShown : Bool → D → D → Type 0
  IsShown true old new = Takes old new
  IsShown false old new = Fails old new

  -- The displays from this number on, of which some were lost before, are shown the frame: each that isn't
  -- lost, once. Those that fail are lost, at this frame, in their order.
  pub data Shows (lost : List LostDisplay) : ℕ → List D → List D → List LostDisplay → Type 0 where
    none : {number : ℕ} → Shows lost number [] [] []
    passed : {number : ℕ} {d : D} {ds ds' : List D} {more : List LostDisplay} → is_lost lost number ≡ true
        → Shows lost (suc number) ds ds' more → Shows lost number (d ∷ ds) (d ∷ ds') more
    took : {number : ℕ} {d d' : D} {ds ds' : List D} {more : List LostDisplay} → is_lost lost number ≡ false
        → Takes d d'
        → Shows lost (suc number) ds ds' more → Shows lost number (d ∷ ds) (d' ∷ ds') more
    failed : {number : ℕ} {d d' : D} {ds ds' : List D} {more : List LostDisplay} → is_lost lost number ≡ false
        → Fails d d'
        → Shows lost (suc number) ds ds' more
        → Shows lost number (d ∷ ds) (d' ∷ ds') (record { display = number; frame = frame.frame } ∷ more)

-- Each display is lost once.
abbrev pub IsOnce : List LostDisplay → Type 0
IsOnce [] = ⊤
IsOnce (l ∷ ls) = (is_lost ls l.display ≡ false) × IsOnce ls
