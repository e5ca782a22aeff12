-- what the displays over memory keep
use Rattle.std.specs.Prelude.{ℕ, Bool, false, List, [], ◌∷◌, ◌++◌, Option, None, Some, cond}
use Rattle.flat_io.specs.Kept.{counted}
use Rattle.flat_scene.specs.declared.frames.FrameOut.{FrameOut}

-- a display that fails at the listed calls
pub record FailingDisplay : Type 0 where
  pub frames : List FrameOut
  pub is_told : Bool
  pub fail : List ℕ
  pub calls : ℕ
  pub faults : ℕ

-- the frames, where it tells them
abbrev pub told_frames : FailingDisplay → Option (List FrameOut)
told_frames d = cond d.is_told (Some d.frames) None

-- after a call that failed
abbrev pub after_fault : FailingDisplay → FailingDisplay
after_fault d = record d { calls = counted d.calls; faults = counted d.faults }

-- after a frame was kept
abbrev pub after_keeping : FailingDisplay → FrameOut → FailingDisplay
after_keeping d frame = record d { frames = d.frames ++ frame ∷ []; calls = counted d.calls }

-- after a frame wasn't kept
abbrev pub after_silence : FailingDisplay → FailingDisplay
after_silence d = record d { is_told = false; calls = counted d.calls }
