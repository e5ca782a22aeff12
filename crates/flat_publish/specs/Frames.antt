-- Lists of frames, and what is answered by them.
use Rattle.std.specs.Prelude.{ℕ, ℤ, ◌<◌, List, [], ◌∷◌, Option, Some, None}
use Rattle.flat_publish.specs.declared.frame.Frame.{Frame}
use Rattle.flat_scene.specs.declared.frames.Hit.{Hit}
use Rattle.flat_topology.specs.declared.GlobalTopology.{GlobalTopology}
use Rattle.flat_topology.specs.Hits.{hits_among}

-- the last of these frames, or the one before them
abbrev pub last_from : Option Frame → List Frame → Option Frame
last_from before [] = before
last_from before (frame ∷ frames) = last_from (Some frame) frames

-- the last of these frames
abbrev pub last_of : List Frame → Option Frame
last_of = last_from None

-- 0 is no frame
abbrev pub number_of : Option Frame → ℕ
number_of None = 0
number_of (Some frame) = frame.number.0

-- the number of the last of these frames
abbrev pub last_number : List Frame → ℕ
last_number frames = number_of (last_of frames)

-- each number is above this one and above those before
abbrev pub RisesFrom : ℕ → List Frame → Type 0
RisesFrom n [] = Unit {0}
RisesFrom n (frame ∷ frames) = (n < frame.number.0) × RisesFrom frame.number.0 frames

-- each number is above 0 and above those before
abbrev pub IsRising : List Frame → Type 0
IsRising = RisesFrom 0

-- what a point hits in a frame, or in none
abbrev pub frame_hits : Option Frame → ℤ → ℤ → List Hit
frame_hits None x y = []
frame_hits (Some frame) x y = hits_among frame.joined.nodes x y

-- a frame of a number
abbrev pub frame : ℕ → GlobalTopology → Frame
frame n joined = record { number = record { 0 = n }; joined = joined }
