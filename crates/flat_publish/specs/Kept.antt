-- A frame as it is kept.
use Rattle.std.specs.Prelude.{Option, Some, None}
use Rattle.std.specs.Arc.{arc_value}
use Rattle.flat_publish.specs.declared.frame.Frame.{Frame}
use Rattle.flat_publish.specs.declared.frame.Numbered.{Numbered}

-- what a kept frame is
abbrev pub frame_of : Numbered → Frame
frame_of n = record { number = n.number; joined = arc_value n.joined }

-- what is kept, if there is a frame
abbrev pub frame_in : Option Numbered → Option Frame
frame_in None = None
frame_in (Some n) = Some (frame_of n)
