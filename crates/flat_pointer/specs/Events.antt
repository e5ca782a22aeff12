-- The streams over a list of events, the newest first.
use Rattle.std.specs.Prelude.{ℕ, ◌==◌, if◌then◌else◌, List, [], ◌∷◌, Option, None}
use Rattle.flat_base.specs.declared.ids.SessionNo.{SessionNo}
use Rattle.flat_scene.specs.declared.frames.Hit.{Hit}
use Rattle.flat_scene.specs.declared.frames.ViewNode.{ViewNode}
use Rattle.flat_pointer.specs.Streams.{after_down, kept_in, cancelled_in}

-- A frame was finished whose view tree has these nodes, or a pointer went down where this is hit, moved, or went up.
pub data PointerEvent : Type 0 where
  frame : List ViewNode → PointerEvent
  down : ℕ → List Hit → PointerEvent
  move : ℕ → PointerEvent
  up : ℕ → PointerEvent

-- the session of a pointer's stream
abbrev pub stream_after : ℕ → List PointerEvent → Option SessionNo
stream_after p [] = None
stream_after p (frame nodes ∷ before) = kept_in nodes (stream_after p before)
stream_after p (down q hits ∷ before) =
    if q == p then after_down (stream_after p before) hits else stream_after p before
stream_after p (move q ∷ before) = stream_after p before
stream_after p (up q ∷ before) = if q == p then None else stream_after p before

-- whose stream of a pointer an event cancels
abbrev pub cancel_at : ℕ → List PointerEvent → PointerEvent → Option SessionNo
cancel_at p before (frame nodes) = cancelled_in nodes (stream_after p before)
cancel_at p before _ = None
