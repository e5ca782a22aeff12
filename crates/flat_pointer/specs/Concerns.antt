-- What the events of one pointer tell of it.
use Rattle.std.specs.Prelude.{ℕ, Bool, true, ◌==◌, if◌then◌else◌, List, [], ◌∷◌, Option, Some, None, map, filter}
use Rattle.std.specs.List.{range_with_len}
use Rattle.flat_base.specs.declared.ids.SessionNo.{SessionNo}
use Rattle.flat_pointer.specs.declared.pointers.TheConstants.{POINTERS}
use Rattle.flat_pointer.specs.declared.pointers.PointerAnswer.{PointerAnswer}
use Rattle.flat_pointer.specs.Streams.{down_answer, move_answer, up_answer}
use Rattle.flat_pointer.specs.Steps.{Streams}
use Rattle.flat_pointer.specs.Events.{PointerEvent, cancel_at, down, frame, move, stream_after, up}

-- what an event is answered
abbrev pub answer_to : List PointerEvent → PointerEvent → Option PointerAnswer
answer_to before (frame nodes) = None
answer_to before (down p hits) = Some (down_answer (stream_after p before) hits)
answer_to before (move p) = Some (move_answer (stream_after p before))
answer_to before (up p) = Some (up_answer (stream_after p before))

-- whether an event is a line of that pointer, or a frame
abbrev pub concerns : ℕ → PointerEvent → Bool
concerns p (frame nodes) = true
concerns p (down q hits) = q == p
concerns p (move q) = q == p
concerns p (up q) = q == p

-- the events that do
abbrev pub only : ℕ → List PointerEvent → List PointerEvent
only p events = filter (concerns p) events

-- what a pointer is told at each of them, the newest first: the answer, and whose stream is cancelled
abbrev pub told : ℕ → List PointerEvent → List (Option PointerAnswer × Option SessionNo)
told p [] = []
told p (event ∷ before) = if concerns p event then (answer_to before event, cancel_at p before event) ∷ told p before
    else told p before

-- the streams of all pointers
abbrev pub streams_after : List PointerEvent → Streams
streams_after events = map (λ p. stream_after p events) (range_with_len 0 POINTERS)
