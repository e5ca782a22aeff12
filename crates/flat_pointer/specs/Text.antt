-- What the pointer text says, frame by frame and line by line.
use Rattle.std.specs.Prelude.{ℕ, List, [], ◌∷◌, ◌++◌, length, Option, Some, None, codes}
use Rattle.std.specs.List.{flat_map, range_with_len}
use Rattle.flat_base.specs.declared.ids.SessionNo.{SessionNo}
use Rattle.flat_scene.specs.declared.frames.FrameOut.{FrameOut}
use Rattle.flat_scene.specs.declared.frames.Hit.{Hit}
use Rattle.flat_page.specs.Happenings.{Happening, finished, said, merged, all_lines}
use Rattle.flat_page.specs.Words.{number, numbers, session_name, text_of}
use Rattle.flat_places.specs.Forms.{Word}
use Rattle.flat_pointer.specs.declared.pointers.PointerAnswer.{PointerAnswer}
use Rattle.flat_pointer.specs.declared.pointers.PointerAnswer.TheVariants.{Nobody, Busy}
use Rattle.flat_pointer.specs.declared.pointers.PointerAnswer.TheVariants as answer
use Rattle.flat_pointer.specs.declared.text.PointerCall.{PointerCall}
use Rattle.flat_pointer.specs.declared.text.PointerCall.TheVariants.{Down, Move, Up}
use Rattle.flat_pointer.specs.declared.text.PointerLine.{PointerLine}
use Rattle.flat_pointer.specs.declared.text.PointerTouch.{PointerTouch}
use Rattle.flat_pointer.specs.declared.pointers.TheConstants.{POINTERS}
use Rattle.flat_pointer.specs.Streams.{down_answer, move_answer, up_answer}
use Rattle.flat_pointer.specs.Events.{PointerEvent, frame, down, move, up, stream_after, cancel_at}

-- ---- lines

-- the point of a Move
abbrev pub point_words : PointerCall → List Word
point_words (Move x y) = numbers (x ∷ y ∷ [])
point_words _ = []

abbrev pub answer_words : List Word → PointerCall → PointerAnswer → List Word
answer_words names call (answer.Down s) = codes "down" ∷ session_name names s ∷ []
answer_words names call (answer.Moved s) = codes "move" ∷ session_name names s ∷ point_words call
answer_words names call (answer.Up s) = codes "up" ∷ session_name names s ∷ []
answer_words names call Nobody = codes "nobody" ∷ []
answer_words names call Busy = codes "busy" ∷ []

-- the line of a pointer's line that is answered so
abbrev pub touch_line : List Word → PointerLine → PointerAnswer → List Word
touch_line names line answer =
    codes "pointer" ∷ number line.number ∷ number line.pointer ∷ answer_words names line.call answer

-- the line of a pointer at the frame of a number, if its stream is cancelled
abbrev pub cancel_line : List Word → ℕ → ℕ → Option SessionNo → List (List Word)
cancel_line names n p None = []
cancel_line names n p (Some s) = (codes "cancel" ∷ number n ∷ number p ∷ session_name names s ∷ []) ∷ []

-- those of all pointers, in order
abbrev pub cancel_lines : List Word → ℕ → (ℕ → Option SessionNo) → List (List Word)
cancel_lines names n cancelled = flat_map (λ p. cancel_line names n p (cancelled p)) (range_with_len 0 POINTERS)

-- the lines of a frame
abbrev pub frame_lines : List Word → ℕ → (ℕ → Option SessionNo) → List (List Word)
frame_lines names n cancelled = (codes "frame" ∷ number n ∷ []) ∷ cancel_lines names n cancelled

-- the last line
abbrev pub end_line : ℕ → List Word
end_line lines = codes "pointer" ∷ codes "ends" ∷ codes "lines" ∷ number lines ∷ []

-- ---- over the events

abbrev pub called : ℕ → List Hit → PointerCall → PointerEvent
called p hits (Down x y) = down p hits
called p hits (Move x y) = move p
called p hits Up = up p

abbrev pub event_of : Happening PointerTouch → PointerEvent
event_of (finished out) = frame out.tree.nodes
event_of (said touch) = called touch.line.pointer touch.hits touch.line.call

-- the answer to a call, where this is the stream
abbrev pub call_answer : Option SessionNo → List Hit → PointerCall → PointerAnswer
call_answer stream hits (Down x y) = down_answer stream hits
call_answer stream hits (Move x y) = move_answer stream
call_answer stream hits Up = up_answer stream

-- what is written of one thing that happens, where these events were before, the newest first
abbrev pub lines_at : List Word → List PointerEvent → Happening PointerTouch → List (List Word)
lines_at names before (finished out) = frame_lines names out.frame.0 (λ p. cancel_at p before (frame out.tree.nodes))
lines_at names before (said touch) =
    touch_line names touch.line (call_answer (stream_after touch.line.pointer before) touch.hits touch.line.call) ∷ []

-- the text of finished frames, of the numbers of the lines that finished them, and of the pointers' lines
abbrev pub pointer_text : List Word → List ℕ → List FrameOut → List PointerTouch → List ℕ
pointer_text names dones frames touches =
    text_of (all_lines (lines_at names) (λ one before. event_of one ∷ before) []
    (merged (λ touch. touch.line.number) dones frames touches) ++ end_line (length touches) ∷ [])

-- ---- over the streams

-- ---- pointers
