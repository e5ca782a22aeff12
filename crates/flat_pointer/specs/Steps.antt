-- How the streams of all pointers go on from what is kept of them.
use Rattle.std.specs.Prelude.{ℕ, zero, suc, List, [], ◌∷◌, Option, None, replicate, slice_get, slice_set, unwrap_or}
use Rattle.std.specs.Prelude.{nat_lt, IsTrue}
use Rattle.flat_base.specs.declared.ids.SessionNo.{SessionNo}
use Rattle.flat_scene.specs.declared.frames.ViewNode.{ViewNode}
use Rattle.flat_pointer.specs.declared.pointers.TheConstants.{POINTERS}
use Rattle.flat_pointer.specs.Streams.{kept_in, after_down, cancelled_in}
use Rattle.std.specs.List.{list_all}
use Rattle.flat_scene.specs.declared.frames.Hit.{Hit}
use Rattle.flat_page.specs.Happenings.{Happening, finished, said}
use Rattle.flat_places.specs.Forms.{Word}
use Rattle.flat_pointer.specs.declared.text.PointerCall.{PointerCall}
use Rattle.flat_pointer.specs.declared.text.PointerCall.TheVariants.{Down, Move, Up}
use Rattle.flat_pointer.specs.declared.text.PointerTouch.{PointerTouch}
use Rattle.flat_pointer.specs.Events.{frame}
use Rattle.flat_pointer.specs.Text.{call_answer, frame_lines, touch_line}

-- the session of each pointer's stream, if it has one
abbrev pub Streams : Type 0
Streams = List (Option SessionNo)

abbrev pub no_streams : Streams
no_streams = replicate POINTERS None

-- the session of a pointer's stream
abbrev pub stream_of : Streams → ℕ → Option SessionNo
stream_of streams p = unwrap_or (slice_get streams p) None

-- the streams with another stream of one pointer
abbrev pub with_stream : Streams → ℕ → Option SessionNo → Streams
with_stream streams p stream = slice_set streams p stream

-- the streams where those of so many pointers, from the first, have seen a frame
abbrev pub framed_below : List ViewNode → ℕ → Streams → Streams
framed_below nodes zero streams = streams
framed_below nodes (suc n) [] = []
framed_below nodes (suc n) (stream ∷ streams) = kept_in nodes stream ∷ framed_below nodes n streams

-- the streams after a frame
abbrev pub framed : List ViewNode → Streams → Streams
framed nodes streams = framed_below nodes POINTERS streams

-- the streams after a call
abbrev pub after_call : Streams → ℕ → List Hit → PointerCall → Streams
after_call streams p hits (Down x y) = with_stream streams p (after_down (stream_of streams p) hits)
after_call streams p hits (Move x y) = streams
after_call streams p hits Up = with_stream streams p None

-- the streams after one thing more
abbrev pub after : Happening PointerTouch → Streams → Streams
after (finished out) streams = framed out.tree.nodes streams
after (said touch) streams = after_call streams touch.line.pointer touch.hits touch.line.call

-- what is written of one thing that happens, where these are the streams before it
abbrev pub lines_with : List Word → Streams → Happening PointerTouch → List (List Word)
lines_with names streams (finished out) =
    frame_lines names out.frame.0 (λ p. cancelled_in out.tree.nodes (stream_of streams p))
lines_with names streams (said touch) = touch_line names touch.line
    (call_answer (stream_of streams touch.line.pointer) touch.hits touch.line.call) ∷ []

-- each line is one of the sixteen pointers'
pub record ArePointers (touches : List PointerTouch) : Type 0 where
  pub all : IsTrue (list_all (λ touch. nat_lt touch.line.pointer POINTERS) touches)
