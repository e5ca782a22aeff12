-- What the streams are, whatever happened.
use Rattle.std.specs.Prelude.{◌≡◌, ℕ, suc, ◌<◌, Bool, true, false, not, ◌==◌, IsTrue, List, [], ◌∷◌, ◌++◌, map, Some}
use Rattle.std.specs.Prelude.{None}
use Rattle.std.specs.List.{list_any}
use Rattle.flat_base.specs.declared.ids.SessionNo.{SessionNo}
use Rattle.flat_scene.specs.declared.frames.FrameOut.{FrameOut}
use Rattle.flat_scene.specs.declared.frames.Hit.{Hit}
use Rattle.flat_scene.specs.declared.frames.ViewNode.{ViewNode}
use Rattle.flat_pointer.specs.declared.pointers.TheConstants.{POINTERS}
use Rattle.flat_pointer.specs.declared.pointers.PointerAnswer.{PointerAnswer}
use Rattle.flat_pointer.specs.declared.pointers.PointerAnswer.TheVariants.{Down, Moved, Up, Nobody, Busy}
use Rattle.flat_scene.specs.ViewTrees.{is_node}
use Rattle.flat_page.specs.Steps.{without_items}
use Rattle.flat_places.specs.Forms.{Word}
use Rattle.flat_pointer.specs.declared.text.PointerTouch.{PointerTouch}
use Rattle.flat_pointer.specs.Text.{pointer_text}
use Rattle.flat_pointer.specs.Streams.{after_down, kept_in, cancelled_in}
use Rattle.flat_pointer.specs.Steps.{no_streams, stream_of, with_stream, framed_below, framed}
use Rattle.flat_pointer.specs.Events.{PointerEvent, frame, down, move, up, stream_after, cancel_at}
use Rattle.flat_pointer.specs.Concerns.{answer_to, only, told, streams_after}

-- ---- the calls

-- the calls for one event more lead from the streams before it to those after it
pub record Follow (before : List PointerEvent) : Type 0 where
  pub here : (p : ℕ) → p < POINTERS → stream_of (streams_after before) p ≡ stream_after p before
  pub frames : (nodes : List ViewNode) → framed nodes (streams_after before) ≡ streams_after (frame nodes ∷ before)
  pub downs : (p : ℕ) (hits : List Hit) → p < POINTERS
      → with_stream (streams_after before) p (after_down (stream_of (streams_after before) p) hits)
      ≡ streams_after (down p hits ∷ before)
  pub moves : (p : ℕ) → streams_after before ≡ streams_after (move p ∷ before)
  pub ups : (p : ℕ) → p < POINTERS → with_stream (streams_after before) p None ≡ streams_after (up p ∷ before)

abbrev pub CallsFollow : Type 0
CallsFollow = (before : List PointerEvent) → Follow before

-- after a frame the calls that cancel, one for each pointer in order, lead to the streams after it, and each answers
-- whose stream the frame cancels
pub record FollowFrame (nodes : List ViewNode) (before : List PointerEvent) : Type 0 where
  pub first : streams_after before ≡ framed_below nodes 0 (streams_after before)
  pub next : (p : ℕ) → with_stream (framed_below nodes p (streams_after before)) p
      (kept_in nodes (stream_of (framed_below nodes p (streams_after before)) p))
      ≡ framed_below nodes (suc p) (streams_after before)
  pub answers : (p : ℕ) → p < POINTERS → cancelled_in nodes (stream_of (framed_below nodes p (streams_after before)) p)
      ≡ cancel_at p before (frame nodes)
  pub last : framed_below nodes POINTERS (streams_after before) ≡ streams_after (frame nodes ∷ before)

abbrev pub CancelsFollow : Type 0
CancelsFollow = (nodes : List ViewNode) (before : List PointerEvent) → FollowFrame nodes before

abbrev pub NoneAtFirst : Type 0
NoneAtFirst = no_streams ≡ streams_after []

-- ---- one session

-- whether an event ends a pointer's stream that goes to that session:
-- its Up, or a frame in which the session is no node
abbrev pub ends : ℕ → SessionNo → PointerEvent → Bool
ends p s (frame nodes) = not (is_node nodes s)
ends p s (up q) = q == p
ends p s _ = false

-- whether an event is a line of that pointer
abbrev pub is_line_of : ℕ → PointerEvent → Bool
is_line_of p (frame nodes) = false
is_line_of p (down q hits) = q == p
is_line_of p (move q) = q == p
is_line_of p (up q) = q == p

-- whether an answer is busy, or names that session
abbrev pub names : SessionNo → PointerAnswer → Bool
names s (Down t) = t.0 == s.0
names s (Moved t) = t.0 == s.0
names s (Up t) = t.0 == s.0
names s Busy = true
names s Nobody = false

-- A Down that goes to a session begins a stream: while no event ended it, all answers of the pointer name that
-- session or are busy, and an event that ends it leaves none.
pub record StreamTo (p : ℕ) (s : SessionNo) (history : List PointerEvent) : Type 0 where
  pub going : stream_after p history ≡ Some s
  pub answers : (event : PointerEvent) (answer : PointerAnswer) → IsTrue (is_line_of p event)
      → answer_to history event ≡ Some answer → IsTrue (names s answer)
  pub ended : (event : PointerEvent) → IsTrue (ends p s event) → stream_after p (event ∷ history) ≡ None

abbrev pub OneSession : Type 0
OneSession = (p : ℕ) (s : SessionNo) (hits : List Hit) (before during : List PointerEvent)
    → answer_to before (down p hits) ≡ Some (Down s) → list_any (ends p s) during ≡ false
    → StreamTo p s (during ++ down p hits ∷ before)

-- ---- frames

-- a text hangs on the numbers and the view trees of its frames alone: draw items play no part
abbrev pub ItemsPlayNoPart : Type 0
ItemsPlayNoPart = (names : List Word) (dones : List ℕ) (frames : List FrameOut) (touches : List PointerTouch)
    → pointer_text names dones (map without_items frames) touches ≡ pointer_text names dones frames touches

-- ---- one pointer

-- what a pointer is told hangs on its own lines and the frames alone
abbrev pub OwnLinesDecide : Type 0
OwnLinesDecide = (p : ℕ) (events : List PointerEvent) → told p (only p events) ≡ told p events
