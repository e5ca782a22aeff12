-- Worked cases, computed.
use Rattle.std.proofs.Common.{ℕ, ◌≡◌, refl, false, pos, List, [], ◌∷◌, ◌++◌, length, map, Option, Some, None}
use Rattle.std.specs.Prelude.{codes}
use Rattle.std.specs.Fmt.{digits}
use Rattle.flat_base.specs.declared.ids.SessionNo.{SessionNo}
use Rattle.flat_scene.specs.declared.calls.Interaction.TheVariants.{Default}
use Rattle.flat_scene.specs.declared.frames.FrameOut.{FrameOut}
use Rattle.flat_scene.specs.declared.frames.Hit.{Hit}
use Rattle.flat_scene.specs.declared.frames.ViewNode.{ViewNode}
use Rattle.flat_page.specs.Happenings.{merged, all_lines}
use Rattle.flat_page.specs.Words.{line_of}
use Rattle.flat_places.specs.Forms.{Word}
use Rattle.flat_pointer.specs.declared.pointers.PointerAnswer.TheVariants as answer
use Rattle.flat_pointer.specs.declared.text.PointerCall.{PointerCall}
use Rattle.flat_pointer.specs.declared.text.PointerCall.TheVariants.{Down, Move, Up}
use Rattle.flat_pointer.specs.declared.text.PointerTouch.{PointerTouch}
use Rattle.flat_pointer.specs.Events.{frame, down, move, up, stream_after, cancel_at}
use Rattle.flat_pointer.specs.Concerns.{answer_to, only, told}
use Rattle.flat_pointer.specs.Laws.{ends, names}
use Rattle.flat_pointer.specs.Text.{event_of, lines_at, end_line}

abbrev session : ℕ → SessionNo
session s = record { 0 = s }

abbrev node : ℕ → Option SessionNo → ViewNode
node s parent = record { session = session s; parent = parent; bounds = record { x0 = pos 0; y0 = pos 0; x1 = pos 0; y1 = pos 0 } }

abbrev hit : ℕ → Hit
hit s = record { session = session s; interaction = Default }

-- ---- streams

-- the first session that is hit has the stream, and keeps it wherever the pointer moves
first_hit_has_it : answer_to [] (down 3 (hit 2 ∷ hit 1 ∷ [])) ≡ Some (answer.Down (session 2))
first_hit_has_it = refl

nobody_is_hit : answer_to [] (down 3 []) ≡ Some answer.Nobody
nobody_is_hit = refl

moves_go_on : answer_to (move 3 ∷ down 3 (hit 2 ∷ []) ∷ []) (move 3) ≡ Some (answer.Moved (session 2))
moves_go_on = refl

down_twice : answer_to (down 3 (hit 2 ∷ []) ∷ []) (down 3 (hit 1 ∷ [])) ≡ Some answer.Busy
down_twice = refl

other_pointer : answer_to (down 3 (hit 2 ∷ []) ∷ []) (move 4) ≡ Some answer.Nobody
other_pointer = refl

up_ends : answer_to (up 3 ∷ down 3 (hit 2 ∷ []) ∷ []) (move 3) ≡ Some answer.Nobody
up_ends = refl

frame_keeps : stream_after 3 (frame (node 1 None ∷ node 2 (Some (session 1)) ∷ []) ∷ down 3 (hit 2 ∷ []) ∷ []) ≡ Some (session 2)
frame_keeps = refl

frame_cancels : cancel_at 3 (down 3 (hit 2 ∷ []) ∷ []) (frame (node 1 None ∷ [])) ≡ Some (session 2)
frame_cancels = refl

own_lines : only 3 (move 4 ∷ frame [] ∷ up 3 ∷ down 4 [] ∷ []) ≡ frame [] ∷ up 3 ∷ []
own_lines = refl

what_is_told : told 3 (frame [] ∷ move 4 ∷ down 3 (hit 2 ∷ []) ∷ []) ≡ (None, Some (session 2)) ∷ (Some (answer.Down (session 2)), None) ∷ []
what_is_told = refl

other_up_ends_nothing : ends 3 (session 2) (up 4) ≡ false
other_up_ends_nothing = refl

nobody_names_no_session : names (session 2) answer.Nobody ≡ false
nobody_names_no_session = refl

-- ---- texts

abbrev shown : ℕ → List ViewNode → FrameOut
shown n nodes = record { frame = record { 0 = n }; items = []; tree = record { nodes = nodes; apart = [] } }

abbrev says : ℕ → ℕ → PointerCall → List Hit → PointerTouch
says number pointer call hits = record { line = record { number = number; pointer = pointer; call = call }; hits = hits }

abbrev text_lines : List Word → List ℕ → List FrameOut → List PointerTouch → List (List ℕ)
text_lines names dones frames touches = map line_of (all_lines (lines_at names) (λ one before. event_of one ∷ before) []
    (merged (λ touch. touch.line.number) dones frames touches) ++ end_line (length touches) ∷ [])

one_stream : text_lines (codes "A" ∷ []) (14 ∷ []) (shown 1 (node 1 None ∷ []) ∷ [])
    (says 15 0 (Down (pos 5) (pos 5)) (hit 1 ∷ []) ∷ says 16 0 (Move (pos 200) (pos 200)) [] ∷ says 17 0 (Down (pos 1) (pos 1)) (hit 1 ∷ []) ∷ says 18 0 Up []
    ∷ says 19 0 (Move (pos 1) (pos 1)) [] ∷ []) ≡
    codes "frame 1"
    ∷ codes "pointer 15 0 down A"
    ∷ codes "pointer 16 0 move A 200 200"
    ∷ codes "pointer 17 0 busy"
    ∷ codes "pointer 18 0 up A"
    ∷ codes "pointer 19 0 nobody"
    ∷ codes "pointer ends lines 5"
    ∷ []
unfolding digits
one_stream = refl

stream_is_cancelled : text_lines (codes "A" ∷ []) (14 ∷ 18 ∷ []) (shown 1 (node 1 None ∷ []) ∷ shown 2 [] ∷ [])
    (says 15 1 (Down (pos 5) (pos 5)) (hit 1 ∷ []) ∷ says 19 1 (Move (pos 6) (pos 6)) [] ∷ []) ≡
    codes "frame 1" ∷ codes "pointer 15 1 down A" ∷ codes "frame 2" ∷ codes "cancel 2 1 A" ∷ codes "pointer 19 1 nobody" ∷ codes "pointer ends lines 2" ∷ []
unfolding digits
stream_is_cancelled = refl
